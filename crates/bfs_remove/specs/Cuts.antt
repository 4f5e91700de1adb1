-- A tree of pages that shrinks: a child less, a leaf less in the row of leaves, and lines of pages.
use Rattle.std.specs.Prelude.{◌≡◌, ◌⊎◌, ◌≤◌, length, ◌≢◌, ◌+◌, ℕ, zero, suc, List, [], ◌∷◌, ◌++◌, Option, Some, None, if◌then◌else◌}
use Rattle.bfs_base.specs.declared.kind.KeyKind.{KeyKind}
use Rattle.bfs_pages.specs.Order.{Key, at_most}
use Rattle.bfs_pages.specs.Shapes.{Shape, Shapes, leaf_shape, node_shape, last_shape, more_shapes, place, met_by, leaves_of, Stands, IsDeep}
use Rattle.bfs_pages.specs.Trees.{State, Holds}
use Rattle.bfs_pages.specs.Ways.{child_for, under}
use Rattle.bfs_remove.specs.declared.way.Branch.{Branch}

-- the children without the one that a key leads to, where there are two or more
abbrev pub dropped : KeyKind → Shapes → Key → Shapes
dropped kind (last_shape t) k = last_shape t
dropped kind (more_shapes t key (last_shape u)) k = if at_most kind k key then last_shape u else last_shape t
dropped kind (more_shapes t key (more_shapes u b us)) k = if at_most kind k key then more_shapes u b us else more_shapes t key (dropped kind (more_shapes u b us) k)

-- each page has one child, down to a leaf
abbrev pub IsChain : Shape → ℕ → Type 0
IsChain (leaf_shape at rows) leaf = at ≡ leaf
IsChain (node_shape at (last_shape t)) leaf = IsChain t leaf
IsChain (node_shape at (more_shapes t key ts)) leaf = ⊥

-- two children or more
abbrev pub HasMore : Shapes → Type 0
HasMore (last_shape t) = ⊥
HasMore (more_shapes t key ts) = Unit {0}

-- so many pages down with one child each
abbrev pub IsLine : ℕ → Shape → Type 0
IsLine zero u = Unit {0}
IsLine (suc n) (leaf_shape at rows) = ⊥
IsLine (suc n) (node_shape at (last_shape t)) = IsLine n t
IsLine (suc n) (node_shape at (more_shapes t key ts)) = ⊥

-- what the page says without the child that a key leads to
abbrev pub keys_without : KeyKind → List (Key × ℕ) → Key → List (Key × ℕ)
keys_without kind [] k = []
keys_without kind (b ∷ []) k = []
keys_without kind (b ∷ (c ∷ cs)) k = if at_most kind k b.0 then c ∷ cs else b ∷ keys_without kind (c ∷ cs) k

abbrev pub last_without : KeyKind → List (Key × ℕ) → ℕ → Key → ℕ
last_without kind [] last k = last
last_without kind (b ∷ []) last k = if at_most kind k b.0 then last else b.1
last_without kind (b ∷ (c ∷ cs)) last k = if at_most kind k b.0 then last else last_without kind (c ∷ cs) last k

-- the links where a leaf goes
pub record DropLinks (old new : ℕ → ℕ × ℕ) (p : ℕ) : Type 0 where
  pub left : (old p).0 ≢ 0 → new (old p).0 ≡ ((old (old p).0).0, (old p).1)
  pub right : (old p).1 ≢ 0 → new (old p).1 ≡ ((old p).0, (old (old p).1).1)
  pub others : (x : ℕ) → x ≢ (old p).0 → x ≢ (old p).1 → new x ≡ old x

-- A line of so many interior pages and a leaf is in hand: it is in neither the tree nor the free list, and begins there.
pub record InHand (kind : KeyKind) (st : State) (reached : List ℕ) (page left : ℕ) (t : Shape) (fs : List ℕ) (u : Shape) : Type 0 where
  pub holds : Holds kind st (met_by u ++ reached) t fs
  pub stands : Stands st.bodies u
  pub line : IsLine left u
  pub deep : IsDeep left u
  pub begins : place u ≡ page

-- The last page with a key on a key's way, which goes on so many levels: the child behind it there, and how many interior
-- pages there are from that child on. Where there is none, each page of the tree has one child.
abbrev pub Marked : KeyKind → ℕ → Shape → Key → Option Branch → Type 0
Marked kind d t k None = IsLine d t
Marked kind d t k (Some branch) =
    (a : ℕ) × (below : Shapes) × (d ≡ suc (a + branch.below)) × (under kind a t k ≡ node_shape branch.page below) × HasMore below
    × (place (child_for kind below k) ≡ branch.child) × IsLine branch.below (child_for kind below k)

-- each leaf has a row
abbrev mutual
  pub HasNoEmpty : Shape → Type 0
  HasNoEmpty (leaf_shape at rows) = 1 ≤ length rows
  HasNoEmpty (node_shape at below) = HaveNoEmpty below

  pub HaveNoEmpty : Shapes → Type 0
  HaveNoEmpty (last_shape t) = HasNoEmpty t
  HaveNoEmpty (more_shapes t key ts) = HasNoEmpty t × HaveNoEmpty ts

-- no leaf is empty but the only one
abbrev pub IsFilled : Shape → Type 0
IsFilled t = HasNoEmpty t ⊎ (length (leaves_of t) ≡ 1)
