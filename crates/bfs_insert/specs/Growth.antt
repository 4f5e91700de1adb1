-- What an insert makes of what the pages say.
use Rattle.std.specs.Prelude.{◌≡◌, ◌≢◌, ◌≤◌, ◌+◌, ℕ, ℤ, suc, List, [], ◌∷◌, ◌++◌, length, Option, Some, None}
use Rattle.bfs_base.specs.declared.kind.KeyKind.{KeyKind}
use Rattle.bfs_node.specs.Page.{Row}
use Rattle.bfs_pages.specs.Order.{Key}
use Rattle.bfs_pages.specs.Maps.{assoc, put}
use Rattle.bfs_pages.specs.Shapes.{Body, leaf_body, inner_body, Shape, tree_rows, place}
use Rattle.bfs_pages.specs.Ways.{under, keys_split, last_split, KeysAscend}
use Rattle.bfs_pages.specs.Changes.{Others, Same, Stay}
use Rattle.bfs_insert.specs.Divided.{IsRoomy}
use Rattle.bfs_pages.specs.Trees.{State, Holds}
use Rattle.bfs_pages.specs.Changes.{Same, Others}

-- how many bytes all keys have
abbrev pub key_total : {A : Type 0} → List (Key × A) → ℕ
key_total [] = 0
key_total (r ∷ rs) = length r.0 + key_total rs

-- the links where a leaf q comes behind a leaf c
pub record SplitLinks (old new : ℕ → ℕ × ℕ) (c q : ℕ) : Type 0 where
  pub left : new c ≡ ((old c).0, q)
  pub right : new q ≡ (c, (old c).1)
  pub next : (old c).1 ≢ 0 → new (old c).1 ≡ (q, (old (old c).1).1)
  pub others : (x : ℕ) → x ≢ c → x ≢ q → x ≢ (old c).1 → new x ≡ old x

abbrev pub SplitChild : State → State → ℕ → ℕ → Key → Option Body → Type 0
SplitChild st new c q sep None = ⊥
SplitChild st new c q sep (Some (leaf_body rows)) = (l : List Row) × (v : ℤ) × (b : Key) × (w : ℤ) × (r : List Row) × (rows ≡ l ++ ((sep, v) ∷ (b, w) ∷ r))
    × (new.bodies c ≡ Some (leaf_body (l ++ ((sep, v) ∷ [])))) × (new.bodies q ≡ Some (leaf_body ((b, w) ∷ r))) × SplitLinks st.links new.links c q
SplitChild st new c q sep (Some (inner_body keys last)) = (kl : List (Key × ℕ)) × (m : ℕ) × (kr : List (Key × ℕ)) × (keys ≡ kl ++ ((sep, m) ∷ kr))
    × (new.bodies c ≡ Some (inner_body kl m)) × (new.bodies q ≡ Some (inner_body kr last)) × ((x : ℕ) → x ≢ q → new.links x ≡ st.links x)

-- A child c of a page is split into c and q, with a key between: its parent gets the key. Both halves have room, and the
-- pages that values reach stay.
pub record SplitOff (kind : KeyKind) (st new : State) (reached : List ℕ) (at c : ℕ) (k : Key) (q : ℕ) (sep : Key) : Type 0 where
  pub others : Others st new at c q
  pub parent : (keys : List (Key × ℕ)) (last : ℕ) → st.bodies at ≡ Some (inner_body keys last) → new.bodies at ≡ Some (inner_body (keys_split kind keys last k sep q) (last_split kind keys last k q))
  pub child : SplitChild st new c q sep (st.bodies c)
  pub left_room : IsRoomy (new.pages c)
  pub right_room : IsRoomy (new.pages q)
  pub stay : Stay st new reached

-- a row comes into a leaf, and all else that pages say stays
pub record RowPut (kind : KeyKind) (st new : State) (at : ℕ) (k : Key) (v : ℤ) : Type 0 where
  pub bodies : (x : ℕ) → x ≢ at → new.bodies x ≡ st.bodies x
  pub frees : (x : ℕ) → x ≢ at → new.frees x ≡ st.frees x
  pub links : (x : ℕ) → new.links x ≡ st.links x
  pub pages : (x : ℕ) → x ≢ at → new.pages x ≡ st.pages x
  pub root : new.root ≡ st.root
  pub levels : new.levels ≡ st.levels
  pub free : new.free ≡ st.free
  pub size : new.size ≡ st.size
  pub leaf : (rows : List Row) → st.bodies at ≡ Some (leaf_body rows) → KeysAscend kind rows → new.bodies at ≡ Some (leaf_body (put kind rows k v))

-- a page becomes the root above the old one, without keys
pub record Rooted (st new : State) (q : ℕ) : Type 0 where
  pub same : Same st new q
  pub root : new.root ≡ q
  pub levels : new.levels ≡ suc st.levels
  pub free : new.free ≡ st.free
  pub size : new.size ≡ st.size
  pub body : new.bodies q ≡ Some (inner_body [] st.root)

-- The tree is the same map, and a key's way goes from this page to the next, which has room; the pages that values reach
-- stay.
abbrev pub StepsDown : KeyKind → State → State → ℕ → Key → ℕ → Type 0
StepsDown kind st new at k next = (reached : List ℕ) (t : Shape) (fs : List ℕ) (d : ℕ) → Holds kind st reached t fs → 1 ≤ st.size → suc d ≤ st.levels → place (under kind d t k) ≡ at
    → (t2 : Shape) × (fs2 : List ℕ) × Holds kind new reached t2 fs2 × (tree_rows t2 ≡ tree_rows t) × (place (under kind (suc d) t2 k) ≡ next) × (1 ≤ new.size) × IsRoomy (new.pages next) × Stay st new reached

abbrev pub Heightens : KeyKind → State → State → Type 0
Heightens kind st new = (reached : List ℕ) (t : Shape) (fs : List ℕ) → Holds kind st reached t fs → 1 ≤ st.size
    → (t2 : Shape) × (fs2 : List ℕ) × Holds kind new reached t2 fs2 × (tree_rows t2 ≡ tree_rows t) × (1 ≤ new.size) × Stay st new reached

-- The tree is the same map, and a key's way leads to this page, which has room and from which it goes down so many levels;
-- the pages that values reach stay.
abbrev pub Reaches : KeyKind → State → State → Key → ℕ → ℕ → Type 0
Reaches kind st now k at left = (reached : List ℕ) (t : Shape) (fs : List ℕ) → Holds kind st reached t fs → 1 ≤ st.size
    → (t2 : Shape) × (fs2 : List ℕ) × (d : ℕ) × Holds kind now reached t2 fs2 × (tree_rows t2 ≡ tree_rows t) × (1 ≤ now.size) × (d + left ≡ now.levels) × (place (under kind d t2 k) ≡ at) × IsRoomy (now.pages at) × Stay st now reached

abbrev pub Inserts : KeyKind → State → State → Key → ℤ → Type 0
Inserts kind st new k v = (reached : List ℕ) (t : Shape) (fs : List ℕ) → Holds kind st reached t fs → 1 ≤ st.size → assoc kind (tree_rows t) k ≡ None
    → (t2 : Shape) × (fs2 : List ℕ) × Holds kind new reached t2 fs2 × (tree_rows t2 ≡ put kind (tree_rows t) k v) × Stay st new reached
