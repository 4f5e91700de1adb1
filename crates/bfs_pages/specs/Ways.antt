-- A tree of pages that grows: the way of a key, and other children in the place of one.
use Rattle.std.specs.Prelude.{◌≡◌, ℕ, ℤ, zero, suc, List, [], ◌∷◌, ◌++◌, true, false, if◌then◌else◌}
use Rattle.std.specs.List.{AllByRecursion}
use Rattle.bfs_node.specs.BaseKeyKind.{KeyKind}
use Rattle.bfs_node.specs.Page.{Row}
use Rattle.bfs_pages.specs.Order.{Key, comes_before, at_most}
use Rattle.bfs_pages.specs.Shapes.{Shape, Shapes, leaf_shape, node_shape, last_shape, more_shapes, Entry, a_row, a_bound, entries_of, entries_all, leaves_of, leaves_all}

-- the child that a key leads to: the first whose key is not less
abbrev pub child_for : KeyKind → Shapes → Key → Shape
child_for kind (last_shape t) k = t
child_for kind (more_shapes t key ts) k = if at_most kind k key then t else child_for kind ts k

-- the same, as the page says it
abbrev pub pick_of : KeyKind → List (Key × ℕ) → ℕ → Key → ℕ
pick_of kind [] last k = last
pick_of kind (c ∷ cs) last k = if at_most kind k c.0 then c.1 else pick_of kind cs last k

-- these children, then a key and those
abbrev pub joined : Shapes → Key → Shapes → Shapes
joined (last_shape t) key ts = more_shapes t key ts
joined (more_shapes t k us) key ts = more_shapes t k (joined us key ts)

-- other children in the place of the one that a key leads to
abbrev pub spliced : KeyKind → Shapes → Key → Shapes → Shapes
spliced kind (last_shape t) k ss = ss
spliced kind (more_shapes t key ts) k ss = if at_most kind k key then joined ss key ts else more_shapes t key (spliced kind ts k ss)

abbrev pub rows_in : List Entry → List Row
rows_in [] = []
rows_in (a_row k v ∷ es) = (k, v) ∷ rows_in es
rows_in (a_bound k ∷ es) = rows_in es

-- those before and behind the child that a key leads to
abbrev pub before : KeyKind → Shapes → Key → List Entry
before kind (last_shape t) k = []
before kind (more_shapes t key ts) k = if at_most kind k key then [] else entries_of t ++ (a_bound key ∷ before kind ts k)

abbrev pub behind : KeyKind → Shapes → Key → List Entry
behind kind (last_shape t) k = []
behind kind (more_shapes t key ts) k = if at_most kind k key then a_bound key ∷ entries_all ts else behind kind ts k

abbrev pub leaves_before : KeyKind → Shapes → Key → List ℕ
leaves_before kind (last_shape t) k = []
leaves_before kind (more_shapes t key ts) k = if at_most kind k key then [] else leaves_of t ++ leaves_before kind ts k

abbrev pub leaves_behind : KeyKind → Shapes → Key → List ℕ
leaves_behind kind (last_shape t) k = []
leaves_behind kind (more_shapes t key ts) k = if at_most kind k key then leaves_all ts else leaves_behind kind ts k

-- the tree so many levels down the way of a key
abbrev pub under : KeyKind → ℕ → Shape → Key → Shape
under kind zero t k = t
under kind (suc d) (leaf_shape at rows) k = leaf_shape at rows
under kind (suc d) (node_shape at below) k = under kind d (child_for kind below k) k

-- the tree with another in that place
abbrev pub instead : KeyKind → ℕ → Shape → Key → Shape → Shape
instead kind zero t k s = s
instead kind (suc d) (leaf_shape at rows) k s = s
instead kind (suc d) (node_shape at below) k s = node_shape at (spliced kind below k (last_shape (instead kind d (child_for kind below k) k s)))

-- the entries before and behind it
abbrev pub before_way : KeyKind → ℕ → Shape → Key → List Entry
before_way kind zero t k = []
before_way kind (suc d) (leaf_shape at rows) k = []
before_way kind (suc d) (node_shape at below) k = before kind below k ++ before_way kind d (child_for kind below k) k

abbrev pub behind_way : KeyKind → ℕ → Shape → Key → List Entry
behind_way kind zero t k = []
behind_way kind (suc d) (leaf_shape at rows) k = []
behind_way kind (suc d) (node_shape at below) k = behind_way kind d (child_for kind below k) k ++ behind kind below k

abbrev pub leaves_before_way : KeyKind → ℕ → Shape → Key → List ℕ
leaves_before_way kind zero t k = []
leaves_before_way kind (suc d) (leaf_shape at rows) k = []
leaves_before_way kind (suc d) (node_shape at below) k = leaves_before kind below k ++ leaves_before_way kind d (child_for kind below k) k

abbrev pub leaves_behind_way : KeyKind → ℕ → Shape → Key → List ℕ
leaves_behind_way kind zero t k = []
leaves_behind_way kind (suc d) (leaf_shape at rows) k = []
leaves_behind_way kind (suc d) (node_shape at below) k = leaves_behind_way kind d (child_for kind below k) k ++ leaves_behind kind below k

-- two pages with a key between in the place of a child: what the page says
abbrev pub keys_split : KeyKind → List (Key × ℕ) → ℕ → Key → Key → ℕ → List (Key × ℕ)
keys_split kind [] last k key right = (key, last) ∷ []
keys_split kind (c ∷ cs) last k key right = if at_most kind k c.0 then (key, c.1) ∷ (c.0, right) ∷ cs else c ∷ keys_split kind cs last k key right

abbrev pub last_split : KeyKind → List (Key × ℕ) → ℕ → Key → ℕ → ℕ
last_split kind [] last k right = right
last_split kind (c ∷ cs) last k right = if at_most kind k c.0 then last else last_split kind cs last k right

-- each key is less than those behind it
abbrev pub KeysAscend : {A : Type 0} → KeyKind → List (Key × A) → Type 0
KeysAscend kind [] = Unit {0}
KeysAscend kind (r ∷ rs) = AllByRecursion (λ s. comes_before kind r.0 s.0 ≡ true) rs × KeysAscend kind rs

-- each key is at most those behind it
abbrev pub KeysRise : {A : Type 0} → KeyKind → List (Key × A) → Type 0
KeysRise kind [] = Unit {0}
KeysRise kind (r ∷ rs) = AllByRecursion (λ s. at_most kind r.0 s.0 ≡ true) rs × KeysRise kind rs

-- the first row whose key is not less than this one is at this place, or there is none and it is the end
abbrev pub FirstAt : KeyKind → List Row → Key → ℕ → Type 0
FirstAt kind [] k i = i ≡ 0
FirstAt kind (r ∷ rs) k zero = at_most kind k r.0 ≡ true
FirstAt kind (r ∷ rs) k (suc i) = (at_most kind k r.0 ≡ false) × FirstAt kind rs k i

-- the value of the row at a place, or behind the last row this one
abbrev pub link_at : List Row → ℤ → ℕ → ℤ
link_at [] last i = last
link_at (r ∷ rs) last zero = r.1
link_at (r ∷ rs) last (suc i) = link_at rs last i
