-- A tree of pages as data: its rows, its pages, and what is met from left to right.
use Rattle.std.specs.Prelude.{◌≡◌, ℕ, ℤ, zero, suc, List, [], ◌∷◌, ◌++◌, Option, Some, true}
use Rattle.std.specs.List.{AllByRecursion}
use Rattle.bfs_node.specs.BaseKeyKind.{KeyKind}
use Rattle.bfs_node.specs.Page.{Row}
use Rattle.bfs_pages.specs.Order.{Key, comes_before, at_most}

-- what a page says: the rows of a leaf, or the keys of an interior page, each with the child before it, and the last child
pub data Body : Type 0 where
  leaf_body : List Row → Body
  inner_body : List (Key × ℕ) → ℕ → Body

-- A tree: the place of a leaf with its rows, or the place of an interior page with what is below it. What is below is one
-- tree, or a tree, a key, and more.
mutual
  pub data Shape : Type 0 where
    leaf_shape : ℕ → List Row → Shape
    node_shape : ℕ → Shapes → Shape

  pub data Shapes : Type 0 where
    last_shape : Shape → Shapes
    more_shapes : Shape → Key → Shapes → Shapes

-- where the tree's topmost page is
abbrev pub place : Shape → ℕ
place (leaf_shape at rows) = at
place (node_shape at below) = at

-- the rows of all leaves, from left to right
abbrev mutual
  pub tree_rows : Shape → List Row
  tree_rows (leaf_shape at rows) = rows
  tree_rows (node_shape at below) = trees_rows below

  pub trees_rows : Shapes → List Row
  trees_rows (last_shape t) = tree_rows t
  trees_rows (more_shapes t key ts) = tree_rows t ++ trees_rows ts

-- the places of all pages
abbrev mutual
  pub met_by : Shape → List ℕ
  met_by (leaf_shape at rows) = at ∷ []
  met_by (node_shape at below) = at ∷ met_by_all below

  pub met_by_all : Shapes → List ℕ
  met_by_all (last_shape t) = met_by t
  met_by_all (more_shapes t key ts) = met_by t ++ met_by_all ts

-- the leaves, from left to right
abbrev mutual
  pub leaves_of : Shape → List ℕ
  leaves_of (leaf_shape at rows) = at ∷ []
  leaves_of (node_shape at below) = leaves_all below

  pub leaves_all : Shapes → List ℕ
  leaves_all (last_shape t) = leaves_of t
  leaves_all (more_shapes t key ts) = leaves_of t ++ leaves_all ts

-- the keys of an interior page, each with the place of the child before it, and the place of its last child
abbrev pub children_of : Shapes → List (Key × ℕ)
children_of (last_shape t) = []
children_of (more_shapes t key ts) = (key, place t) ∷ children_of ts

abbrev pub last_child : Shapes → ℕ
last_child (last_shape t) = place t
last_child (more_shapes t key ts) = last_child ts

-- every leaf is so many pages down
abbrev mutual
  pub IsDeep : ℕ → Shape → Type 0
  IsDeep n (leaf_shape at rows) = n ≡ 0
  IsDeep zero (node_shape at below) = ⊥
  IsDeep (suc n) (node_shape at below) = AreDeep n below

  pub AreDeep : ℕ → Shapes → Type 0
  AreDeep n (last_shape t) = IsDeep n t
  AreDeep n (more_shapes t key ts) = IsDeep n t × AreDeep n ts

-- each page says what the tree has there
abbrev mutual
  pub Stands : (ℕ → Option Body) → Shape → Type 0
  Stands bodies (leaf_shape at rows) = bodies at ≡ Some (leaf_body rows)
  Stands bodies (node_shape at below) = (bodies at ≡ Some (inner_body (children_of below) (last_child below))) × StandAll bodies below

  pub StandAll : (ℕ → Option Body) → Shapes → Type 0
  StandAll bodies (last_shape t) = Stands bodies t
  StandAll bodies (more_shapes t key ts) = Stands bodies t × StandAll bodies ts

-- what is met from left to right: the rows of leaves, and between two children the key of their page
pub data Entry : Type 0 where
  a_row : Key → ℤ → Entry
  a_bound : Key → Entry

abbrev pub key_in : Entry → Key
key_in (a_row k v) = k
key_in (a_bound k) = k

abbrev pub entries_in : List Row → List Entry
entries_in [] = []
entries_in (r ∷ rs) = a_row r.0 r.1 ∷ entries_in rs

abbrev mutual
  pub entries_of : Shape → List Entry
  entries_of (leaf_shape at rows) = entries_in rows
  entries_of (node_shape at below) = entries_all below

  pub entries_all : Shapes → List Entry
  entries_all (last_shape t) = entries_of t
  entries_all (more_shapes t key ts) = entries_of t ++ (a_bound key ∷ entries_all ts)

-- A row's key is above all keys before it, and the key of an interior page is at least each key before it. So the keys
-- under a child are above the key before it and at most the key behind it, and two keys of interior pages are the same
-- only where no row stands between them.
abbrev pub IsAbove : KeyKind → Key → Entry → Type 0
IsAbove kind k (a_row l v) = comes_before kind k l ≡ true
IsAbove kind k (a_bound b) = at_most kind k b ≡ true

abbrev pub Precedes : KeyKind → Entry → Entry → Type 0
Precedes kind e f = IsAbove kind (key_in e) f

abbrev pub AscendAll : KeyKind → List Entry → Type 0
AscendAll kind [] = Unit {0}
AscendAll kind (e ∷ es) = AllByRecursion (λ f. Precedes kind e f) es × AscendAll kind es
