-- What stands in the trees of a volume, as plain lists, and when they are those that a tree of nodes says.
use Rattle.std.specs.Prelude.{◌≡◌, ◌↔◌, ℕ, ℤ, pos, List, Some, ◌==◌, if◌then◌else◌}
use Rattle.std.specs.Str.{bytes_eq}
use Rattle.std.specs.FinMap.{get}
use Rattle.bfs_base.specs.declared.kind.KeyKind.{KeyKind}
use Rattle.bfs_base.specs.declared.kind.KeyKind.TheVariants.{Text}
use Rattle.bfs_super.specs.Conditions.{natural}
use Rattle.bfs_node.specs.Page.{Row}
use Rattle.bfs_pages.specs.Maps.{assoc}
use Rattle.bfs_tree.specs.declared.call.Kind.TheVariants.{Dir}
use Rattle.bfs_tree.specs.Listings.{listed}
use Rattle.bfs_tree.specs.Trees.{Node, Tree, IsNode}
use Rattle.bfs_sound.specs.Listings.{IsRow}

-- The rows of each directory, by its id; the rows of the index directory; and for each index, by its name, the kind of its keys
-- and its pairs of key and id.
pub record Lists : Type 0 where
  pub rows : ℕ → List Row
  pub names : List Row
  pub kinds : List ℕ → KeyKind
  pub pairs : List ℕ → List (List ℕ × ℕ)

-- the lists, where one directory has other rows
abbrev pub with_rows : Lists → ℕ → List Row → Lists
with_rows lists d rows = record lists { rows = λ id. if id == d then rows else lists.rows id }

-- the lists, where one index has other pairs
abbrev pub with_pairs : Lists → List ℕ → List (List ℕ × ℕ) → Lists
with_pairs lists name pairs = record lists { pairs = λ index. if bytes_eq index name then pairs else lists.pairs index }

-- the lists, where the index directory has other rows
abbrev pub with_names : Lists → List Row → Lists
with_names lists names = record lists { names = names }

-- the lists, where one name is that of an index of this kind, with these pairs
abbrev pub with_index : Lists → List ℕ → KeyKind → List (List ℕ × ℕ) → Lists
with_index lists name kind pairs = record lists {
  kinds = λ index. if bytes_eq index name then kind else lists.kinds index;
  pairs = λ index. if bytes_eq index name then pairs else lists.pairs index;
}

-- the rows of each directory are `.`, `..` and its children
abbrev pub RowsAgree : Tree → Lists → Type 0
RowsAgree tree lists = (id : ℕ) (n : Node) → IsNode tree id n → n.kind ≡ Dir → (name : List ℕ) (value : ℤ)
    → (assoc Text (lists.rows id) name ≡ Some value) ↔ IsRow tree id n name value

-- a row of the index directory is an index of the tree: its kind is the tree's, its value a number, and its pairs are those that
-- the tree's rule lists
pub record IsIndexIn (tree : Tree) (lists : Lists) (name : List ℕ) (value : ℤ) : Type 0 where
  pub kind : get tree.indices name ≡ Some (lists.kinds name)
  pub number : value ≡ pos (natural value)
  pub pairs : lists.pairs name ≡ listed tree name (lists.kinds name)

-- The lists are those that a tree says: of each directory `.`, `..` and its children, and the tree's indices with the pairs that
-- each lists. Nothing of blocks or bytes is in it.
pub record Agrees (tree : Tree) (lists : Lists) : Type 0 where
  pub rows : RowsAgree tree lists
  pub indices : (name : List ℕ) (value : ℤ) → assoc Text lists.names name ≡ Some value → IsIndexIn tree lists name value
  pub no_more : (name : List ℕ) (kind : KeyKind) → get tree.indices name ≡ Some kind → (value : ℤ)
      × (assoc Text lists.names name ≡ Some value)
