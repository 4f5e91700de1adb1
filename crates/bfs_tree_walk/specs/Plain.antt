-- Rows of a tree whose values are plain numbers.
use Rattle.std.specs.Prelude.{◌≡◌, ◌<◌, ℕ, List, length, Option, Some, None}
use Rattle.std.specs.List.{AllByRecursion}
use Rattle.bfs_base.specs.Lists.{Has}
use Rattle.bfs_base.specs.declared.kind.KeyKind.{KeyKind}
use Rattle.bfs_base.specs.declared.kind.KeyKind.TheVariants.{Text}
use Rattle.bfs_node.specs.Page.{Row, rows_of, row_in, value_of}
use Rattle.bfs_pages.specs.Trees.{state_of, page_in}
use Rattle.bfs_values.specs.declared.link.Link.{Link}
use Rattle.bfs_values.specs.declared.link.Link.TheVariants.{Number, Fragment, Chain, Nothing}
use Rattle.bfs_values.specs.Links.{link_in}
use Rattle.bfs_values.specs.Reached.{IsWholeTree}
use Rattle.bfs_values.specs.Rows.{rows_at, rows_in}
use Rattle.bfs_sound.specs.Owners.{In}
use Rattle.bfs_finding.specs.Walks.{leaves_in}
use Rattle.bfs_tree_walk.specs.declared.row.OtherRow.{OtherRow}

-- what is named is a plain number
abbrev pub IsNumber : Link → Type 0
IsNumber (Number n) = Unit {0}
IsNumber (Fragment page i) = ⊥
IsNumber (Chain page) = ⊥
IsNumber Nothing = ⊥

-- it is a fragment or a chain
abbrev pub IsReference : Link → Type 0
IsReference (Number n) = ⊥
IsReference (Fragment page i) = Unit {0}
IsReference (Chain page) = Unit {0}
IsReference Nothing = ⊥

-- each row's value is a plain number
abbrev pub ArePlain : List Row → Type 0
ArePlain rows = AllByRecursion (λ r. IsNumber (link_in (value_of r))) rows

-- the row at this place of this leaf is one of the tree, and its value, which is this one, names a fragment or a chain
pub record IsOtherRow (kind : KeyKind) (bytes : List ℕ) (other : OtherRow) : Type 0 where
  pub leaf : Has (leaves_in kind bytes) other.page
  pub inside : other.index < length (rows_of (page_in bytes other.page))
  pub value : value_of (row_in (rows_of (page_in bytes other.page)) other.index) ≡ other.value
  pub row : In (row_in (rows_of (page_in bytes other.page)) other.index) (rows_in kind bytes)
  pub names : IsReference (link_in other.value)

-- the values of a leaf are plain numbers, or that of this row isn't
abbrev pub IsPlainAt : KeyKind → List ℕ → ℕ → Option OtherRow → Type 0
IsPlainAt kind bytes at None = ArePlain (rows_at ((state_of kind bytes).bodies at))
IsPlainAt kind bytes at (Some other) = IsOtherRow kind bytes other

-- the values of a tree are plain numbers, or that of this row isn't
abbrev pub HasPlain : KeyKind → List ℕ → Option OtherRow → Type 0
HasPlain kind bytes None = ArePlain (rows_in kind bytes)
HasPlain kind bytes (Some other) = IsOtherRow kind bytes other

-- the bytes are those of a whole tree of names whose values are plain numbers, or the value of this row isn't
abbrev pub IsNames : List ℕ → Option OtherRow → Type 0
IsNames bytes None = IsWholeTree Text bytes × ArePlain (rows_in Text bytes)
IsNames bytes (Some other) = IsOtherRow Text bytes other
