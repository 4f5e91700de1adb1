-- The rows of a tree of names.
use Rattle.std.specs.Prelude.{◌≡◌, ℕ, List, map}
use Rattle.bfs_base.specs.declared.kind.KeyKind.TheVariants.{Text}
use Rattle.bfs_node.specs.Page.{Row}
use Rattle.bfs_values.specs.Reached.{IsWholeTree}
use Rattle.bfs_values.specs.Rows.{rows_in}
use Rattle.bfs_names_walk.specs.declared.row.NameRow.{NameRow}

-- names with their values, as the rows of a page are written
abbrev pub as_rows : List NameRow → List Row
as_rows rows = map (λ (r : NameRow). (r.name, r.value)) rows

-- the bytes are those of a whole tree of names, and these are its rows, in order
pub record AreNames (bytes : List ℕ) (rows : List NameRow) : Type 0 where
  pub tree : IsWholeTree Text bytes
  pub are : as_rows rows ≡ rows_in Text bytes
