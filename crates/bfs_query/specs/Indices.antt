-- What is read of the indices of a volume.
use Rattle.std.specs.Prelude.{◌≡◌, ℕ, pos, List, Option, Some, None}
use Rattle.bfs_base.specs.declared.kind.KeyKind.{KeyKind}
use Rattle.bfs_base.specs.declared.kind.KeyKind.TheVariants.{Text}
use Rattle.bfs_pages.specs.Maps.{assoc}
use Rattle.std.specs.List.{AllByRecursion}
use Rattle.bfs_tree.specs.Trees.{Tree, Nodes}
use Rattle.bfs_tree.specs.Listings.{found_row}
use Rattle.bfs_tree.specs.declared.rows.FoundRow.{FoundRow}
use Rattle.bfs_tree.specs.declared.rows.IndexRow.{IndexRow}
use Rattle.bfs_attr.specs.declared.directory.InodeRow.{InodeRow}
use Rattle.bfs_index.specs.declared.found.Pair.{Pair}
use Rattle.bfs_shift.specs.Lists.{Lists}
use Rattle.bfs_look.specs.Ready.{HasNodeAt}
use Rattle.bfs_query.specs.declared.kind.IndexAt.{IndexAt}

-- the row of a name leads to this index; or there is no such row
abbrev pub IsIndexFound : Lists → List ℕ → Option IndexAt → Type 0
IsIndexFound lists name None = assoc Text lists.names name ≡ None
IsIndexFound lists name (Some at) = (assoc Text lists.names name ≡ Some (pos at.inode)) × (at.kind ≡ lists.kinds name)

-- the rows of a search, by the pairs that an index has between two keys
abbrev pub row_found : Nodes → KeyKind → Pair → FoundRow
row_found nodes kind pair = found_row nodes kind (pair.key, pair.id)

-- each of these pairs is a node's
abbrev pub AreNodes : Tree → List Pair → Type 0
AreNodes tree pairs = AllByRecursion (λ pair. HasNodeAt tree pair.id) pairs

-- the row of an index, by that of the index directory
abbrev pub index_row : Lists → InodeRow → IndexRow
index_row lists row = record { kind = lists.kinds row.name; name = row.name }

-- the row leads to the inode of an index of its name
abbrev pub IsIndexRowOf : Lists → InodeRow → Type 0
IsIndexRowOf lists row = assoc Text lists.names row.name ≡ Some (pos row.id)
