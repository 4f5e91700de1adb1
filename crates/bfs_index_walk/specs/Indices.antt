-- The index directory and the indices that were gone over.
use Rattle.std.specs.Prelude.{◌≡◌, ◌<◌, ℕ, pos, List, ◌∷◌, ◌++◌, map, Option, Some, None}
use Rattle.std.specs.List.{AllByRecursion}
use Rattle.bfs_base.specs.Keys.{IsTreeKind}
use Rattle.bfs_base.specs.Lists.{times, Has}
use Rattle.bfs_node.specs.Page.{Row}
use Rattle.bfs_sound.specs.Volumes.{Volume}
use Rattle.bfs_sound.specs.Inodes.{content, index_directory}
use Rattle.bfs_sound.specs.Listings.{IsIndex, HasIndexDirectory, index_rows}
use Rattle.bfs_sound.specs.Owners.{index_blocks}
use Rattle.bfs_finding.specs.Ways.{Way, to_indices, to_index, Arrives, blocks_by}
use Rattle.bfs_claims.specs.Claims.{Claimed, AreClaimed}
use Rattle.bfs_node_check.specs.declared.role.Role.TheVariants as roles
use Rattle.bfs_owner.specs.declared.place.Place.{Place}
use Rattle.bfs_names_walk.specs.Rows.{as_rows, AreNames}
use Rattle.bfs_names_walk.specs.declared.row.NameRow.{NameRow}
use Rattle.bfs_node_walk.specs.Listed.{proper, NamesBlock}
use Rattle.bfs_attrs_walk.specs.Attributed.{places_of_rows}
use Rattle.bfs_tour.specs.Tours.{Found, AreIndices}
use Rattle.bfs_index_walk.specs.declared.found.FoundIndex.{FoundIndex}

-- the row of the index directory that names an index
abbrev pub as_row : FoundIndex → Row
as_row i = (i.name, pos i.id)

-- an index as a tour has it: its name and its kind
abbrev pub as_found : FoundIndex → Found
as_found i = (i.name, i.kind)

abbrev pub kinds_of : List FoundIndex → List Found
kinds_of found = map as_found found

-- these rows name these indices, in order, and each is one with its kind of keys
pub record AreFound (v : Volume) (rows : List Row) (found : List FoundIndex) : Type 0 where
  pub are : map as_row found ≡ rows
  pub indices : AllByRecursion (λ (i : FoundIndex). IsIndex v i.id i.kind) found

-- each has its inode in a volume of so many blocks, and a kind of keys that a tree may have
abbrev pub AreInside : ℕ → List FoundIndex → Type 0
AreInside blocks found = AllByRecursion (λ (i : FoundIndex). (i.id < blocks) × IsTreeKind i.kind) found

-- The index directory was gone over: where there is one, it keeps its format; these are the indices that its rows name; and its blocks
-- are claimed with theirs, besides what was claimed at first. Where there is none, there are no rows and no indices.
pub record AreWalked (v : Volume) (first : List ℕ) (claims : Claimed) (found : List FoundIndex) : Type 0 where
  pub directory : HasIndexDirectory v (index_directory v)
  pub indices : AreFound v (index_rows v) found
  pub kinds : AreIndices v (index_rows v) (kinds_of found)
  pub claimed : AreClaimed claims (first ++ index_blocks v)

-- the index directory is at this block, these are its rows, and each but `.` and `..` names a block
pub record AreRowsOf (v : Volume) (d : ℕ) (rows : List NameRow) : Type 0 where
  pub there : index_directory v ≡ Some d
  pub names : AreNames (content v d) rows
  pub inside : AllByRecursion (NamesBlock v.geometry.blocks) (proper (as_rows rows))

-- it is the way to the index directory, or one by a row of it
abbrev pub IsIndexWay : Way → Type 0
IsIndexWay to_indices = Unit {0}
IsIndexWay (to_index name) = Unit {0}
IsIndexWay _ = ⊥

-- the index directory or an index, in its place
abbrev pub place_at : ℕ → Place
place_at id = record { id = id; role = roles.Index }

-- the index directory with the indices that rows name, and with indices that were found
abbrev pub places_by_rows : ℕ → List NameRow → List Place
places_by_rows d rows = place_at d ∷ places_of_rows roles.Index rows

abbrev pub places_of_found : ℕ → List FoundIndex → List Place
places_of_found d found = place_at d ∷ map (λ (i : FoundIndex). place_at i.id) found

-- the index directory or an index with this number has the block, or none of them has it
abbrev pub IsIndexOwner : Volume → ℕ → Option ℕ → Type 0
IsIndexOwner v block (Some id) = (way : Way) × IsIndexWay way × Arrives v way id × Has (blocks_by v way id) block
IsIndexOwner v block None = times block (index_blocks v) ≡ 0
