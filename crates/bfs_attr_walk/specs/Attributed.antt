-- The inodes of attributes that were gone over.
use Rattle.std.specs.Prelude.{◌≡◌, ◌⊎◌, ◌∷◌, ℕ, List, true, map}
use Rattle.std.specs.List.{flat_map, AllByRecursion}
use Rattle.bfs_base.specs.Lists.{Has}
use Rattle.bfs_node.specs.Page.{Row}
use Rattle.bfs_super.specs.Conditions.{natural}
use Rattle.bfs_sound.specs.Volumes.{Volume}
use Rattle.bfs_sound.specs.Inodes.{is_proper, id_of, inode_blocks, content}
use Rattle.bfs_sound.specs.Owners.{In}
use Rattle.bfs_node_check.specs.declared.role.Role.{Role}
use Rattle.bfs_node_check.specs.declared.role.Role.TheVariants as roles
use Rattle.bfs_inode_walk.specs.Visited.{IsSoundIn, IsTaken}
use Rattle.bfs_inode_walk.specs.declared.fault.VisitFault.{VisitFault}
use Rattle.bfs_inode_walk.specs.declared.fault.VisitFault.TheVariants.{Wrong, Taken, Block}
use Rattle.bfs_owner.specs.declared.place.Place.{Place}
use Rattle.bfs_names_walk.specs.Rows.{as_rows, AreNames}
use Rattle.bfs_names_walk.specs.declared.row.NameRow.{NameRow}
use Rattle.bfs_node_walk.specs.Listed.{proper, NamesBlock}

-- the blocks of the inodes that rows name, but `.` and `..`
abbrev pub row_blocks : Volume → List NameRow → List ℕ
row_blocks v rows = flat_map (inode_blocks v) (map id_of (proper (as_rows rows)))

-- each row but `.` and `..` names the inode of an attribute that is right for its place
abbrev pub AreSoundRows : Volume → List NameRow → Type 0
AreSoundRows v rows = AllByRecursion (λ (r : Row). IsSoundIn v roles.Attribute (id_of r)) (proper (as_rows rows))

-- a block that is said to be taken is one of the inode that a row names, and is among those that were claimed before; the other faults say
-- nothing of claims
abbrev pub IsTakenIn : Volume → List ℕ → NameRow → VisitFault → Type 0
IsTakenIn v before row (Wrong finding) = Unit {0}
IsTakenIn v before row (Taken block owner) = (is_proper row.name ≡ true) × (owner ≡ natural row.value) × Has (inode_blocks v owner) block × Has before block
IsTakenIn v before row (Block fault) = Unit {0}

-- it is so of one of these rows
abbrev pub IsTakenBy : Volume → List ℕ → List NameRow → VisitFault → Type 0
IsTakenBy v before rows (Wrong finding) = Unit {0}
IsTakenBy v before rows (Taken block owner) = (row : NameRow) × In row rows × IsTakenIn v before row (Taken block owner)
IsTakenBy v before rows (Block fault) = Unit {0}

-- a block that is said to be taken is one of an attribute directory, or of an inode that one of its rows names, and is among those that were
-- claimed before the directory was gone over; each row but `.` and `..` names a block
abbrev pub IsTakenAt : Volume → List ℕ → ℕ → VisitFault → Type 0
IsTakenAt v before d fault = IsTaken before (inode_blocks v d) d fault ⊎ ((rows : List NameRow) × AreNames (content v d) rows × AllByRecursion (NamesBlock v.geometry.blocks) (proper (as_rows rows)) × IsTakenBy v before rows fault)

-- the inodes that rows name, but `.` and `..`, each in such a place
abbrev pub places_of_rows : Role → List NameRow → List Place
places_of_rows role rows = map (λ (r : Row). record { id = id_of r; role = role }) (proper (as_rows rows))

-- an attribute directory and the inodes that rows of it name, each in its place
abbrev pub places_in : ℕ → List NameRow → List Place
places_in d rows = (record { id = d; role = roles.AttributeDirectory }) ∷ places_of_rows roles.Attribute rows
