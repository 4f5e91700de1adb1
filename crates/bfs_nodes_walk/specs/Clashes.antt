-- A block of a node that is taken, and the places where its owner is looked for.
use Rattle.std.specs.Prelude.{◌≡◌, ◌≢◌, List, Some}
use Rattle.bfs_base.specs.Lists.{Has}
use Rattle.bfs_sound.specs.Volumes.{Volume}
use Rattle.bfs_sound.specs.Owners.{In}
use Rattle.bfs_finding.specs.Ways.{Way, Arrives, blocks_by}
use Rattle.bfs_node_check.specs.Roles.{role_of}
use Rattle.bfs_inode_walk.specs.declared.fault.VisitFault.{VisitFault}
use Rattle.bfs_inode_walk.specs.declared.fault.VisitFault.TheVariants.{Wrong, Taken, Block}
use Rattle.bfs_owner.specs.declared.place.Place.{Place}

-- to each inode a way leads that is another than this one, and gives it its place
abbrev pub ArePlacedApart : Volume → Way → List Place → Type 0
ArePlacedApart v way places = (p : Place) → In p places → (other : Way) × (other ≢ way) × (role_of other ≡ Some p.role) × Arrives v other p.id

-- where a block is said to be taken, a way leads to the inode that has it, and other ways lead to these; the other faults say nothing of them
abbrev pub IsApart : Volume → List Place → VisitFault → Type 0
IsApart v places (Wrong finding) = Unit {0}
IsApart v places (Taken block owner) = (way : Way) × Arrives v way owner × Has (blocks_by v way owner) block × ArePlacedApart v way places
IsApart v places (Block fault) = Unit {0}
