-- The indices of a volume on which a tree stands.
use Rattle.std.specs.Prelude.{◌≢◌, ◌⊎◌, ℕ, List, Some}
use Rattle.std.specs.FinMap.{find}
use Rattle.std.specs.List.{AllByRecursion}
use Rattle.bfs_base.specs.Keys.{text_cmp}
use Rattle.bfs_base.specs.declared.kind.KeyKind.{KeyKind}
use Rattle.bfs_tree.specs.Listings.{listed}
use Rattle.bfs_tree.specs.Trees.{Tree}
use Rattle.bfs_values.specs.Reached.{AreWritten}
use Rattle.bfs_values.specs.Rows.{rows_in}
use Rattle.bfs_sound.specs.Volumes.{Volume}
use Rattle.bfs_sound.specs.Inodes.{content}
use Rattle.bfs_sound.specs.Listings.{index_rows}
use Rattle.bfs_finding.specs.Findings.{IsBroken, IsBuiltIn, IsUnlisted, Standing}
use Rattle.bfs_finding.specs.declared.finding.Finding.TheVariants.{IndexMissing}
use Rattle.bfs_node_check.specs.declared.fault.NodeFault.{NodeFault}
use Rattle.bfs_node_check.specs.declared.fault.NodeFault.TheVariants.{Wrong as Unfit, NoMemory}
use Rattle.bfs_inode_walk.specs.declared.fault.VisitFault.{VisitFault}
use Rattle.bfs_inode_walk.specs.declared.fault.VisitFault.TheVariants.{Wrong, Taken, Block}
use Rattle.bfs_tour.specs.Tours.{Visit, toured_tree}
use Rattle.bfs_key_walk.specs.NodeLead.{NodeLead}
use Rattle.bfs_index_check.specs.Compared.{Pair, IsDifference}
use Rattle.bfs_key_walk.specs.Gathered.{IsGoneOver}
use Rattle.bfs_index_walk.specs.declared.found.FoundIndex.{FoundIndex}
use Rattle.bfs_index_walk.specs.Indices.{kinds_of, AreFound}

-- All nodes of a volume were gone over, and the index directory with the indices that its rows name: the tree of these stands on the volume.
pub record IsWalkedWhole (v : Volume) (at : ℕ) (leads : List NodeLead) (found : List FoundIndex) (top : Visit) (visits : List Visit) : Type 0 where
  pub nodes : IsGoneOver v at leads top visits
  pub indices : AreFound v (index_rows v) found
  pub standing : Standing v (toured_tree v top visits (kinds_of found))

-- the index lists what the tree's rule says
abbrev pub ListsAll : Volume → Tree → FoundIndex → Type 0
ListsAll v tree i = AreWritten (content v i.id) (rows_in i.kind (content v i.id)) (listed tree i.name i.kind)

abbrev pub AllListed : Volume → Tree → List FoundIndex → Type 0
AllListed v tree found = AllByRecursion (ListsAll v tree) found

-- what is said of the indices is true of the volume with the tree, and no block is said to be taken
abbrev pub IsTrueWith : Volume → Tree → VisitFault → Type 0
IsTrueWith v tree (Wrong finding) = IsBroken v finding ⊎ IsUnlisted v tree finding
IsTrueWith v tree (Taken block owner) = ⊥
IsTrueWith v tree (Block fault) = Unit {0}

-- what is said of the pairs of an index is true of them; nothing is said for want of memory
abbrev pub IsToldOf : List ℕ → KeyKind → List Pair → List Pair → VisitFault → Type 0
IsToldOf index kind wanted found (Wrong finding) = IsDifference index kind wanted found finding
IsToldOf index kind wanted found (Taken block owner) = ⊥
IsToldOf index kind wanted found (Block fault) = Unit {0}

-- of these indices a built-in one is missing, or has keys of another kind; or nothing is said for want of memory
abbrev pub IsMissing : List FoundIndex → NodeFault → Type 0
IsMissing found (Unfit (IndexMissing name)) = (kind : KeyKind) × IsBuiltIn name kind × (find text_cmp name (kinds_of found) ≢ Some kind)
IsMissing found (Unfit finding) = ⊥
IsMissing found NoMemory = Unit {0}
