-- What the passes of a check answer.
use Rattle.std.specs.Prelude.{◌≡◌, List, [], ◌∷◌, ◌++◌, length, ◌+◌}
use Rattle.std.specs.List.{flat_map}
use Rattle.std.specs.FinMap.{entries}
use Rattle.bfs_super.specs.declared.sup.Super.{Super}
use Rattle.bfs_txn.specs.Faults.{Counts, IsCauseOf}
use Rattle.bfs_tree.specs.Trees.{Tree}
use Rattle.bfs_sound.specs.Volumes.{Volume}
use Rattle.bfs_sound.specs.Owners.{reach, node_blocks}
use Rattle.bfs_sound.specs.Whole.{IsSound, HasSoundIndices}
use Rattle.bfs_finding.specs.Findings.{IsFindingOf, Standing}
use Rattle.bfs_finding.specs.Ways.{IsShared}
use Rattle.bfs_claims.specs.Claims.{Claimed}
use Rattle.bfs_inode_walk.specs.declared.fault.VisitFault.{VisitFault}
use Rattle.bfs_inode_walk.specs.declared.fault.VisitFault.TheVariants as visit
use Rattle.bfs_tour.specs.Tours.{toured_tree}
use Rattle.bfs_nodes_walk.specs.declared.lead.NodeLead.{NodeLead}
use Rattle.bfs_indices_check.specs.Passes.{IsWhole}
use Rattle.bfs_indices_check.specs.FoundIndex.{FoundIndex}
use Rattle.bfs_indices_check.specs.Indices.{kinds_of, AreWalked}
use Rattle.bfs_indices_check.specs.Laws.{system_blocks}
use Rattle.bfs_passes.specs.declared.fault.PassFault.{PassFault}
use Rattle.bfs_passes.specs.declared.fault.PassFault.TheVariants.{Wrong, Block}
use Rattle.bfs_passes.specs.declared.passes.Summary.{Summary}

-- a block that is said to be taken is shared by the system and the owner that is told; the other faults say nothing of claims
abbrev pub IsSharedIn : Volume → VisitFault → Type 0
IsSharedIn v (visit.Wrong finding) = Unit {0}
IsSharedIn v (visit.Taken block owner) = IsShared v block 0 owner
IsSharedIn v (visit.Block fault) = Unit {0}

-- a finding that is told is true of the volume
abbrev pub IsFaultOf : Super → Volume → PassFault → Type 0
IsFaultOf s v (Wrong finding) = IsFindingOf s v finding
IsFaultOf s v (Block fault) = Unit {0}

-- a block that couldn't be had has its cause
abbrev pub IsPassCause : Counts → Counts → PassFault → Type 0
IsPassCause old new (Wrong finding) = Unit {0}
IsPassCause old new (Block fault) = IsCauseOf old new fault

-- All nodes with their attributes and all indices were gone over, with the blocks of the system claimed first of all.
pub record IsGoneRound (v : Volume) (claims : Claimed) (leads : List NodeLead) (found : List FoundIndex) : Type 0 where
  pub nodes : Claimed
  pub whole : IsWhole v (system_blocks v) nodes leads
  pub indices : AreWalked v (system_blocks v ++ flat_map (node_blocks v) (whole.top ∷ whole.visits)) claims found

-- The log is empty, and the volume is sound with a tree, of so many nodes, that reaches so many blocks.
pub record IsPassed (s : Super) (v : Volume) (summary : Summary) : Type 0 where
  pub emptied : s.log_start ≡ s.log_end
  pub tree : Tree
  pub sound : IsSound v tree
  pub nodes : summary.nodes ≡ length (entries tree.nodes)
  pub used : summary.used ≡ length (reach v tree)

-- the tree of what was gone over
abbrev pub tree_of : (v : Volume) (claims : Claimed) (leads : List NodeLead) (found : List FoundIndex) → IsGoneRound v claims leads found → Tree
tree_of v claims leads found gone = toured_tree v gone.whole.top gone.whole.visits (kinds_of found)

-- What was gone over is a tree that stands on the volume, with sound indices; and where there is an index directory, an index was found.
pub record IsListedRound (v : Volume) (claims : Claimed) (leads : List NodeLead) (found : List FoundIndex) : Type 0 where
  pub gone : IsGoneRound v claims leads found
  pub some : found ≡ [] → v.geometry.indices ≡ 0
  pub standing : Standing v (tree_of v claims leads found gone)
  pub indices : HasSoundIndices v (tree_of v claims leads found gone)

-- The volume is sound with this tree; it has the nodes that the rows name and the root; and as many blocks are claimed as it reaches.
pub record IsSoundRound (v : Volume) (claims : Claimed) (leads : List NodeLead) (found : List FoundIndex) : Type 0 where
  pub gone : IsGoneRound v claims leads found
  pub sound : IsSound v (tree_of v claims leads found gone)
  pub nodes : length (entries (tree_of v claims leads found gone).nodes) ≡ length leads + 1
  pub used : claims.count ≡ length (reach v (tree_of v claims leads found gone))
