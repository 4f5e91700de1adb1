-- The attributes of all nodes that were gone over.
use Rattle.std.specs.Prelude.{◌≡◌, ◌⊎◌, ℕ, List, [], ◌∷◌, ◌++◌, Option, Some, None, map}
use Rattle.std.specs.List.{flat_map, AllByRecursion}
use Rattle.bfs_base.specs.Lists.{times, Has}
use Rattle.bfs_super.specs.Conditions.{natural}
use Rattle.bfs_sound.specs.Volumes.{Volume}
use Rattle.bfs_sound.specs.Attributes.{attribute_directory, attribute_inodes, HasDirectory}
use Rattle.bfs_sound.specs.Inodes.{inode_blocks}
use Rattle.bfs_sound.specs.Owners.{In, node_blocks}
use Rattle.bfs_finding.specs.Ways.{Way, to_directory, to_attribute, IsReached, Arrives, blocks_by}
use Rattle.bfs_claims.specs.Claims.{Claimed, AreClaimed}
use Rattle.bfs_inode_walk.specs.declared.fault.VisitFault.{VisitFault}
use Rattle.bfs_inode_walk.specs.declared.fault.VisitFault.TheVariants.{Wrong, Taken, Block}
use Rattle.bfs_tour.specs.Tours.{Visit}
use Rattle.bfs_tour.specs.Touring.{IsTouring}
use Rattle.bfs_nodes_walk.specs.declared.lead.NodeLead.{NodeLead}
use Rattle.bfs_nodes_walk.specs.Leads.{as_leads, leads_of}
use Rattle.bfs_nodes_walk.specs.Walks.{HasAttributes, AreOnWays}
use Rattle.bfs_attr_walk.specs.Attributed.{IsTakenAt}

-- the blocks of a node's attribute directory, and of the inodes that its rows name
abbrev pub attribute_blocks : Volume → ℕ → List ℕ
attribute_blocks v id = flat_map (inode_blocks v) (attribute_inodes v (attribute_directory v id))

-- a block that is said to be taken is one of the attribute directory or of what its rows name, and is among those that were claimed before; the
-- other faults say nothing of claims
abbrev pub IsTakenIn : Volume → List ℕ → Option ℕ → VisitFault → Type 0
IsTakenIn v before found (Wrong finding) = Unit {0}
IsTakenIn v before found (Taken block owner) = (d : ℕ) × (found ≡ Some d) × IsTakenAt v before d (Taken block owner)
IsTakenIn v before found (Block fault) = Unit {0}

-- the number of the node that a row names
abbrev pub id_of : NodeLead → ℕ
id_of l = natural l.row.value

-- the blocks of the attributes of the nodes that rows name
abbrev pub blocks_of_leads : Volume → List NodeLead → List ℕ
blocks_of_leads v leads = flat_map (attribute_blocks v) (map id_of leads)

-- ways lead to the nodes that rows name
abbrev pub AreReached : Volume → List NodeLead → Type 0
AreReached v leads = AllByRecursion (λ (l : NodeLead). IsReached v (id_of l)) leads

-- the attributes of the nodes that rows name are right
abbrev pub HaveThose : Volume → List NodeLead → Type 0
HaveThose v leads = AllByRecursion (λ (l : NodeLead). HasAttributes v (id_of l)) leads

-- All nodes were gone over with their attributes: the root and what these rows name are a tour, and their blocks are claimed with those
-- of their attributes, besides what was claimed at first.
pub record IsWhole (v : Volume) (first : List ℕ) (claims : Claimed) (leads : List NodeLead) : Type 0 where
  pub top : Visit
  pub visits : List Visit
  pub touring : IsTouring v top visits []
  pub ways : AreOnWays v top visits
  pub followed : leads_of visits ≡ as_leads leads
  pub claimed : AreClaimed claims (first ++ flat_map (node_blocks v) (top ∷ visits))

-- it is a way to an attribute directory, or by a row of one
abbrev pub IsAttributeWay : Way → Type 0
IsAttributeWay (to_directory id) = Unit {0}
IsAttributeWay (to_attribute id name) = Unit {0}
IsAttributeWay _ = ⊥

-- it is a way to the attribute directory of this node, or by a row of that
abbrev pub IsWayFrom : ℕ → Way → Type 0
IsWayFrom id (to_directory n) = n ≡ id
IsWayFrom id (to_attribute n name) = n ≡ id
IsWayFrom id _ = ⊥

-- it is such a way of one of the nodes that rows name
abbrev pub IsWayFromSome : List NodeLead → Way → Type 0
IsWayFromSome leads way = (l : NodeLead) × In l leads × IsWayFrom (id_of l) way

-- it is such a way of the root, or of one of those nodes
abbrev pub IsWayFromAny : ℕ → List NodeLead → Way → Type 0
IsWayFromAny root leads way = IsWayFrom root way ⊎ IsWayFromSome leads way

-- a way of this kind leads to the inode, which has the block
abbrev pub IsOwnerBy : (Way → Type 0) → Volume → ℕ → ℕ → Type 0
IsOwnerBy IsWay v block owner = (way : Way) × IsWay way × Arrives v way owner × Has (blocks_by v way owner) block

-- the inode that is told is such an owner of the block; where none is told, the block is none of these
abbrev pub IsOwnerFound : (Way → Type 0) → Volume → List ℕ → ℕ → Option ℕ → Type 0
IsOwnerFound IsWay v blocks block (Some owner) = IsOwnerBy IsWay v block owner
IsOwnerFound IsWay v blocks block None = times block blocks ≡ 0

-- the attribute directories of the nodes that rows name keep their format
abbrev pub HaveDirectories : Volume → List NodeLead → Type 0
HaveDirectories v leads = AllByRecursion (λ (l : NodeLead). HasDirectory v (id_of l) (attribute_directory v (id_of l))) leads

-- all nodes were gone over with their attributes, besides some blocks
abbrev pub IsWholeOf : Volume → List NodeLead → Type 0
IsWholeOf v leads = (first : List ℕ) × (claims : Claimed) × IsWhole v first claims leads
