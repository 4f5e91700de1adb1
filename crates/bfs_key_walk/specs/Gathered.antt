-- The nodes of which the keys are gathered, and what is gathered.
use Rattle.std.specs.Prelude.{◌≡◌, ◌≢◌, ◌<◌, ℕ, List, [], ◌∷◌, ◌++◌, Option}
use Rattle.std.specs.List.{cons_option, flat_map}
use Rattle.std.specs.Option.{option_map}
use Rattle.bfs_base.specs.Lists.{Has}
use Rattle.bfs_super.specs.Conditions.{natural}
use Rattle.bfs_sound.specs.Volumes.{Volume}
use Rattle.bfs_sound.specs.Attributes.{attribute_directory, attribute_inodes}
use Rattle.bfs_sound.specs.Nodes.{HasNode}
use Rattle.bfs_sound.specs.Owners.{In, node_blocks}
use Rattle.bfs_tree.specs.Trees.{Node}
use Rattle.bfs_inode_walk.specs.declared.fault.VisitFault.{VisitFault}
use Rattle.bfs_inode_walk.specs.declared.fault.VisitFault.TheVariants.{Wrong, Taken, Block}
use Rattle.bfs_tour.specs.Tours.{Visit}
use Rattle.bfs_tour.specs.Touring.{IsTouring}
use Rattle.bfs_nodes_walk.specs.Leads.{as_leads, leads_of}
use Rattle.bfs_nodes_walk.specs.declared.lead.NodeLead.{NodeLead}

-- a node stands at this block, and the inodes of its attribute directory and of its attributes are blocks of the volume
pub record IsKnown (v : Volume) (id : ℕ) (n : Node) : Type 0 where
  pub node : HasNode v id n
  pub inside : (k : ℕ) → In k (attribute_inodes v (attribute_directory v id)) → k < v.geometry.blocks

-- a block could not be had: nothing is said of the volume
abbrev pub IsUnread : VisitFault → Type 0
IsUnread (Wrong finding) = ⊥
IsUnread (Taken block owner) = ⊥
IsUnread (Block fault) = Unit {0}

-- the row names this node, which is known and isn't the root
pub record IsFor (v : Volume) (root : ℕ) (lead : NodeLead) (e : Visit) : Type 0 where
  pub known : IsKnown v e.0 e.1
  pub other : e.0 ≢ root
  pub id : natural lead.row.value ≡ e.0
  pub name : lead.row.name ≡ e.1.name

-- the rows name these nodes, in this order
abbrev pub AreFor : Volume → ℕ → List NodeLead → List Visit → Type 0
AreFor v root [] [] = Unit {0}
AreFor v root [] (e ∷ es) = ⊥
AreFor v root (l ∷ ls) [] = ⊥
AreFor v root (l ∷ ls) (e ∷ es) = IsFor v root l e × AreFor v root ls es

-- what was visited, the oldest first
abbrev pub oldest_first : List Visit → List Visit
oldest_first [] = []
oldest_first (e ∷ es) = oldest_first es ++ (e ∷ [])

-- the blocks of nodes with those of their attributes are blocks of the volume
abbrev pub AreInside : Volume → List Visit → Type 0
AreInside v visits = (k : ℕ) → Has (flat_map (node_blocks v) visits) k → k < v.geometry.blocks

-- a number with a key, if there is one
abbrev pub pair_with : Option (List ℕ) → ℕ → List (List ℕ × ℕ)
pair_with key id = cons_option (option_map (λ k. (k, id)) key) []

-- All nodes were gone over: the root and what these rows name are a tour, on which no row leads further, and their blocks are blocks of the
-- volume.
pub record IsGoneOver (v : Volume) (at : ℕ) (leads : List NodeLead) (top : Visit) (visits : List Visit) : Type 0 where
  pub root : at ≡ v.geometry.root
  pub touring : IsTouring v top visits []
  pub followed : leads_of visits ≡ as_leads leads
  pub inside : AreInside v (top ∷ visits)
