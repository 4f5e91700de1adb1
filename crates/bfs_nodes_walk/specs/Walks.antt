-- What is known of the nodes that were gone over.
use Rattle.std.specs.Prelude.{◌≡◌, ℕ, List, [], ◌∷◌, ◌++◌, Some, true, take, drop, map}
use Rattle.std.specs.List.{flat_map}
use Rattle.bfs_base.specs.Lists.{Has}
use Rattle.bfs_smalldata.specs.Items.{Item, items_of}
use Rattle.bfs_smalldata.specs.Edits.{AreDistinct}
use Rattle.bfs_sound.specs.Volumes.{Volume}
use Rattle.bfs_sound.specs.Attributes.{attributes_in, attribute_directory, HasDirectory, attributes_of}
use Rattle.bfs_sound.specs.Nodes.{AreApart}
use Rattle.bfs_sound.specs.Owners.{In, own_blocks}
use Rattle.bfs_finding.specs.NodeFaults.{area_of}
use Rattle.bfs_finding.specs.Ways.{Way, to_root, to_child, Arrives, blocks_by}
use Rattle.bfs_claims.specs.Claims.{Claimed, AreClaimed}
use Rattle.bfs_node_check.specs.declared.role.Role.{Role}
use Rattle.bfs_node_check.specs.Roles.{is_node, role_of}
use Rattle.bfs_node_check.specs.Inodes.{IsGoodNode}
use Rattle.bfs_tour.specs.Tours.{Visit}
use Rattle.bfs_tour.specs.Touring.{IsTouring}
use Rattle.bfs_nodes_walk.specs.declared.lead.NodeLead.{NodeLead}
use Rattle.bfs_nodes_walk.specs.Leads.{as_leads, leads_of, IsRowOf, AreOtherRows}

-- what is still to be found of a node that was gone over: the items of its small data differ in name; its attribute directory keeps its
-- format; and no two attributes have one name
pub record HasAttributes (v : Volume) (id : ℕ) : Type 0 where
  pub items : List Item
  pub area : items_of (area_of v id) ≡ Some items
  pub distinct : AreDistinct items
  pub directory : HasDirectory v id (attribute_directory v id)
  pub apart : AreApart (attributes_in items ++ attributes_of v (attribute_directory v id))

abbrev pub HaveAttributes : Volume → List Visit → Type 0
HaveAttributes v visits = (e : Visit) → In e visits → HasAttributes v e.0

-- the blocks of nodes without those of their attributes
abbrev pub blocks_of_visits : Volume → List Visit → List ℕ
blocks_of_visits v visits = flat_map (own_blocks v) visits

-- it is a way to the root, or one by a row of a directory
abbrev pub IsNodeWay : Way → Type 0
IsNodeWay way = (role : Role) × (role_of way ≡ Some role) × (is_node role ≡ true)

-- the way leads to the node, and the blocks that it has by this way are its own
abbrev pub IsOnWay : Volume → Way → Visit → Type 0
IsOnWay v way e = Arrives v way e.0 × (blocks_by v way e.0 ≡ own_blocks v e)

-- the way by the row that a node's record tells
abbrev pub way_to : Visit → Way
way_to e = to_child e.1.parent e.1.name

-- the root was visited, and these by rows; ways lead to all of them; and each has a kind, items and a target as a node has
pub record AreOnWays (v : Volume) (top : Visit) (visits : List Visit) : Type 0 where
  pub root : IsOnWay v to_root top
  pub rows : (e : Visit) → In e visits → IsOnWay v (way_to e) e
  pub good : (e : Visit) → In e (top ∷ visits) → IsGoodNode v e.0

-- Under way, with these rows that lead on: where the attributes of what was visited are right, it is a tour; ways lead to what was
-- visited; and what leads on are rows of directories that are reached.
pub record IsWalking (v : Volume) (top : Visit) (es : List Visit) (todo : List NodeLead) : Type 0 where
  pub touring : HaveAttributes v (top ∷ es) → IsTouring v top es (as_leads todo)
  pub ways : AreOnWays v top es
  pub rows : (l : NodeLead) → In l todo → IsRowOf v l

-- So many of these rows were followed: what they name was visited, in this order, and the others lead on. They are rows of nodes that
-- were visited, and none stands there twice. Besides what was claimed at first the blocks of the visits are claimed, and no others.
pub record IsWalkedTo (v : Volume) (first : List ℕ) (claims : Claimed) (leads : List NodeLead) (count : ℕ) : Type 0 where
  pub top : Visit
  pub visits : List Visit
  pub walking : IsWalking v top visits (drop count leads)
  pub followed : leads_of visits ≡ as_leads (take count leads)
  pub others : AreOtherRows leads
  pub dirs : (l : NodeLead) → In l leads → Has (map (λ e. e.0) (top ∷ visits)) l.dir
  pub claimed : AreClaimed claims (first ++ blocks_of_visits v (top ∷ visits))

-- All of these rows were followed and no other leads on: the root and what they name were visited.
pub record IsWalked (v : Volume) (first : List ℕ) (claims : Claimed) (leads : List NodeLead) : Type 0 where
  pub top : Visit
  pub visits : List Visit
  pub touring : HaveAttributes v (top ∷ visits) → IsTouring v top visits []
  pub ways : AreOnWays v top visits
  pub followed : leads_of visits ≡ as_leads leads
  pub claimed : AreClaimed claims (first ++ blocks_of_visits v (top ∷ visits))
