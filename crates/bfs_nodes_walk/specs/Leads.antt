-- The rows of directories that lead on.
use Rattle.std.specs.Prelude.{◌≡◌, ◌≢◌, ℕ, pos, List, [], ◌∷◌, ◌++◌, map, true}
use Rattle.std.specs.List.{filter, AllByRecursion}
use Rattle.bfs_base.specs.Lists.{Has}
use Rattle.bfs_super.specs.Conditions.{natural}
use Rattle.bfs_tree.specs.declared.call.Kind.TheVariants.{Dir}
use Rattle.bfs_sound.specs.Volumes.{Volume}
use Rattle.bfs_sound.specs.Inodes.{is_proper, proper_rows}
use Rattle.bfs_sound.specs.Owners.{In}
use Rattle.bfs_finding.specs.Ways.{IsReached, says}
use Rattle.bfs_node_check.specs.declared.role.Role.TheVariants as roles
use Rattle.bfs_inode_walk.specs.Visited.{role_blocks}
use Rattle.bfs_inode_walk.specs.declared.fault.VisitFault.{VisitFault}
use Rattle.bfs_inode_walk.specs.declared.fault.VisitFault.TheVariants.{Wrong, Taken, Block}
use Rattle.bfs_owner.specs.declared.place.Place.{Place}
use Rattle.bfs_node_walk.specs.NameRow.{NameRow}
use Rattle.bfs_node_walk.specs.Listed.{NamesBlock}
use Rattle.bfs_tour.specs.Tours.{Visit}
use Rattle.bfs_tour.specs.Touring.{Lead, lead_by}
use Rattle.bfs_nodes_walk.specs.declared.lead.NodeLead.{NodeLead}

-- a row with its directory, as a tour has it
abbrev pub as_lead : NodeLead → Lead
as_lead l = lead_by l.dir (l.row.name, l.row.value)

abbrev pub as_leads : List NodeLead → List Lead
as_leads ls = map as_lead ls

-- the rows of a directory but `.` and `..`, each with the directory
abbrev pub leads_in : ℕ → List NameRow → List NodeLead
leads_in dir rows = map (λ row. record { dir = dir; row = row }) (filter (λ (row : NameRow). is_proper row.name) rows)

-- it is a row of a directory to which rows lead from the root on
abbrev pub IsRowOf : Volume → NodeLead → Type 0
IsRowOf v l = IsReached v l.dir × (says v l.dir Dir ≡ true) × In (l.row.name, l.row.value) (proper_rows v l.dir)

-- rows of one directory have other names
abbrev pub IsOtherRow : NodeLead → NodeLead → Type 0
IsOtherRow l k = l.dir ≡ k.dir → l.row.name ≢ k.row.name

-- each is another row than those behind it
abbrev pub AreOtherRows : List NodeLead → Type 0
AreOtherRows [] = Unit {0}
AreOtherRows (l ∷ ls) = AllByRecursion (IsOtherRow l) ls × AreOtherRows ls

-- each names a block of a volume with so many
abbrev pub AreInside : ℕ → List NodeLead → Type 0
AreInside blocks leads = AllByRecursion (λ (l : NodeLead). NamesBlock blocks (l.row.name, l.row.value)) leads

-- what was visited, the oldest first, each by the directory and the name that its record has
abbrev pub leads_of : List Visit → List Lead
leads_of [] = []
leads_of (e ∷ es) = leads_of es ++ (record { dir = e.1.parent; name = e.1.name; id = e.0 }) ∷ []

-- a block that is said to be taken is one of the node that the row names, and is among those that were claimed before; the other faults say
-- nothing of claims
abbrev pub IsTakenBy : Volume → List ℕ → NodeLead → VisitFault → Type 0
IsTakenBy v before l (Wrong finding) = Unit {0}
IsTakenBy v before l (Taken block owner) = (l.row.value ≡ pos owner) × Has (role_blocks v roles.Child owner) block × Has before block
IsTakenBy v before l (Block fault) = Unit {0}

-- the node that a row names, in its place
abbrev pub place_of : NodeLead → Place
place_of l = record { id = natural l.row.value; role = roles.Child }

-- the root and the nodes that rows name, each in its place
abbrev pub places_of_nodes : ℕ → List NodeLead → List Place
places_of_nodes root leads = (record { id = root; role = roles.Root }) ∷ map place_of leads
