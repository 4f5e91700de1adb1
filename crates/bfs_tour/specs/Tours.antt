-- A tour over the nodes of a volume: what was visited, and the tree that this is.
use Rattle.std.specs.Prelude.{◌≡◌, ◌<◌, false, ℕ, ℤ, pos, List, [], ◌∷◌, ◌++◌, map, Some, codes}
use Rattle.std.specs.List.{flat_map}
use Rattle.std.specs.FinMap.{from_entries}
use Rattle.bfs_base.specs.Lists.{Has, IsOnce, AreSame}
use Rattle.bfs_base.specs.declared.kind.KeyKind.{KeyKind}
use Rattle.bfs_base.specs.declared.kind.KeyKind.TheVariants.{Text}
use Rattle.bfs_node.specs.Page.{Row}
use Rattle.bfs_super.specs.Conditions.{natural}
use Rattle.bfs_pages.specs.Maps.{assoc}
use Rattle.bfs_tree.specs.declared.call.Kind.TheVariants.{Dir}
use Rattle.bfs_tree.specs.Names.{is_bad_name}
use Rattle.bfs_tree.specs.Trees.{Node, Tree}
use Rattle.bfs_values.specs.Rows.{rows_in}
use Rattle.bfs_sound.specs.Volumes.{Volume, bitmap_blocks}
use Rattle.bfs_sound.specs.Inodes.{content, proper_rows, index_directory}
use Rattle.bfs_sound.specs.Nodes.{HasNode}
use Rattle.bfs_sound.specs.Listings.{IsIndex, HasIndexDirectory, index_rows}
use Rattle.bfs_sound.specs.Owners.{In, node_blocks, index_blocks, fixed_blocks, reach}
use Rattle.bfs_finding.specs.declared.finding.Finding.{Finding}
use Rattle.bfs_finding.specs.Findings.{IsBroken, Standing}

-- a node that was visited: its number and its record
abbrev pub Visit : Type 0
Visit = ℕ × Node

-- a tour begins at the root, which is a directory
pub record IsTop (v : Volume) (top : Visit) : Type 0 where
  pub id : top.0 ≡ v.geometry.root
  pub node : HasNode v top.0 top.1
  pub kind : top.1.kind ≡ Dir

-- A node was visited by a row of a directory that was visited before: the row has its name, which isn't bad, and the directory
-- is its parent.
pub record IsVisit (v : Volume) (before : List Visit) (e : Visit) : Type 0 where
  pub parent : Visit
  pub there : In parent before
  pub kind : parent.1.kind ≡ Dir
  pub row : In (e.1.name, pos e.0) (proper_rows v parent.0)
  pub node : HasNode v e.0 e.1
  pub parent_is : e.1.parent ≡ parent.0
  pub good : is_bad_name e.1.name ≡ false

-- from the root on, the newest visit first
abbrev pub IsTour : Volume → Visit → List Visit → Type 0
IsTour v top [] = IsTop v top
IsTour v top (e ∷ es) = IsVisit v (top ∷ es) e × IsTour v top es

-- the rows of a directory: `.` is itself, `..` its parent, and each other row names a node that was visited by it
pub record IsScanned (v : Volume) (es : List Visit) (d : Visit) : Type 0 where
  pub dot : assoc Text (rows_in Text (content v d.0)) (codes ".") ≡ Some (pos d.0)
  pub dots : assoc Text (rows_in Text (content v d.0)) (codes "..") ≡ Some (pos d.1.parent)
  pub below : (name : List ℕ) (value : ℤ) → In (name, value) (proper_rows v d.0) → (e : Visit) × In e es × (value ≡ pos e.0) × (e.1.parent ≡ d.0) × (e.1.name ≡ name)

-- an index that was found: its name and its kind
abbrev pub Found : Type 0
Found = List ℕ × KeyKind

-- the rows of the index directory name indices of these kinds
abbrev pub AreIndices : Volume → List Row → List Found → Type 0
AreIndices v [] [] = Unit {0}
AreIndices v [] (k ∷ ks) = ⊥
AreIndices v (r ∷ rs) [] = ⊥
AreIndices v (r ∷ rs) (k ∷ ks) = (k.0 ≡ r.0) × (r.1 ≡ pos (natural r.1)) × IsIndex v (natural r.1) k.1 × AreIndices v rs ks

-- the tree of what was visited and found
abbrev pub toured_tree : Volume → Visit → List Visit → List Found → Tree
toured_tree v top es kinds = record { root = v.geometry.root; nodes = from_entries (top ∷ es); indices = from_entries kinds }

-- A round over all nodes and indices: no number was visited twice, each directory's rows were gone over, and so were those of the index
-- directory.
pub record IsRound (v : Volume) (top : Visit) (es : List Visit) (kinds : List Found) : Type 0 where
  pub tour : IsTour v top es
  pub once : IsOnce (map (λ e. e.0) (top ∷ es))
  pub scanned : (d : Visit) → In d (top ∷ es) → d.1.kind ≡ Dir → IsScanned v es d
  pub directory : HasIndexDirectory v (index_directory v)
  pub indices : AreIndices v (index_rows v) kinds

-- A whole tour: besides, the index directory has a row where it is there.
pub record Toured (v : Volume) (top : Visit) (es : List Visit) (kinds : List Found) : Type 0 where
  pub round : IsRound v top es kinds
  pub some : kinds ≡ [] → v.geometry.indices ≡ 0

-- the blocks that were claimed: those of the system, of each visit, and of the index directory with its indices
abbrev pub claimed : Volume → List Visit → List ℕ
claimed v visits = fixed_blocks v ++ (bitmap_blocks v.geometry ++ (flat_map (node_blocks v) visits ++ index_blocks v))

-- they are those that the tree reaches, as often
abbrev pub TourReaches : Type 0
TourReaches = (v : Volume) (top : Visit) (es : List Visit) (kinds : List Found) → Toured v top es kinds → AreSame (reach v (toured_tree v top es kinds)) (claimed v (top ∷ es))

-- where each was claimed once and lies in the volume, the tree stands
abbrev pub TourStands : Type 0
TourStands = (v : Volume) (top : Visit) (es : List Visit) (kinds : List Found) → Toured v top es kinds → IsOnce (claimed v (top ∷ es)) → ((k : ℕ) → Has (claimed v (top ∷ es)) k → k < v.geometry.blocks)
    → Standing v (toured_tree v top es kinds)

-- nothing is broken on a volume on which a round was gone, where each block was claimed once and lies in the volume, also one whose index
-- directory has no row
abbrev pub RoundIsUnbroken : Type 0
RoundIsUnbroken = (v : Volume) (top : Visit) (es : List Visit) (kinds : List Found) → IsRound v top es kinds → IsOnce (claimed v (top ∷ es)) → ((k : ℕ) → Has (claimed v (top ∷ es)) k → k < v.geometry.blocks)
    → (finding : Finding) → ¬ IsBroken v finding
