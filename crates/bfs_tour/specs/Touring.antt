-- A tour that is under way: what was visited, and the rows that lead on.
use Rattle.std.specs.Prelude.{◌≡◌, ◌⊎◌, ℕ, ℤ, pos, List, [], ◌∷◌, ◌++◌, map, Some, codes, false, if◌then◌else◌}
use Rattle.bfs_base.specs.Lists.{times, IsOnce}
use Rattle.bfs_base.specs.declared.kind.KeyKind.TheVariants.{Text}
use Rattle.bfs_node.specs.Page.{Row}
use Rattle.bfs_super.specs.Conditions.{natural}
use Rattle.bfs_pages.specs.Maps.{assoc}
use Rattle.bfs_tree.specs.declared.call.Kind.TheVariants.{Dir}
use Rattle.bfs_tree.specs.Names.{is_bad_name}
use Rattle.bfs_tree.specs.Trees.{Node, is_dir}
use Rattle.bfs_values.specs.Rows.{rows_in}
use Rattle.bfs_sound.specs.Volumes.{Volume}
use Rattle.bfs_sound.specs.Inodes.{content, proper_rows, index_directory}
use Rattle.bfs_sound.specs.Nodes.{HasNode}
use Rattle.bfs_sound.specs.Listings.{HasIndexDirectory, index_rows}
use Rattle.bfs_sound.specs.Owners.{In}
use Rattle.bfs_tour.specs.Tours.{Visit, Found, IsTop, IsTour, AreIndices, IsRound, Toured}

-- a row that leads on: its directory, its name, and the number that it names
pub record Lead : Type 0 where
  pub dir : ℕ
  pub name : List ℕ
  pub id : ℕ

abbrev pub lead_by : ℕ → Row → Lead
lead_by d row = record { dir = d; name = row.0; id = natural row.1 }

-- the rows of a node that lead on: those of a directory but `.` and `..`, and none of another node
abbrev pub leads_at : Volume → Visit → List Lead
leads_at v e = if is_dir e.1.kind then map (lead_by e.0) (proper_rows v e.0) else []

-- a directory: `.` is itself, `..` its parent, and each other row has a number
pub record IsListed (v : Volume) (d : Visit) : Type 0 where
  pub dot : assoc Text (rows_in Text (content v d.0)) (codes ".") ≡ Some (pos d.0)
  pub dots : assoc Text (rows_in Text (content v d.0)) (codes "..") ≡ Some (pos d.1.parent)
  pub numbers : (row : Row) → In row (proper_rows v d.0) → row.1 ≡ pos (natural row.1)

-- a row of a directory that was visited leads on
pub record IsLead (v : Volume) (visits : List Visit) (l : Lead) : Type 0 where
  pub parent : Visit
  pub there : In parent visits
  pub kind : parent.1.kind ≡ Dir
  pub dir : l.dir ≡ parent.0
  pub row : In (l.name, pos l.id) (proper_rows v parent.0)

-- what a row names was visited by it, or the row leads on
abbrev pub IsMet : List Visit → List Lead → Visit → List ℕ → ℤ → Type 0
IsMet es todo d name value =
    ((e : Visit) × In e es × (value ≡ pos e.0) × (e.1.parent ≡ d.0) × (e.1.name ≡ name))
    ⊎ ((l : Lead) × In l todo × (value ≡ pos l.id) × (l.dir ≡ d.0) × (l.name ≡ name))

-- Under way: no number was visited twice; each directory's rows were gone over, and what they name was visited or is still to be; and
-- what is to be visited is named by a row.
pub record IsTouring (v : Volume) (top : Visit) (es : List Visit) (todo : List Lead) : Type 0 where
  pub tour : IsTour v top es
  pub once : IsOnce (map (λ e. e.0) (top ∷ es))
  pub listed : (d : Visit) → In d (top ∷ es) → d.1.kind ≡ Dir → IsListed v d
  pub met : (d : Visit) → In d (top ∷ es) → d.1.kind ≡ Dir → (name : List ℕ) (value : ℤ) → In (name, value) (proper_rows v d.0) → IsMet es todo d name value
  pub leads : (l : Lead) → In l todo → IsLead v (top ∷ es) l

-- a node was visited by a row: it has the row's name, which isn't bad, and the row's directory as its parent; it wasn't visited
-- before; and where it is a directory, its rows were gone over
pub record IsStep (v : Volume) (top : Visit) (es : List Visit) (l : Lead) (n : Node) : Type 0 where
  pub node : HasNode v l.id n
  pub parent : n.parent ≡ l.dir
  pub name : n.name ≡ l.name
  pub good : is_bad_name n.name ≡ false
  pub new : times l.id (map (λ e. e.0) (top ∷ es)) ≡ 0
  pub listed : n.kind ≡ Dir → IsListed v (l.id, n)

-- a tour begins with the root, and its rows lead on
abbrev pub TourBegins : Type 0
TourBegins = (v : Volume) (top : Visit) → IsTop v top → IsListed v top → IsTouring v top [] (leads_at v top)

-- it goes on with the first row that leads on, and the rows of what that names come last
abbrev pub TourGoesOn : Type 0
TourGoesOn = (v : Volume) (top : Visit) (es : List Visit) (l : Lead) (todo : List Lead) (n : Node) → IsTouring v top es (l ∷ todo) → IsStep v top es l n
    → IsTouring v top ((l.id, n) ∷ es) (todo ++ leads_at v (l.id, n))

-- where nothing leads on, and the index directory was gone over too, it is a round
abbrev pub RoundEnds : Type 0
RoundEnds = (v : Volume) (top : Visit) (es : List Visit) (kinds : List Found) → IsTouring v top es [] → HasIndexDirectory v (index_directory v) → AreIndices v (index_rows v) kinds → IsRound v top es kinds

-- where besides the index directory has a row, if it is there, it is whole
abbrev pub TourEnds : Type 0
TourEnds = (v : Volume) (top : Visit) (es : List Visit) (kinds : List Found) → IsTouring v top es [] → HasIndexDirectory v (index_directory v) → AreIndices v (index_rows v) kinds → (kinds ≡ [] → v.geometry.indices ≡ 0)
    → Toured v top es kinds
