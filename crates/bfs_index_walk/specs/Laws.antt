-- What a walk over the nodes, their attributes and the indices makes.
use Rattle.std.specs.Prelude.{◌≡◌, ◌≢◌, ℕ, List, [], ◌∷◌, ◌++◌}
use Rattle.std.specs.List.{flat_map}
use Rattle.bfs_sound.specs.Volumes.{Volume, bitmap_blocks}
use Rattle.bfs_sound.specs.Owners.{fixed_blocks, node_blocks}
use Rattle.bfs_finding.specs.Findings.{IsRowless, Standing}
use Rattle.bfs_claims.specs.Claims.{Claimed}
use Rattle.bfs_tour.specs.Tours.{Toured, toured_tree}
use Rattle.bfs_attrs_walk.specs.NodeLead.{NodeLead}
use Rattle.bfs_attrs_walk.specs.Passes.{IsWhole}
use Rattle.bfs_index_walk.specs.declared.found.FoundIndex.{FoundIndex}
use Rattle.bfs_index_walk.specs.Indices.{kinds_of, AreWalked}

-- block 0, the log and the bitmap, which are claimed first of all
abbrev pub system_blocks : Volume → List ℕ
system_blocks v = fixed_blocks v ++ bitmap_blocks v.geometry

-- where the index directory is there and no index was found, it has no row
abbrev pub NoneIsRowless : Type 0
NoneIsRowless = (v : Volume) (first : List ℕ) (claims : Claimed) → AreWalked v first claims [] → v.geometry.indices ≢ 0 → IsRowless v

-- all nodes with their attributes and then the indices were gone over, and an index was found where the index directory is there: this is
-- a whole tour
abbrev pub WalkIsTour : Type 0
WalkIsTour = (v : Volume) (first : List ℕ) (nodes all : Claimed) (leads : List NodeLead) (found : List FoundIndex) (w : IsWhole v first nodes leads) → AreWalked v (first ++ flat_map (node_blocks v) (w.top ∷ w.visits)) all found
    → (found ≡ [] → v.geometry.indices ≡ 0) → Toured v w.top w.visits (kinds_of found)

-- and where block 0, the log and the bitmap were claimed first of all, the tree that was toured stands on the volume
abbrev pub WalkStands : Volume → Claimed → Type 0
WalkStands v all = (nodes : Claimed) (leads : List NodeLead) (found : List FoundIndex) (w : IsWhole v (system_blocks v) nodes leads) → AreWalked v (system_blocks v ++ flat_map (node_blocks v) (w.top ∷ w.visits)) all found
    → (found ≡ [] → v.geometry.indices ≡ 0) → Standing v (toured_tree v w.top w.visits (kinds_of found))
