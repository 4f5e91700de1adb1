-- Each block that was claimed has an owner.
use Rattle.std.proofs.Common.{◌≡◌, ◌⊎◌, ℕ, List, ◌++◌, Bool, true, false, Option, Some, None, refl, subst, arith}
use Rattle.std.specs.List.{flat_map}
use Rattle.bfs_base.specs.Lists.{times, Has}
use Rattle.bfs_claims.proofs.Claiming.{times_append}
use Rattle.bfs_sound.specs.Volumes.{Volume, bitmap_blocks}
use Rattle.bfs_sound.specs.Owners.{node_blocks, index_blocks, fixed_blocks}
use Rattle.bfs_finding.specs.Ways.{Way, to_system, to_indices, to_index, IsOwned, Arrives, blocks_by}
use Rattle.bfs_tour.specs.Tours.{Visit, claimed}
use Rattle.bfs_nodes_walk.specs.Walks.{IsNodeWay}
use Rattle.bfs_indices_check.specs.Passes.{IsAttributeWay, IsOwnerFound}
use Rattle.bfs_indices_check.specs.Indices.{IsIndexOwner}

-- a way to the system, the index directory or an index
abbrev pub is_apart : Way → Bool
is_apart to_system = true
is_apart to_indices = true
is_apart (to_index name) = true
is_apart _ = false

-- ---- the second look

-- it is an owner among these nodes and their attributes
abbrev pub IsNodeOwner : Volume → List Visit → ℕ → Option ℕ → Type 0
IsNodeOwner v visits block found = IsOwnerFound (λ (way : Way). IsNodeWay way ⊎ IsAttributeWay way) v (flat_map (node_blocks v) visits) block found

pub node_owns : (v : Volume) (visits : List Visit) (block : ℕ) (found : Option ℕ) (id : ℕ) → found ≡ Some id → IsNodeOwner v visits block found → (way : Way) × (IsNodeWay way ⊎ IsAttributeWay way) × Arrives v way id × Has (blocks_by v way id) block
node_owns v visits block found id e o = subst (IsNodeOwner v visits block) e o

pub index_owns : (v : Volume) (block : ℕ) (found : Option ℕ) (id : ℕ) → found ≡ Some id → IsIndexOwner v block found → IsOwned v id block
index_owns v block found id e o = let t = subst (IsIndexOwner v block) e o in (t.0, t.2, t.3)

-- a block that was claimed, and that no node and no index has, is one of the system
pub system_owns : (v : Volume) (visits : List Visit) (block : ℕ) (nodes indices : Option ℕ) → nodes ≡ None → indices ≡ None → IsNodeOwner v visits block nodes → IsIndexOwner v block indices → Has (claimed v visits) block → IsOwned v 0 block
system_owns v visits block nodes indices a b no_node no_index there =
    let x : times block (flat_map (node_blocks v) visits) ≡ 0 = subst (IsNodeOwner v visits block) a no_node in
    let y : times block (index_blocks v) ≡ 0 = subst (IsIndexOwner v block) b no_index in
    let one = times_append block (fixed_blocks v) (bitmap_blocks v.geometry ++ (flat_map (node_blocks v) visits ++ index_blocks v)) in
    let two = times_append block (bitmap_blocks v.geometry) (flat_map (node_blocks v) visits ++ index_blocks v) in
    let three = times_append block (flat_map (node_blocks v) visits) (index_blocks v) in
    let four = times_append block (fixed_blocks v) (bitmap_blocks v.geometry) in
    let h : Has (fixed_blocks v ++ (bitmap_blocks v.geometry ++ (flat_map (node_blocks v) visits ++ index_blocks v))) block = there in
    (to_system, refl, omega (arith, x, y, one, two, three, four, h))
