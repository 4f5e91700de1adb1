-- The blocks of a regular file's stream.
use Rattle.std.proofs.Common.{◌≡◌, ◌<◌, ◌≤◌, ◌+◌, ℕ, zero, suc, List, [], ◌∷◌, true, cond, ◌==◌, Some, refl, sym, ◌∙◌, subst, arith}
use Rattle.std.specs.Prelude.{slice_get}
use Rattle.std.specs.List.{flat_map}
use Rattle.std.specs.FinMap.{entries}
use Rattle.std.proofs.lemmas.Bool.{cond-true}
use Rattle.bfs_base.specs.Lists.{times, Has}
use Rattle.bfs_tree.specs.Trees.{Node, Tree, IsNode, is_file}
use Rattle.bfs_sound.specs.Volumes.{Volume, IsMarked}
use Rattle.bfs_sound.specs.Inodes.{stream_blocks}
use Rattle.bfs_sound.specs.Owners.{node_blocks, data_blocks, file_data, fixed_blocks, reach, IsMetadata}
use Rattle.bfs_sound.specs.Whole.{IsSound}
use Rattle.bfs_sound.specs.Laws.{with_blocks}
use Rattle.bfs_sound.proofs.Counts.{has_member, times_split}
use Rattle.bfs_sound.proofs.Nodes.{node_metadata, node_split, data_blocks_stay}
use Rattle.bfs_sound.proofs.Parts.{in_entries, node_agrees, reach_parts}

-- what stands at a place of a list is in it
pub get_has : (xs : List ℕ) (i k : ℕ) → slice_get xs i ≡ Some k → Has xs k
get_has [] i k is = absurd (cc)
get_has (x ∷ xs) zero k is = first_has x k (let e : x ≡ k = cc in e)
  where
    first_has : (x k : ℕ) → x ≡ k → Has (x ∷ xs) k
    first_has x k e = let one : cond {A = ℕ} (x == k) 1 0 ≡ 1 = cond-true {A = ℕ} (x == k) 1 0 (grind (arith, e)) in let some : 0 < times k (x ∷ xs) = omega (arith, one) in some
get_has (x ∷ xs) (suc i) k is = let rest : 0 < times k xs = get_has xs i k is in let some : 0 < times k (x ∷ xs) = omega (arith, rest) in some

module _ (v : Volume) (tree : Tree) (sound : IsSound v tree) (k : ℕ) where
  split : times k (flat_map (node_blocks v) (entries tree.nodes)) ≡ times k (flat_map (node_metadata v) (entries tree.nodes)) + times k (file_data v tree)
  split = times_split k (node_blocks v) (node_metadata v) (data_blocks v) (entries tree.nodes) (node_split v k)

  -- file data is reached, and neither as block 0 nor as the log's
  file_reached : 0 < times k (file_data v tree) → Has (reach v tree) k
  file_reached some = let parts = reach_parts v tree k in let s = split in let h : 0 < times k (reach v tree) = omega (arith, parts, s, some) in h

  pub file_apart : 0 < times k (file_data v tree) → times k (fixed_blocks v) ≡ 0
  file_apart some = let parts = reach_parts v tree k in let s = split in let most : times k (reach v tree) ≤ 1 = sound.nodes.once k in omega (arith, parts, s, most, some)

  pub file_marked : 0 < times k (file_data v tree) → IsMarked v k × ¬ IsMetadata v tree k
  file_marked some = ((sound.bits k).1 (file_reached some), (λ meta. let none = meta.1 in absurd (omega (arith, some, none))))

  -- what is marked and no metadata is file data
  pub marked_file : IsMarked v k → ¬ IsMetadata v tree k → 0 < times k (file_data v tree)
  marked_file marked apart = by_count (times k (file_data v tree)) refl
    where
      by_count : (n : ℕ) → times k (file_data v tree) ≡ n → 0 < times k (file_data v tree)
      by_count zero is = absurd (apart ((sound.bits k).0 marked, is))
      by_count (suc n) is = omega (arith, is)

-- the blocks of a regular file's stream are file data
pub stream_data : (v : Volume) (tree : Tree) (id : ℕ) (n : Node) (i k : ℕ) → IsNode tree id n → is_file n.kind ≡ true → slice_get (stream_blocks v id) i ≡ Some k → 0 < times k (file_data v tree)
stream_data v tree id n i k is regular found =
    has_member (data_blocks v) (entries tree.nodes) (id, n) k (in_entries tree.nodes id n is)
    (subst (λ (xs : List ℕ). Has xs k) (sym (cond-true (is_file n.kind) (stream_blocks v id) [] regular)) (get_has (stream_blocks v id) i k found))

-- and stay where the volume's metadata stays
pub stream_stays : (v : Volume) (new : ℕ → List ℕ) (tree : Tree) → IsSound v tree → ((k : ℕ) → IsMetadata v tree k → times k (fixed_blocks v) ≡ 0 → new k ≡ v.blocks k)
    → (id : ℕ) (n : Node) → IsNode tree id n → is_file n.kind ≡ true → stream_blocks (with_blocks v new) id ≡ stream_blocks v id
stream_stays v new tree sound same id n is regular =
    sym (cond-true (is_file n.kind) (stream_blocks (with_blocks v new) id) [] regular)
    ∙ data_blocks_stay v new v.geometry.used id n (node_agrees v tree sound.nodes.once new same id n is)
    ∙ cond-true (is_file n.kind) (stream_blocks v id) [] regular
