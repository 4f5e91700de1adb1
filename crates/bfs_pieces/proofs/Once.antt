-- No block is in two files, nor twice in one.
use Rattle.std.proofs.Common.{◌≡◌, ◌≢◌, ⊎_elim, ◌<◌, ◌≤◌, ℕ, zero, suc, List, [], ◌∷◌, true, cond, ◌==◌, Some, ap, arith}
use Rattle.std.specs.Prelude.{slice_get}
use Rattle.std.specs.FinMap.{entries}
use Rattle.std.proofs.lemmas.Bool.{cond-true, cases_eq}
use Rattle.bfs_base.specs.Lists.{times, IsOnce}
use Rattle.bfs_tree.specs.Trees.{Node, Tree, IsNode, is_file}
use Rattle.bfs_sound.specs.Volumes.{Volume}
use Rattle.bfs_sound.specs.Inodes.{stream_blocks}
use Rattle.bfs_sound.specs.Owners.{data_blocks, node_blocks, reach}
use Rattle.bfs_sound.proofs.Counts.{times_member}
use Rattle.bfs_sound.proofs.Nodes.{node_split}
use Rattle.bfs_sound.proofs.Parts.{in_entries, nodes_apart, reach_parts}
use Rattle.bfs_core.proofs.Files.{get_has}

-- what stands at two places of a list is in it twice
pub get_twice : (xs : List ℕ) (i j k : ℕ) → slice_get xs i ≡ Some k → slice_get xs j ≡ Some k → i < j → 2 ≤ times k xs
get_twice [] i j k is also lt = absurd (cc)
get_twice (x ∷ xs) zero zero k is also lt = absurd (omega (arith, lt))
get_twice (x ∷ xs) zero (suc j) k is also lt =
    let e : x ≡ k = cc in
    let one : cond {A = ℕ} (x == k) 1 0 ≡ 1 = cond-true {A = ℕ} (x == k) 1 0 (grind (arith, e)) in
    let rest : 0 < times k xs = get_has xs j k also in
    omega (arith, one, rest)
get_twice (x ∷ xs) (suc i) zero k is also lt = absurd (omega (arith, lt))
get_twice (x ∷ xs) (suc i) (suc j) k is also lt = let rest : 2 ≤ times k xs = get_twice xs i j k is also (omega (arith, lt)) in omega (arith, rest)

module _ (v : Volume) (tree : Tree) (once : IsOnce (reach v tree)) where
  -- how often a block is in a file's stream
  in_stream : (id : ℕ) (n : Node) (k : ℕ) → is_file n.kind ≡ true → times k (stream_blocks v id) ≤ times k (node_blocks v (id, n))
  in_stream id n k regular =
      let split = node_split v k (id, n) in
      let same : times k (data_blocks v (id, n)) ≡ times k (stream_blocks v id) = ap (times k) (cond-true (is_file n.kind) (stream_blocks v id) [] regular) in
      omega (arith, split, same)

  stream_once : (id : ℕ) (n : Node) (k : ℕ) → IsNode tree id n → is_file n.kind ≡ true → times k (stream_blocks v id) ≤ 1
  stream_once id n k is regular =
      let low = in_stream id n k regular in
      let member = times_member k (node_blocks v) (entries tree.nodes) (id, n) (in_entries tree.nodes id n is) in
      let parts = reach_parts v tree k in
      let most : times k (reach v tree) ≤ 1 = once k in
      omega (arith, low, member, parts, most)

  one_file : (a b : ℕ) (m n : Node) (i j k : ℕ) → IsNode tree a m → is_file m.kind ≡ true → IsNode tree b n → is_file n.kind ≡ true → slice_get (stream_blocks v a) i ≡ Some k → slice_get (stream_blocks v b) j ≡ Some k → a ≢ b → ⊥
  one_file a b m n i j k is regular too also found again other =
      let apart = nodes_apart v tree once a b m n is too other k in
      let low = in_stream a m k regular in
      let high = in_stream b n k also in
      let some : 0 < times k (stream_blocks v a) = get_has (stream_blocks v a) i k found in
      let more : 0 < times k (stream_blocks v b) = get_has (stream_blocks v b) j k again in
      omega (arith, apart, low, high, some, more)

  -- a block is in one file, at one place
  pub same_file : (a b : ℕ) (m n : Node) (i j k : ℕ) → IsNode tree a m → is_file m.kind ≡ true → IsNode tree b n → is_file n.kind ≡ true → slice_get (stream_blocks v a) i ≡ Some k → slice_get (stream_blocks v b) j ≡ Some k → a ≡ b
  same_file a b m n i j k is regular too also found again = ⊎_elim (λ e. e) (λ other. absurd (one_file a b m n i j k is regular too also found again other)) (cases_eq a b)

  pub same_place : (a : ℕ) (m : Node) (i j k : ℕ) → IsNode tree a m → is_file m.kind ≡ true → slice_get (stream_blocks v a) i ≡ Some k → slice_get (stream_blocks v a) j ≡ Some k → i ≡ j
  same_place a m i j k is regular found again =
      let most = stream_once a m k is regular in
      let not_below : i < j → ⊥ = λ lt. (let two = get_twice (stream_blocks v a) i j k found again lt in omega (arith, two, most)) in
      let not_above : j < i → ⊥ = λ lt. (let two = get_twice (stream_blocks v a) j i k again found lt in omega (arith, two, most)) in
      by_order i j not_below not_above
    where
      by_order : (i j : ℕ) → (i < j → ⊥) → (j < i → ⊥) → i ≡ j
      by_order i j low high = omega (arith, low, high)
