-- A stream that keeps its format has few blocks.
use Rattle.std.proofs.Common.{◌≡◌, ◌≤◌, ◌<◌, ◌*◌, ◌/◌, ◌^◌, ◌∙◌, ◌⊎◌, inl, inr, ℕ, suc, List, [], ◌∷◌, length, get_or, max, Option, sym, ap, subst, arith, length-append}
use Rattle.std.specs.Prelude.{All}
use Rattle.std.specs.List.{flat_map}
use Rattle.std.proofs.Math.Nat.{mul_comm}
use Rattle.bfs_bytes.specs.declared.Run.{Run}
use Rattle.bfs_inode.proofs.Runs.{length-runs_in}
use Rattle.bfs_stream.specs.Sizes.{Sizes, HasSizes, Origin, IsInVolume, IsWhole, first_block, runs_per_block, array_length}
use Rattle.bfs_stream.specs.Places.{run_blocks, blocks_of, array_runs, level_blocks, fields, second_arrays, places_at, HasStream}
use Rattle.bfs_stream.specs.Told.{contents, Stands}
use Rattle.bfs_stream.proofs.Named.{direct_blocks, indirect_blocks, double_blocks, direct_runs, indirect_runs, double_runs}
use Rattle.bfs_stream.proofs.Levels.{length-counted}
use Rattle.bfs_stream.proofs.Arrays.{length-array, length-flat}
use Rattle.bfs_stream.proofs.Doubles.{length-used}
use Rattle.bfs_stream.proofs.Placed.{length-places}

-- runs of the volume have few blocks
blocks_few : (s : Sizes) (rs : List Run) → HasSizes s → All (IsInVolume s) rs → length (blocks_of s rs) ≤ 65536 * length rs
blocks_few s [] sizes all = omega arith
blocks_few s (r ∷ rs) sizes all =
    let rest : length (blocks_of s rs) ≤ 65536 * length rs = blocks_few s rs sizes (λ i d h. all (suc i) d (omega (arith, h))) in
    let one = (all 0 r (omega arith)).one_group in
    let few = sizes.few_group in
    omega (arith, length-append (run_blocks s r) (blocks_of s rs), length-counted (first_block s r) r.len, rest, one, few)

few_per : (s : Sizes) → HasSizes s → runs_per_block s ≤ 1024
few_per s sizes = by_size s.block_size sizes.block_size
  where
    by_size : (n : ℕ) → (n ≡ 1024) ⊎ (n ≡ 2048) ⊎ (n ≡ 4096) ⊎ (n ≡ 8192) → n / 8 ≤ 1024
    by_size n (inl e) = omega (arith, e)
    by_size n (inr (inl e)) = omega (arith, e)
    by_size n (inr (inr (inl e))) = omega (arith, e)
    by_size n (inr (inr (inr e))) = omega (arith, e)

few_array : (s : Sizes) → HasSizes s → array_length s ≤ 4
few_array s sizes = by_size s.block_size sizes.block_size
  where
    by_size : (n : ℕ) → (n ≡ 1024) ⊎ (n ≡ 2048) ⊎ (n ≡ 4096) ⊎ (n ≡ 8192) → max 1 (4096 / n) ≤ 4
    by_size n (inl e) = subst (λ (k : ℕ). max 1 (4096 / k) ≤ 4) (sym e) (omega arith)
    by_size n (inr (inl e)) = subst (λ (k : ℕ). max 1 (4096 / k) ≤ 4) (sym e) (omega arith)
    by_size n (inr (inr (inl e))) = subst (λ (k : ℕ). max 1 (4096 / k) ≤ 4) (sym e) (omega arith)
    by_size n (inr (inr (inr e))) = subst (λ (k : ℕ). max 1 (4096 / k) ≤ 4) (sym e) (omega arith)

times_few : (a b x y : ℕ) → a ≤ x → b ≤ y → a * b ≤ x * y
times_few a b x y e f = grind (arith, e, f)

module _ (s : Sizes) (blocks : ℕ → List ℕ) (id : ℕ) (sizes : HasSizes s) (sound : HasStream s blocks id) where
  pub few_direct : length (direct_blocks s blocks id) ≤ 786432
  unfolding level_blocks
  few_direct =
      let a = blocks_few s (direct_runs s blocks id) sizes sound.direct in
      let b = length-used (fields s blocks id).direct in
      let c : length (fields s blocks id).direct ≡ 12 = length-runs_in 12 (blocks id) 72 in
      omega (arith, a, b, c)

  few_table : length (array_runs s blocks (fields s blocks id).indirect) ≤ 1024 * 65536
  few_table = by_cases sound.indirect
    where
      size : length (array_runs s blocks (fields s blocks id).indirect) ≡ runs_per_block s * (fields s blocks id).indirect.len
      size = length-array s blocks (fields s blocks id).indirect

      by_cases : ((fields s blocks id).indirect.len ≡ 0) ⊎ (IsInVolume s (fields s blocks id).indirect × (length (direct_runs s blocks id) ≡ 12)) → length (array_runs s blocks (fields s blocks id).indirect) ≤ 1024 * 65536
      by_cases (inl none) = let z = times_few (runs_per_block s) (fields s blocks id).indirect.len 1024 65536 (few_per s sizes) (omega (arith, none)) in omega (arith, size, z)
      by_cases (inr has) =
          let one = has.0.one_group in
          let few = sizes.few_group in
          let z = times_few (runs_per_block s) (fields s blocks id).indirect.len 1024 65536 (few_per s sizes) (omega (arith, one, few)) in omega (arith, size, z)

  few_indirect : length (indirect_blocks s blocks id) ≤ 65536 * (1024 * 65536)
  unfolding level_blocks
  few_indirect =
      let a = blocks_few s (indirect_runs s blocks id) sizes sound.in_indirect in
      let b = length-used (array_runs s blocks (fields s blocks id).indirect) in
      let c = few_table in
      omega (arith, a, b, c)

  few_listed : length (second_arrays s blocks id) ≤ 4096
  few_listed = by_cases sound.double
    where
      size : length (array_runs s blocks (fields s blocks id).double_indirect) ≡ runs_per_block s * (fields s blocks id).double_indirect.len
      size = length-array s blocks (fields s blocks id).double_indirect

      used : length (second_arrays s blocks id) ≤ length (array_runs s blocks (fields s blocks id).double_indirect)
      used = length-used (array_runs s blocks (fields s blocks id).double_indirect)

      by_cases : ((fields s blocks id).double_indirect.len ≡ 0)
          ⊎ (IsWhole s (fields s blocks id).double_indirect × (0 < length (indirect_runs s blocks id)) × (length (indirect_runs s blocks id) ≡ length (array_runs s blocks (fields s blocks id).indirect)))
          → length (second_arrays s blocks id) ≤ 4096
      by_cases (inl none) = let z = times_few (runs_per_block s) (fields s blocks id).double_indirect.len 1024 4 (few_per s sizes) (omega (arith, none)) in omega (arith, size, z, used)
      by_cases (inr has) =
          let long = has.0.long in
          let few = few_array s sizes in
          let z = times_few (runs_per_block s) (fields s blocks id).double_indirect.len 1024 4 (few_per s sizes) (omega (arith, long, few)) in omega (arith, size, z, used)

  few_runs : length (double_runs s blocks id) ≤ 4096 * 4096
  few_runs =
      let all : length (flat_map (array_runs s blocks) (second_arrays s blocks id)) ≡ array_length s * runs_per_block s * length (second_arrays s blocks id) =
      length-flat (array_runs s blocks) (array_length s * runs_per_block s) (second_arrays s blocks id)
      (λ i d h. length-array s blocks (get_or (second_arrays s blocks id) i d) ∙ ap (λ (n : ℕ). runs_per_block s * n) (sound.arrays i d h).long ∙ mul_comm (runs_per_block s) (array_length s)) in
      let per : array_length s * runs_per_block s ≤ 4096 = let z = times_few (array_length s) (runs_per_block s) 4 1024 (few_array s sizes) (few_per s sizes) in omega (arith, z) in
      let most = times_few (array_length s * runs_per_block s) (length (second_arrays s blocks id)) 4096 4096 per few_listed in
      let used = length-used (flat_map (array_runs s blocks) (second_arrays s blocks id)) in
      omega (arith, all, most, used)

  few_double : length (double_blocks s blocks id) ≤ 65536 * (4096 * 4096)
  unfolding level_blocks
  few_double =
      let a = blocks_few s (double_runs s blocks id) sizes (λ i d h. (sound.in_double i d h).inside) in
      let b = few_runs in
      omega (arith, a, b)

  pub few_places : length (places_at s blocks id) ≤ 2 ^ 44
  few_places =
      let a = few_direct in
      let b = few_indirect in
      let c = few_double in
      omega (arith, length-places s blocks id, a, b, c)

-- an array that is there has its place in the volume
module _ (o : Origin) (m : ℕ → Option (List ℕ)) (stands : Stands o m) where
  pub held_array : 0 < (fields o.sizes (contents m) o.id).indirect.len → IsInVolume o.sizes (fields o.sizes (contents m) o.id).indirect
  held_array some = by_cases stands.sound.indirect
    where
      by_cases : ((fields o.sizes (contents m) o.id).indirect.len ≡ 0) ⊎ (IsInVolume o.sizes (fields o.sizes (contents m) o.id).indirect × (length (direct_runs o.sizes (contents m) o.id) ≡ 12)) → IsInVolume o.sizes (fields o.sizes (contents m) o.id).indirect
      by_cases (inl none) = absurd (omega (arith, some, none))
      by_cases (inr has) = has.0

  pub whole_array : 0 < (fields o.sizes (contents m) o.id).double_indirect.len → IsWhole o.sizes (fields o.sizes (contents m) o.id).double_indirect
  whole_array some = by_cases stands.sound.double
    where
      by_cases : ((fields o.sizes (contents m) o.id).double_indirect.len ≡ 0)
          ⊎ (IsWhole o.sizes (fields o.sizes (contents m) o.id).double_indirect × (0 < length (indirect_runs o.sizes (contents m) o.id)) × (length (indirect_runs o.sizes (contents m) o.id) ≡ length (array_runs o.sizes (contents m) (fields o.sizes (contents m) o.id).indirect)))
          → IsWhole o.sizes (fields o.sizes (contents m) o.id).double_indirect
      by_cases (inl none) = absurd (omega (arith, some, none))
      by_cases (inr has) = has.0
