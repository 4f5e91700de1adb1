-- A stream that keeps its format, on a volume all of whose blocks are told, can be read.
use Rattle.std.proofs.Common.{◌≡◌, ◌<◌, ◌+◌, ◌⊎◌, inl, inr, ℕ, zero, suc, ℤ, pos, negsuc, List, [], ◌∷◌, ◌++◌, length, Option, Some, cond, ◌==◌, Bool, true, false, refl, subst, arith}
use Rattle.std.specs.Prelude.{All, IsSome, ◌≤ℤ◌}
use Rattle.std.proofs.lemmas.Int.{ints}
use Rattle.std.proofs.lemmas.List.Elements.{All-head, All-tail}
use Rattle.bfs_base.specs.Lists.{times, Has, counted_from}
use Rattle.bfs_bytes.specs.declared.Run.{Run}
use Rattle.bfs_inode.specs.Inode.{stream_at}
use Rattle.bfs_super.specs.Conditions.{natural}
use Rattle.bfs_txn.specs.Told.{AreSized}
use Rattle.bfs_stream.specs.Sizes.{Sizes, IsInVolume, IsWhole, first_block}
use Rattle.bfs_stream.specs.Places.{Levels, HasLevels, HasStream, used_runs, run_blocks, blocks_of, level_blocks, places_of, arrays_of, levels_at, arrays_at, frame_at, bytes_at}
use Rattle.bfs_stream.specs.Told.{contents}
use Rattle.bfs_stream.proofs.Writes.{run_low}
use Rattle.bfs_stream_pages.specs.Held.{IsReadable}
use Rattle.bfs_stream_pages.specs.GoesLaws.{reads_sized}
use Rattle.bfs_stream_check.specs.Known.{IsAllTold}
use Rattle.bfs_claims.proofs.Claiming.{times_append}

side : (a b : ℕ) → 0 < a + b → (0 < a) ⊎ (0 < b)
side zero b h = inr (omega (arith, h))
side (suc a) b h = inl (omega arith)

in_either : (xs ys : List ℕ) (k : ℕ) → Has (xs ++ ys) k → Has xs k ⊎ Has ys k
in_either xs ys k h = side (times k xs) (times k ys) (subst (λ (n : ℕ). 0 < n) (times_append k xs ys) h)

module _ (s : Sizes) where
  runs_low : (runs : List Run) (k : ℕ) → All (IsInVolume s) runs → Has (blocks_of s runs) k → k < s.blocks
  runs_low [] k all h = absurd (omega (arith, h))
  runs_low (r ∷ rs) k all h = by_side (in_either (run_blocks s r) (blocks_of s rs) k h) (λ i. runs_low rs k (All-tail (IsInVolume s) r rs all) i)
    where
      by_side : Has (run_blocks s r) k ⊎ Has (blocks_of s rs) k → (Has (blocks_of s rs) k → k < s.blocks) → k < s.blocks
      by_side (inl i) rest = run_low s r k (All-head (IsInVolume s) r rs all) i
      by_side (inr i) rest = rest i

  whole_inside : (runs : List Run) → All (IsWhole s) runs → All (IsInVolume s) runs
  whole_inside runs all k d h = (all k d h).inside

  level_low : (runs : List Run) (k : ℕ) → All (IsInVolume s) (used_runs runs) → Has (level_blocks s runs) k → k < s.blocks
  unfolding level_blocks
  level_low runs k all h = runs_low (used_runs runs) k all h

  none_in : (run : Run) (k : ℕ) → run.len ≡ 0 → Has (run_blocks s run) k → ⊥
  none_in run k none h = let bad : 0 < 0 = subst (λ (n : ℕ). 0 < times k (counted_from (first_block s run) n)) none h in omega (arith, bad)

  module _ (l : Levels) (has : HasLevels s l) (k : ℕ) where
    places_low : Has (places_of s l) k → k < s.blocks
    places_low h = first (in_either (level_blocks s l.stream.direct) (level_blocks s l.table ++ level_blocks s l.runs) k h)
      where
        second : Has (level_blocks s l.table) k ⊎ Has (level_blocks s l.runs) k → k < s.blocks
        second (inl i) = level_low l.table k has.in_indirect i
        second (inr i) = level_low l.runs k (whole_inside (used_runs l.runs) has.in_double) i

        first : Has (level_blocks s l.stream.direct) k ⊎ Has (level_blocks s l.table ++ level_blocks s l.runs) k → k < s.blocks
        first (inl i) = level_low l.stream.direct k has.direct i
        first (inr i) = second (in_either (level_blocks s l.table) (level_blocks s l.runs) k i)

    own_low : (run : Run) → (run.len ≡ 0) ⊎ IsInVolume s run → Has (run_blocks s run) k → k < s.blocks
    own_low run (inl none) h = absurd (none_in run k none h)
    own_low run (inr inside) h = run_low s run k inside h

    arrays_low : Has (arrays_of s l) k → k < s.blocks
    unfolding arrays_of
    arrays_low h = first (in_either (run_blocks s l.stream.indirect) (run_blocks s l.stream.double_indirect ++ blocks_of s (used_runs l.arrays)) k h)
      where
        at_first : (l.stream.indirect.len ≡ 0) ⊎ (IsInVolume s l.stream.indirect × (length (used_runs l.stream.direct) ≡ 12)) → (l.stream.indirect.len ≡ 0) ⊎ IsInVolume s l.stream.indirect
        at_first (inl none) = inl none
        at_first (inr h) = inr h.0

        at_second : (l.stream.double_indirect.len ≡ 0) ⊎ (IsWhole s l.stream.double_indirect × (0 < length (used_runs l.table)) × (length (used_runs l.table) ≡ length l.table)) → (l.stream.double_indirect.len ≡ 0) ⊎ IsInVolume s l.stream.double_indirect
        at_second (inl none) = inl none
        at_second (inr h) = inr h.0.inside

        second : Has (run_blocks s l.stream.double_indirect) k ⊎ Has (blocks_of s (used_runs l.arrays)) k → k < s.blocks
        second (inl i) = own_low l.stream.double_indirect (at_second has.double) i
        second (inr i) = runs_low (used_runs l.arrays) k (whole_inside (used_runs l.arrays) has.arrays) i

        first : Has (run_blocks s l.stream.indirect) k ⊎ Has (run_blocks s l.stream.double_indirect ++ blocks_of s (used_runs l.arrays)) k → k < s.blocks
        first (inl i) = own_low l.stream.indirect (at_first has.indirect) i
        first (inr i) = second (in_either (run_blocks s l.stream.double_indirect) (blocks_of s (used_runs l.arrays)) k i)

abbrev test : Bool → ℕ
test c = cond c 1 0

eq_yes : (a b : ℕ) → (a == b) ≡ true → a ≡ b
eq_yes a b e = grind (arith, e)

natural_is : (z : ℤ) → pos 0 ≤ℤ z → z ≡ pos (natural z)
natural_is (pos n) low = refl
natural_is (negsuc n) low = absurd (omega (arith, ints, low))

module _ (s : Sizes) (id : ℕ) (m : ℕ → Option (List ℕ)) (all : IsAllTold s m) (inside : id < s.blocks) (has : HasStream s (contents m) id) where
  frame_told : (k : ℕ) → Has (frame_at s (contents m) id) k → IsSome (m k)
  frame_told k h = by_test (id == k) refl
    where
      by_test : (c : Bool) → (id == k) ≡ c → IsSome (m k)
      by_test true e = subst (λ (n : ℕ). IsSome (m n)) (eq_yes id k e) (all id inside)
      by_test false e =
          let sum : 0 < test false + times k (arrays_at s (contents m) id) = subst (λ (c : Bool). 0 < test c + times k (arrays_at s (contents m) id)) e h in
          let rest : Has (arrays_at s (contents m) id) k = omega (arith, sum) in
          all k (arrays_low s (levels_at s (contents m) id) has k rest)

  pub readable : (n : ℕ) → (stream_at (contents m id)).size ≡ pos n → IsReadable (record { id = id; sizes = s }) n m
  readable n size = record {
    stands = record { told = frame_told; sound = has };
    told = λ k h. all k (places_low s (levels_at s (contents m) id) has k h);
    size = size;
  }

  -- a size of whole pages, where the stream's bytes are
  pub size_natural : (stream_at (contents m id)).size ≡ pos (natural (stream_at (contents m id)).size)
  size_natural = natural_is (stream_at (contents m id)).size has.size_low

  pub length_is : (n : ℕ) → (stream_at (contents m id)).size ≡ pos n → AreSized s.block_size (Some m) → length (bytes_at s (contents m) id) ≡ n
  length_is n size sized =
      reads_sized (record { id = id; sizes = s }) n (Some m) (λ map e. let is : m ≡ map = cc in ∣ subst (λ (x : ℕ → Option (List ℕ)). IsReadable (record { id = id; sizes = s }) n x) is (readable n size) ∣₁) sized
