-- The parts of a stream put together: its levels keep the format, or one of them is wrong; and its blocks are those of the runs.
use Rattle.std.proofs.Common.{◌≡◌, ◌≢◌, ◌≤◌, ◌<◌, ◌+◌, ◌*◌, inl, inr, ◌⊎◌, ℕ, zero, suc, ℤ, pos, List, [], ◌∷◌, ◌++◌, length, Bool, true, false, cond, refl, sym, ap, ◌∙◌, subst, arith, length-append, append_assoc}
use Rattle.std.specs.Prelude.{IsTrue, All, ◌==◌, ◌≤ℤ◌, ◌<ℤ◌}
use Rattle.std.specs.List.{flat_map}
use Rattle.std.proofs.lemmas.List.Elements.{All-append, All-cons, All-nil}
use Rattle.bfs_bytes.specs.declared.Run.{Run}
use Rattle.bfs_inode.specs.Inode.{Stream, stream_at}
use Rattle.bfs_super.specs.Conditions.{natural}
use Rattle.bfs_base.specs.Lists.{counted_from}
use Rattle.bfs_stream.specs.Sizes.{Sizes, IsInVolume, IsWhole, first_block}
use Rattle.bfs_stream.specs.Places.{Levels, HasLevels, used_runs, array_runs, run_blocks, blocks_of, level_blocks, level_end, places_of, arrays_of}
use Rattle.bfs_finding.specs.StreamFaults.{IsLevelFault, direct_range as direct_fault, indirect_range as indirect_fault, double_range as double_fault, wrong_size as size_fault, direct_count, indirect_count, double_count}
use Rattle.bfs_stream_check.specs.declared.stream.LevelRuns.{LevelRuns}
use Rattle.bfs_stream_check.specs.Read.{IsRunOf, IsTaken, IsArray, HasRanges, IsRangeFault, direct_range, indirect_range, double_range, wrong_size, AreRead, AreRunsIn, own_run}
use Rattle.bfs_stream_check.proofs.Counted.{joined_blocks}
use Rattle.bfs_stream_check.proofs.Flat.{append_nil}

-- the levels of the stream whose inode has these bytes
abbrev pub levels_of : Sizes → (ℕ → List ℕ) → List ℕ → Levels
levels_of s blocks inode = record {
  stream = stream_at inode;
  table = array_runs s blocks (stream_at inode).indirect;
  arrays = array_runs s blocks (stream_at inode).double_indirect;
  runs = flat_map (array_runs s blocks) (used_runs (array_runs s blocks (stream_at inode).double_indirect));
}

pub level_is : (s : Sizes) (runs : List Run) → level_blocks s runs ≡ blocks_of s (used_runs runs)
unfolding level_blocks
level_is s runs = refl

pub arrays_are : (s : Sizes) (l : Levels) → arrays_of s l ≡ run_blocks s l.stream.indirect ++ (run_blocks s l.stream.double_indirect ++ blocks_of s (used_runs l.arrays))
unfolding arrays_of
arrays_are s l = refl

-- runs of which each is so are in the volume, and whole ones are whole
pub all_inside : (s : Sizes) (whole : Bool) (xs : List Run) → All (IsRunOf s whole) xs → All (IsInVolume s) xs
all_inside s whole xs all k d h = (all k d h).inside

pub all_whole : (s : Sizes) (xs : List Run) → All (IsRunOf s true) xs → All (IsWhole s) xs
all_whole s xs all k d h = let r = all k d h in record { inside = r.inside; long = r.long refl }

module _ (s : Sizes) (l : Levels) (ds ms es rs : List Run) (full_d full_i ready : Bool) (direct : IsTaken l.stream.direct [] ds full_d) (table : IsTaken l.table [] ms full_i)
    (arrays : es ≡ used_runs l.arrays) (runs : rs ≡ used_runs l.runs) (a b c : ℕ) (a_is : a ≡ length (blocks_of s ds)) (b_is : b ≡ length (blocks_of s ms)) (c_is : c ≡ length (blocks_of s rs)) where
  count_d : a ≡ direct_count s l
  count_d = a_is ∙ ap (λ (x : List Run). length (blocks_of s x)) direct.items ∙ ap length (sym (level_is s l.stream.direct))

  count_i : b ≡ indirect_count s l
  count_i = b_is ∙ ap (λ (x : List Run). length (blocks_of s x)) table.items ∙ ap length (sym (level_is s l.table))

  count_r : c ≡ double_count s l
  count_r = c_is ∙ ap (λ (x : List Run). length (blocks_of s x)) runs ∙ ap length (sym (level_is s l.runs))

  count_all : a + b + c ≡ length (places_of s l)
  count_all =
      let p = length-append (level_blocks s l.stream.direct) (level_blocks s l.table ++ level_blocks s l.runs) in
      let q = length-append (level_blocks s l.table) (level_blocks s l.runs) in
      let x = count_d in
      let y = count_i in
      let z = count_r in
      omega (arith, p, q, x, y, z)

  end_i : level_end a b ≡ level_end (direct_count s l) (indirect_count s l)
  end_i = ap (λ (n : ℕ). level_end n b) count_d ∙ ap (λ (n : ℕ). level_end (direct_count s l) n) count_i

  end_r : level_end (a + b) c ≡ level_end (direct_count s l + indirect_count s l) (double_count s l)
  end_r =
      ap (λ (n : ℕ). level_end (n + b) c) count_d ∙ ap (λ (n : ℕ). level_end (direct_count s l + n) c) count_i
      ∙ ap (λ (n : ℕ). level_end (direct_count s l + indirect_count s l) n) count_r

  pub range_wrong : (found wanted : ℤ) → IsRangeFault s l.stream a b c found wanted → IsLevelFault s l found wanted
  range_wrong found wanted (direct_range is want other) = direct_fault is (want ∙ ap (λ (n : ℕ). pos (s.block_size * n)) count_d) other
  range_wrong found wanted (indirect_range is want other) = indirect_fault is (want ∙ ap (λ (n : ℕ). pos (s.block_size * n)) end_i) other
  range_wrong found wanted (double_range is want other) = double_fault is (want ∙ ap (λ (n : ℕ). pos (s.block_size * n)) end_r) other
  range_wrong found wanted (wrong_size is want other) = size_fault is (want ∙ ap (λ (n : ℕ). pos (s.block_size * n)) count_all) other

  pub has_levels : length l.stream.direct ≡ 12 → All (IsRunOf s false) ds → All (IsRunOf s false) ms → All (IsRunOf s true) es → All (IsRunOf s true) rs
      → IsArray s false full_d l.stream.indirect → (IsTrue ready → IsTrue full_i × (0 < length ms)) → IsArray s true ready l.stream.double_indirect
      → HasRanges s l.stream a b c → HasLevels s l
  has_levels twelve all_d all_i all_a all_r own ready_is second ranges = record {
    direct = subst (λ (x : List Run). All (IsInVolume s) x) direct.items (all_inside s false ds all_d);
    indirect = by_own own;
    in_indirect = subst (λ (x : List Run). All (IsInVolume s) x) table.items (all_inside s false ms all_i);
    double = by_second second;
    arrays = subst (λ (x : List Run). All (IsWhole s) x) arrays (all_whole s es all_a);
    in_double = subst (λ (x : List Run). All (IsWhole s) x) runs (all_whole s rs all_r);
    direct_range = ranges.direct_range ∙ ap (λ (n : ℕ). pos (s.block_size * n)) count_d;
    indirect_range = ranges.indirect_range ∙ ap (λ (n : ℕ). pos (s.block_size * n)) end_i;
    double_range = ranges.double_range ∙ ap (λ (n : ℕ). pos (s.block_size * n)) end_r;
    size_low = ranges.size_low;
    size_high = subst (λ (n : ℕ). natural l.stream.size ≤ s.block_size * n) count_all ranges.size_high;
  }
    where
      by_own : IsArray s false full_d l.stream.indirect → (l.stream.indirect.len ≡ 0) ⊎ (IsInVolume s l.stream.indirect × (length (used_runs l.stream.direct) ≡ 12))
      by_own (inl none) = inl none
      by_own (inr both) = inr (both.0.inside, direct.ends.0 both.1 ∙ twelve)

      by_second : IsArray s true ready l.stream.double_indirect → (l.stream.double_indirect.len ≡ 0) ⊎ (IsWhole s l.stream.double_indirect × (0 < length (used_runs l.table)) × (length (used_runs l.table) ≡ length l.table))
      by_second (inl none) = inl none
      by_second (inr both) =
          let r = ready_is both.1 in
          let some : 0 < length (used_runs l.table) = subst (λ (x : List Run). 0 < length x) table.items r.1 in
          inr (record { inside = both.0.inside; long = both.0.long refl }, some, table.ends.0 r.0)

-- the blocks of an array are its own
pub own_blocks : (s : Sizes) (run : Run) → blocks_of s (own_run run) ≡ run_blocks s run
own_blocks s run = by_len run.len refl
  where
    by_len : (n : ℕ) → run.len ≡ n → blocks_of s (own_run run) ≡ run_blocks s run
    by_len zero e =
        let t : (run.len == 0) ≡ true = grind (arith, e) in
        ap (λ (x : Bool). blocks_of s (cond x [] (run ∷ []))) t ∙ sym (ap (counted_from (first_block s run)) e)
    by_len (suc n) e =
        let t : (run.len == 0) ≡ false = grind (arith, e) in
        ap (λ (x : Bool). blocks_of s (cond x [] (run ∷ []))) t ∙ append_nil (run_blocks s run)

pub own_inside : (s : Sizes) (run : Run) → (run.len ≡ 0) ⊎ IsInVolume s run → All (IsInVolume s) (own_run run)
own_inside s run (inl none) =
    let t : (run.len == 0) ≡ true = grind (arith, none) in
    subst (λ (x : Bool). All (IsInVolume s) (cond x [] (run ∷ []))) (sym t) (All-nil (IsInVolume s))
own_inside s run (inr inside) = by_test (run.len == 0)
  where
    by_test : (x : Bool) → All (IsInVolume s) (cond x [] (run ∷ []))
    by_test true = All-nil (IsInVolume s)
    by_test false = All-cons (IsInVolume s) run [] inside (All-nil (IsInVolume s))

module _ (s : Sizes) (l : Levels) (r : LevelRuns) (read : AreRead l r) where
  pub places_are : (runs : List Run) → runs ≡ r.direct.items ++ r.indirect.items ++ r.double.items → blocks_of s runs ≡ places_of s l
  places_are runs e =
      ap (blocks_of s) (e ∙ append_assoc r.direct.items r.indirect.items r.double.items)
      ∙ joined_blocks s r.direct.items (r.indirect.items ++ r.double.items)
      ∙ ap (λ (x : List ℕ). blocks_of s r.direct.items ++ x) (joined_blocks s r.indirect.items r.double.items)
      ∙ ap (λ (x : List ℕ). x ++ (blocks_of s r.indirect.items ++ blocks_of s r.double.items)) (ap (blocks_of s) read.direct ∙ sym (level_is s l.stream.direct))
      ∙ ap (λ (x : List ℕ). level_blocks s l.stream.direct ++ (x ++ blocks_of s r.double.items)) (ap (blocks_of s) read.indirect ∙ sym (level_is s l.table))
      ∙ ap (λ (x : List ℕ). level_blocks s l.stream.direct ++ (level_blocks s l.table ++ x)) (ap (blocks_of s) read.double ∙ sym (level_is s l.runs))

  pub arrays_is : (arrays : List Run) → arrays ≡ own_run l.stream.indirect ++ own_run l.stream.double_indirect ++ r.arrays.items → blocks_of s arrays ≡ arrays_of s l
  arrays_is arrays e =
      ap (blocks_of s) (e ∙ append_assoc (own_run l.stream.indirect) (own_run l.stream.double_indirect) r.arrays.items)
      ∙ joined_blocks s (own_run l.stream.indirect) (own_run l.stream.double_indirect ++ r.arrays.items)
      ∙ ap (λ (x : List ℕ). blocks_of s (own_run l.stream.indirect) ++ x) (joined_blocks s (own_run l.stream.double_indirect) r.arrays.items)
      ∙ ap (λ (x : List ℕ). x ++ (blocks_of s (own_run l.stream.double_indirect) ++ blocks_of s r.arrays.items)) (own_blocks s l.stream.indirect)
      ∙ ap (λ (x : List ℕ). run_blocks s l.stream.indirect ++ (x ++ blocks_of s r.arrays.items)) (own_blocks s l.stream.double_indirect)
      ∙ ap (λ (x : List Run). run_blocks s l.stream.indirect ++ (run_blocks s l.stream.double_indirect ++ blocks_of s x)) read.arrays
      ∙ sym (arrays_are s l)

-- all runs of a stream lie in the volume
pub arrays_in : (s : Sizes) (t : Stream) (r : LevelRuns) (arrays : List Run) → AreRunsIn s t r → arrays ≡ own_run t.indirect ++ own_run t.double_indirect ++ r.arrays.items → All (IsInVolume s) arrays
arrays_in s t r arrays inside e =
    subst (λ (x : List Run). All (IsInVolume s) x) (sym (e ∙ append_assoc (own_run t.indirect) (own_run t.double_indirect) r.arrays.items))
    (All-append (IsInVolume s) (own_run t.indirect) (own_run t.double_indirect ++ r.arrays.items) (own_inside s t.indirect inside.own)
    (All-append (IsInVolume s) (own_run t.double_indirect) r.arrays.items (own_inside s t.double_indirect inside.second) inside.arrays))

pub runs_in_volume : (s : Sizes) (t : Stream) (r : LevelRuns) (runs : List Run) → AreRunsIn s t r → runs ≡ r.direct.items ++ r.indirect.items ++ r.double.items → All (IsInVolume s) runs
runs_in_volume s t r runs inside e =
    subst (λ (x : List Run). All (IsInVolume s) x) (sym (e ∙ append_assoc r.direct.items r.indirect.items r.double.items))
    (All-append (IsInVolume s) r.direct.items (r.indirect.items ++ r.double.items) inside.direct (All-append (IsInVolume s) r.indirect.items r.double.items inside.indirect inside.double))
