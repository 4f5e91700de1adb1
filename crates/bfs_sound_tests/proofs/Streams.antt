-- A stream keeps its format, by tests that compute; it has nothing at the double indirect level.
use Rattle.std.proofs.Common.{◌≡◌, ◌≤◌, ◌<◌, ◌⊎◌, inl, inr, ◌+◌, ◌*◌, ◌^◌, ◌%◌, ℕ, pos, List, [], length, Bool, true, ◌&&◌, refl, sym, subst, arith}
use Rattle.std.proofs.lemmas.Int.{ints}
use Rattle.std.specs.Prelude.{◌≤ℤ◌, ◌*ℤ◌, ◌+ℤ◌, nat_le, nat_lt, All}
use Rattle.std.specs.List.{list_all}
use Rattle.std.proofs.lemmas.List.Elements.{All-nil}
use Rattle.bfs_bytes.specs.declared.Run.{Run}
use Rattle.bfs_bytes.specs.Fields.{unsigned_at, signed32_at, run_in}
use Rattle.bfs_super.specs.Conditions.{natural}
use Rattle.bfs_inode.specs.Refusals.{IsInode, Names}
use Rattle.bfs_stream.specs.Sizes.{Sizes, IsInVolume, IsWhole, first_block}
use Rattle.bfs_stream.specs.Places.{used_runs, Levels, level_blocks, level_end, places_of, HasLevels}
use Rattle.bfs_sound_tests.specs.Bytes.{address}
use Rattle.bfs_sound_tests.proofs.Finite.{both, most, low, all_of, all_map, all_by, is_natural, natural_low}

-- the run lies in one group of the volume
abbrev pub fits : Sizes → Run → Bool
fits s run = is_natural run.group && (nat_le (run.start + run.len) s.group_blocks && nat_le (first_block s run + run.len) s.blocks)

pub in_volume : (s : Sizes) (run : Run) → fits s run ≡ true → IsInVolume s run
in_volume s run e =
    let a = both (is_natural run.group) (nat_le (run.start + run.len) s.group_blocks && nat_le (first_block s run + run.len) s.blocks) e in
    let b = both (nat_le (run.start + run.len) s.group_blocks) (nat_le (first_block s run + run.len) s.blocks) a.1 in
    record { group = natural_low run.group a.0; one_group = most _ _ b.0; inside = most _ _ b.1 }

pub all_in_volume : (s : Sizes) (runs : List Run) → list_all (fits s) runs ≡ true → All (IsInVolume s) runs
all_in_volume s runs e = all_by (IsInVolume s) runs (all_map (λ run. fits s run ≡ true) (IsInVolume s) runs (in_volume s) (all_of (fits s) runs e))

-- an indirect table is there only where all twelve direct runs are
abbrev pub HasTable : Sizes → Levels → Type 0
HasTable s l = (l.stream.indirect.len ≡ 0) ⊎ ((fits s l.stream.indirect ≡ true) × (length (used_runs l.stream.direct) ≡ 12))

pub record IsSmall (s : Sizes) (l : Levels) (size : ℕ) : Type 0 where
  pub direct : list_all (fits s) (used_runs l.stream.direct) ≡ true
  pub table : HasTable s l
  pub in_table : list_all (fits s) (used_runs l.table) ≡ true
  pub double : l.stream.double_indirect.len ≡ 0
  pub arrays : used_runs l.arrays ≡ []
  pub runs : used_runs l.runs ≡ []
  pub direct_range : l.stream.max_direct_range ≡ pos (s.block_size * length (level_blocks s l.stream.direct))
  pub indirect_range : l.stream.max_indirect_range ≡ pos (s.block_size * level_end (length (level_blocks s l.stream.direct)) (length (level_blocks s l.table)))
  pub double_range : l.stream.max_double_indirect_range ≡ pos (s.block_size * level_end (length (level_blocks s l.stream.direct) + length (level_blocks s l.table)) (length (level_blocks s l.runs)))
  pub size_is : l.stream.size ≡ pos size
  pub enough : nat_le size (s.block_size * length (places_of s l)) ≡ true

pub has_levels : (s : Sizes) (l : Levels) (size : ℕ) → IsSmall s l size → HasLevels s l
has_levels s l size small = record {
  direct = all_in_volume s (used_runs l.stream.direct) small.direct;
  indirect = table small.table;
  in_indirect = all_in_volume s (used_runs l.table) small.in_table;
  double = inl small.double;
  arrays = subst (All (IsWhole s)) (sym small.arrays) (All-nil (IsWhole s));
  in_double = subst (All (IsWhole s)) (sym small.runs) (All-nil (IsWhole s));
  direct_range = small.direct_range;
  indirect_range = small.indirect_range;
  double_range = small.double_range;
  size_low = subst (λ z. pos 0 ≤ℤ z) (sym small.size_is) (omega (arith, ints));
  size_high = subst (λ z. natural z ≤ s.block_size * length (places_of s l)) (sym small.size_is) (most size (s.block_size * length (places_of s l)) small.enough);
}
  where
    table : HasTable s l → (l.stream.indirect.len ≡ 0) ⊎ (IsInVolume s l.stream.indirect × (length (used_runs l.stream.direct) ≡ 12))
    table (inl e) = inl e
    table (inr p) = inr (in_volume s l.stream.indirect p.0, p.1)

-- an address in the first allocation group
names : (id shift : ℕ) → id < 2 ^ shift → Names (address id) id shift
names id shift small = record { one = refl; inside = small; block = number }
  where
    number : (pos 0 *ℤ pos (2 ^ shift)) +ℤ pos id ≡ pos id
    number = grind arith

pub names_of : (run : Run) (id shift : ℕ) → run ≡ address id → nat_lt id (2 ^ shift) ≡ true → Names run id shift
names_of run id shift is small = subst (λ r. Names r id shift) (sym is) (names id shift (low id (2 ^ shift) small))

-- a block is the inode of a number, by what stands in it
pub is_inode : (block : List ℕ) (id shift : ℕ) → signed32_at block 0 ≡ pos 0x3bbe0ad9 → run_in block 4 ≡ address id → nat_lt id (2 ^ shift) ≡ true → unsigned_at 4 block 24 % 2 ≡ 1
    → signed32_at block 64 ≡ pos (length block) → IsInode block id shift
is_inode block id shift magic number small used size = record { magic = magic; number_is = names_of (run_in block 4) id shift number small; in_use = used; size = size }
