-- The levels with the last run of a table shortened.
use Rattle.std.proofs.Common.{◌≡◌, ◌≤◌, ◌<◌, ◌+◌, ◌*◌, ◌∙◌, inl, ℕ, zero, suc, pos, List, [], ◌∷◌, ◌++◌, length, set, get_or, Bool, true, false, cond, refl, sym, ap, ap₂, subst, arith, append_assoc, length-append}
use Rattle.std.specs.Prelude.{◌==◌, All}
use Rattle.std.proofs.lemmas.List.Elements.{All-append, All-cons, All-nil}
use Rattle.std.proofs.lemmas.List.{append-nil}
use Rattle.bfs_bytes.specs.declared.Run.{Run}
use Rattle.bfs_super.specs.Conditions.{natural}
use Rattle.bfs_stream.specs.Sizes.{Sizes, IsInVolume, IsWhole, first_block}
use Rattle.bfs_stream.specs.Places.{Levels, used_runs, blocks_of, run_blocks, level_blocks, level_end, places_of, HasLevels}
use Rattle.bfs_stream.proofs.Levels.{length-counted}
use Rattle.bfs_cuts.proofs.Shorter.{shortened, shortened_blocks, own_blocks, join_blocks}

pub left_at : (xs ys : List Run) (j : ℕ) (x : Run) → j < length xs → get_or (xs ++ ys) j x ≡ get_or xs j x
left_at [] ys j x h = absurd (omega (arith, h))
left_at (y ∷ xs) ys zero x h = refl
left_at (y ∷ xs) ys (suc j) x h = left_at xs ys j x (omega (arith, h))

-- what all runs have, those before the last have
pub all_front : (P : Run → Type 0) (front : List Run) (last : Run) → All P (front ++ last ∷ []) → All P front
all_front P front last all i d h = subst P (left_at front (last ∷ []) i d h) (all i d (let e = length-append front (last ∷ []) in omega (arith, e, h)))

all_one : (P : Run → Type 0) (r : Run) → (0 < r.len → P r) → All P (used_runs (r ∷ []))
all_one P r has = by_len (r.len == 0) refl
  where
    by_len : (b : Bool) → (r.len == 0) ≡ b → All P (cond (r.len == 0) [] (r ∷ []))
    by_len true e = subst (λ (b : Bool). All P (cond b [] (r ∷ []))) (sym e) (All-nil P)
    by_len false e = subst (λ (b : Bool). All P (cond b [] (r ∷ []))) (sym e) (All-cons P r [] (has (grind (arith, e))) (All-nil P))

pub no_level : (before own : ℕ) → own ≡ 0 → level_end before own ≡ 0
no_level before own e = let t : (own == 0) ≡ true = grind (arith, e) in ap (λ (b : Bool). cond b 0 (before + own)) t

-- the runs of a level of which the last is written over
module _ (s : Sizes) (runs front : List Run) (last r gone : Run) (is : used_runs runs ≡ front ++ last ∷ []) (parts : run_blocks s last ≡ run_blocks s r ++ run_blocks s gone) where
  pub cut_used : used_runs (set runs (length front) r) ≡ front ++ used_runs (r ∷ [])
  cut_used = shortened runs front last r is

  pub cut_blocks : level_blocks s runs ≡ level_blocks s (set runs (length front) r) ++ run_blocks s gone
  unfolding level_blocks
  cut_blocks = shortened_blocks s runs front last r gone is parts

  pub cut_length : length (level_blocks s (set runs (length front) r)) ≡ length (blocks_of s front) + r.len
  unfolding level_blocks
  cut_length =
      ap (λ (x : List Run). length (blocks_of s x)) cut_used ∙ ap length (join_blocks s front (used_runs (r ∷ []))) ∙ length-append (blocks_of s front) (blocks_of s (used_runs (r ∷ [])))
      ∙ ap (λ (x : List ℕ). length (blocks_of s front) + length x) (own_blocks s r) ∙ ap (λ (n : ℕ). length (blocks_of s front) + n) (length-counted (first_block s r) r.len)

  pub cut_all : (P : Run → Type 0) → (0 < r.len → P r) → All P (used_runs runs) → All P (used_runs (set runs (length front) r))
  cut_all P has all =
      subst (λ (x : List Run). All P x) (sym cut_used)
      (All-append P front (used_runs (r ∷ [])) (all_front P front last (subst (λ (x : List Run). All P x) is all)) (all_one P r has))

-- the indirect level with the last run of its table shortened
abbrev pub cut_table : Sizes → Levels → List Run → Run → Levels
cut_table s l front r = record l {
  stream = record l.stream { max_indirect_range = pos (s.block_size * level_end (length (level_blocks s l.stream.direct)) (length (blocks_of s front) + r.len)) };
  table = set l.table (length front) r;
}

module _ (s : Sizes) (l : Levels) (front : List Run) (last r gone : Run) (sound : HasLevels s l) (is : used_runs l.table ≡ front ++ last ∷ []) (parts : run_blocks s last ≡ run_blocks s r ++ run_blocks s gone)
    (inside : 0 < r.len → IsInVolume s r) (no_runs : level_blocks s l.runs ≡ []) (no_double : l.stream.double_indirect.len ≡ 0)
    (size : natural l.stream.size ≤ s.block_size * (length (level_blocks s l.stream.direct) + (length (blocks_of s front) + r.len))) where
  pub table_places : places_of s l ≡ places_of s (cut_table s l front r) ++ run_blocks s gone
  table_places =
      ap (λ (x : List ℕ). level_blocks s l.stream.direct ++ x) (ap₂ (λ (x y : List ℕ). x ++ y) (cut_blocks s l.table front last r gone is parts) no_runs ∙ append-nil (level_blocks s (set l.table (length front) r) ++ run_blocks s gone))
      ∙ sym (append_assoc (level_blocks s l.stream.direct) (level_blocks s (set l.table (length front) r)) (run_blocks s gone))
      ∙ ap (λ (x : List ℕ). (level_blocks s l.stream.direct ++ x) ++ run_blocks s gone) (sym (ap (λ (x : List ℕ). level_blocks s (set l.table (length front) r) ++ x) no_runs ∙ append-nil (level_blocks s (set l.table (length front) r))))

  table_long : length (places_of s (cut_table s l front r)) ≡ length (level_blocks s l.stream.direct) + (length (blocks_of s front) + r.len)
  table_long =
      length-append (level_blocks s l.stream.direct) (level_blocks s (set l.table (length front) r) ++ level_blocks s l.runs)
      ∙ ap (λ (n : ℕ). length (level_blocks s l.stream.direct) + n)
      (ap length (ap (λ (x : List ℕ). level_blocks s (set l.table (length front) r) ++ x) no_runs ∙ append-nil (level_blocks s (set l.table (length front) r))) ∙ cut_length s l.table front last r gone is parts)

  pub table_sound : HasLevels s (cut_table s l front r)
  table_sound = record {
    direct = sound.direct;
    indirect = sound.indirect;
    in_indirect = cut_all s l.table front last r gone is parts (IsInVolume s) inside sound.in_indirect;
    double = inl no_double;
    arrays = sound.arrays;
    in_double = sound.in_double;
    direct_range = sound.direct_range;
    indirect_range = ap (λ (n : ℕ). pos (s.block_size * level_end (length (level_blocks s l.stream.direct)) n)) (sym (cut_length s l.table front last r gone is parts));
    double_range = sound.double_range ∙ ap (λ (n : ℕ). pos (s.block_size * n))
        (no_level (length (level_blocks s l.stream.direct) + length (level_blocks s l.table)) (length (level_blocks s l.runs)) (ap length no_runs)
        ∙ sym (no_level (length (level_blocks s l.stream.direct) + length (level_blocks s (set l.table (length front) r))) (length (level_blocks s l.runs)) (ap length no_runs)));
    size_low = sound.size_low;
    size_high = subst (λ (n : ℕ). natural l.stream.size ≤ s.block_size * n) (sym table_long) size;
  }

-- the double indirect level with the last run of its tables shortened
abbrev pub cut_runs : Sizes → Levels → List Run → Run → Levels
cut_runs s l front r = record l {
  stream = record l.stream { max_double_indirect_range = pos (s.block_size * level_end (length (level_blocks s l.stream.direct) + length (level_blocks s l.table)) (length (blocks_of s front) + r.len)) };
  runs = set l.runs (length front) r;
}

module _ (s : Sizes) (l : Levels) (front : List Run) (last r gone : Run) (sound : HasLevels s l) (is : used_runs l.runs ≡ front ++ last ∷ []) (parts : run_blocks s last ≡ run_blocks s r ++ run_blocks s gone)
    (inside : 0 < r.len → IsWhole s r) (size : natural l.stream.size ≤ s.block_size * (length (level_blocks s l.stream.direct) + length (level_blocks s l.table) + (length (blocks_of s front) + r.len))) where
  pub runs_places : places_of s l ≡ places_of s (cut_runs s l front r) ++ run_blocks s gone
  runs_places =
      ap (λ (x : List ℕ). level_blocks s l.stream.direct ++ (level_blocks s l.table ++ x)) (cut_blocks s l.runs front last r gone is parts)
      ∙ ap (λ (x : List ℕ). level_blocks s l.stream.direct ++ x) (sym (append_assoc (level_blocks s l.table) (level_blocks s (set l.runs (length front) r)) (run_blocks s gone)))
      ∙ sym (append_assoc (level_blocks s l.stream.direct) (level_blocks s l.table ++ level_blocks s (set l.runs (length front) r)) (run_blocks s gone))

  runs_long : length (places_of s (cut_runs s l front r)) ≡ length (level_blocks s l.stream.direct) + length (level_blocks s l.table) + (length (blocks_of s front) + r.len)
  runs_long =
      let a : length (places_of s (cut_runs s l front r)) ≡ length (level_blocks s l.stream.direct) + length (level_blocks s l.table ++ level_blocks s (set l.runs (length front) r)) = length-append (level_blocks s l.stream.direct) (level_blocks s l.table ++ level_blocks s (set l.runs (length front) r)) in
      let b = length-append (level_blocks s l.table) (level_blocks s (set l.runs (length front) r)) in
      let c = cut_length s l.runs front last r gone is parts in
      omega (arith, a, b, c)

  pub runs_sound : HasLevels s (cut_runs s l front r)
  runs_sound = record {
    direct = sound.direct;
    indirect = sound.indirect;
    in_indirect = sound.in_indirect;
    double = sound.double;
    arrays = sound.arrays;
    in_double = cut_all s l.runs front last r gone is parts (IsWhole s) inside sound.in_double;
    direct_range = sound.direct_range;
    indirect_range = sound.indirect_range;
    double_range = ap (λ (n : ℕ). pos (s.block_size * level_end (length (level_blocks s l.stream.direct) + length (level_blocks s l.table)) n)) (sym (cut_length s l.runs front last r gone is parts));
    size_low = sound.size_low;
    size_high = subst (λ (n : ℕ). natural l.stream.size ≤ s.block_size * n) (sym runs_long) size;
  }
