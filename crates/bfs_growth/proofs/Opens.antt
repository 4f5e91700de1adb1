-- Arrays without runs that a level gets before its first run, and one more run under double indirect.
use Rattle.std.proofs.Common.{◌≡◌, ◌≤◌, ◌<◌, ◌+◌, ◌*◌, ◌∙◌, ◌⊎◌, inl, inr, ℕ, zero, suc, pos, List, [], ◌∷◌, ◌++◌, length, set, replicate, Bool, true, false, cond, refl, sym, ap, subst, arith, append_assoc, length-append}
use Rattle.std.specs.Prelude.{◌==◌, All}
use Rattle.std.proofs.lemmas.List.Elements.{All-append, All-cons, All-nil}
use Rattle.bfs_bytes.specs.declared.Run.{Run}
use Rattle.bfs_super.specs.Conditions.{natural}
use Rattle.bfs_stream.specs.Sizes.{Sizes, IsInVolume, IsWhole, first_block}
use Rattle.bfs_stream.specs.Places.{Levels, used_runs, blocks_of, run_blocks, level_blocks, level_end, places_of, arrays_of, HasLevels}
use Rattle.bfs_stream.proofs.Levels.{length-counted, used_end}
use Rattle.bfs_stream.proofs.Appends.{appended, appended_blocks}

append_none : (xs : List ℕ) → xs ++ [] ≡ xs
append_none [] = refl
append_none (x ∷ xs) = ap (λ t. x ∷ t) (append_none xs)

-- runs of length 0 are not used
pub none_used : (s : Sizes) (none : Run) (n : ℕ) → none.len ≡ 0 → used_runs (replicate n none) ≡ []
none_used s none zero e = refl
none_used s none (suc n) e = used_end s none (replicate n none) e

-- nor do they add to runs that are followed by them
pub none_behind : (s : Sizes) (rs : List Run) (none : Run) (n : ℕ) → none.len ≡ 0 → used_runs (rs ++ replicate n none) ≡ used_runs rs
none_behind s [] none n e = none_used s none n e
none_behind s (r ∷ rs) none n e = by_len (r.len == 0) (none_behind s rs none n e)
  where
    by_len : (b : Bool) → used_runs (rs ++ replicate n none) ≡ used_runs rs → cond b [] (r ∷ used_runs (rs ++ replicate n none)) ≡ cond b [] (r ∷ used_runs rs)
    by_len true h = refl
    by_len false h = ap (λ t. r ∷ t) h

-- the indirect level with an array that has no runs yet
abbrev pub opened_indirect : Levels → Run → Run → ℕ → Levels
opened_indirect l array none n = record l { stream = record l.stream { indirect = array }; table = replicate n none }

module _ (s : Sizes) (l : Levels) (array none : Run) (n : ℕ) (sound : HasLevels s l) (zero_len : none.len ≡ 0) (inside : IsInVolume s array) (full : length (used_runs l.stream.direct) ≡ 12) (no_table : l.table ≡ []) where
  table_same : level_blocks s (replicate n none) ≡ level_blocks s l.table
  unfolding level_blocks
  table_same = ap (blocks_of s) (none_used s none n zero_len ∙ sym (ap used_runs no_table))

  pub opened_places : places_of s (opened_indirect l array none n) ≡ places_of s l
  opened_places = ap (λ x. level_blocks s l.stream.direct ++ (x ++ level_blocks s l.runs)) table_same

  pub opened_sound : HasLevels s (opened_indirect l array none n)
  opened_sound = record {
    direct = sound.direct;
    indirect = inr (inside, full);
    in_indirect = subst (λ x. All (IsInVolume s) x) (sym (none_used s none n zero_len)) (All-nil (IsInVolume s));
    double = still sound.double;
    arrays = sound.arrays;
    in_double = sound.in_double;
    direct_range = sound.direct_range;
    indirect_range = sound.indirect_range ∙ ap (λ x. pos (s.block_size * level_end (length (level_blocks s l.stream.direct)) (length x))) (sym table_same);
    double_range = sound.double_range ∙ ap (λ x. pos (s.block_size * level_end (length (level_blocks s l.stream.direct) + length x) (length (level_blocks s l.runs)))) (sym table_same);
    size_low = sound.size_low;
    size_high = subst (λ x. natural l.stream.size ≤ s.block_size * length x) (sym opened_places) sound.size_high;
  }
    where
      -- without a table the double indirect level is not used
      still : (l.stream.double_indirect.len ≡ 0) ⊎ (IsWhole s l.stream.double_indirect × (0 < length (used_runs l.table)) × (length (used_runs l.table) ≡ length l.table))
          → (l.stream.double_indirect.len ≡ 0) ⊎ (IsWhole s l.stream.double_indirect × (0 < length (used_runs (replicate n none))) × (length (used_runs (replicate n none)) ≡ length (replicate n none)))
      still (inl e) = inl e
      still (inr has) = let none_there : length (used_runs l.table) ≡ 0 = ap (λ x. length (used_runs x)) no_table in absurd (omega (arith, has.1, none_there))

-- the double indirect level with an array that lists no arrays yet
abbrev pub opened_double : Levels → Run → Run → ℕ → Levels
opened_double l array none n = record l { stream = record l.stream { double_indirect = array }; arrays = replicate n none }

module _ (s : Sizes) (l : Levels) (array none : Run) (n : ℕ) (sound : HasLevels s l) (zero_len : none.len ≡ 0) (whole : IsWhole s array) (some : 0 < length (used_runs l.table)) (full : length (used_runs l.table) ≡ length l.table) where
  pub double_places : places_of s (opened_double l array none n) ≡ places_of s l
  double_places = refl

  pub double_sound : HasLevels s (opened_double l array none n)
  double_sound = record {
    direct = sound.direct;
    indirect = sound.indirect;
    in_indirect = sound.in_indirect;
    double = inr (whole, some, full);
    arrays = subst (λ x. All (IsWhole s) x) (sym (none_used s none n zero_len)) (All-nil (IsWhole s));
    in_double = sound.in_double;
    direct_range = sound.direct_range;
    indirect_range = sound.indirect_range;
    double_range = sound.double_range;
    size_low = sound.size_low;
    size_high = sound.size_high;
  }

-- the double indirect level with one more array that has no runs yet
abbrev pub opened_table : Levels → Run → Run → ℕ → Levels
opened_table l array none n = record l {
  arrays = set (set l.arrays (suc (length (used_runs l.arrays))) none) (length (used_runs l.arrays)) array;
  runs = l.runs ++ replicate n none;
}

module _ (s : Sizes) (l : Levels) (array none : Run) (n : ℕ) (sound : HasLevels s l) (zero_len : none.len ≡ 0) (some : 0 < array.len) (whole : IsWhole s array) (room : length (used_runs l.arrays) < length l.arrays) where
  pub arrays_more : used_runs (opened_table l array none n).arrays ≡ used_runs l.arrays ++ array ∷ []
  arrays_more = appended s l.arrays array none (λ z. omega arith) zero_len room

  runs_same : used_runs (l.runs ++ replicate n none) ≡ used_runs l.runs
  runs_same = none_behind s l.runs none n zero_len

  pub blocks_same : level_blocks s (l.runs ++ replicate n none) ≡ level_blocks s l.runs
  unfolding level_blocks
  blocks_same = ap (blocks_of s) runs_same

  pub table_places : places_of s (opened_table l array none n) ≡ places_of s l
  table_places = ap (λ x. level_blocks s l.stream.direct ++ (level_blocks s l.table ++ x)) blocks_same

  pub table_arrays : arrays_of s (opened_table l array none n) ≡ arrays_of s l ++ run_blocks s array
  unfolding arrays_of
  table_arrays =
      ap (λ x. run_blocks s l.stream.indirect ++ (run_blocks s l.stream.double_indirect ++ x)) (ap (blocks_of s) arrays_more ∙ appended_blocks s (used_runs l.arrays) array)
      ∙ ap (λ x. run_blocks s l.stream.indirect ++ x) (sym (append_assoc (run_blocks s l.stream.double_indirect) (blocks_of s (used_runs l.arrays)) (run_blocks s array)))
      ∙ sym (append_assoc (run_blocks s l.stream.indirect) (run_blocks s l.stream.double_indirect ++ blocks_of s (used_runs l.arrays)) (run_blocks s array))

  pub table_sound : HasLevels s (opened_table l array none n)
  table_sound = record {
    direct = sound.direct;
    indirect = sound.indirect;
    in_indirect = sound.in_indirect;
    double = sound.double;
    arrays = subst (λ x. All (IsWhole s) x) (sym arrays_more) (All-append (IsWhole s) (used_runs l.arrays) (array ∷ []) sound.arrays (All-cons (IsWhole s) array [] whole (All-nil (IsWhole s))));
    in_double = subst (λ x. All (IsWhole s) x) (sym runs_same) sound.in_double;
    direct_range = sound.direct_range;
    indirect_range = sound.indirect_range;
    double_range = sound.double_range ∙ ap (λ x. pos (s.block_size * level_end (length (level_blocks s l.stream.direct) + length (level_blocks s l.table)) (length x))) (sym blocks_same);
    size_low = sound.size_low;
    size_high = subst (λ x. natural l.stream.size ≤ s.block_size * length x) (sym table_places) sound.size_high;
  }

-- the double indirect level with one more run
abbrev pub with_double : Sizes → Levels → Run → Run → Levels
with_double s l run none = record l {
  stream = record l.stream { max_double_indirect_range = pos (s.block_size * (length (level_blocks s l.stream.direct) + length (level_blocks s l.table) + length (level_blocks s l.runs) + run.len)) };
  runs = set (set l.runs (suc (length (used_runs l.runs))) none) (length (used_runs l.runs)) run;
}

module _ (s : Sizes) (l : Levels) (run none : Run) (sound : HasLevels s l) (some : 0 < run.len) (zero_len : none.len ≡ 0) (whole : IsWhole s run) (room : length (used_runs l.runs) < length l.runs) where
  used_is : used_runs (with_double s l run none).runs ≡ used_runs l.runs ++ run ∷ []
  used_is = appended s l.runs run none (λ z. omega arith) zero_len room

  blocks_is : level_blocks s (with_double s l run none).runs ≡ level_blocks s l.runs ++ run_blocks s run
  unfolding level_blocks
  blocks_is = ap (blocks_of s) used_is ∙ appended_blocks s (used_runs l.runs) run

  pub length_is : length (level_blocks s (with_double s l run none).runs) ≡ length (level_blocks s l.runs) + run.len
  length_is = ap length blocks_is ∙ length-append (level_blocks s l.runs) (run_blocks s run) ∙ ap (λ n. length (level_blocks s l.runs) + n) (length-counted (first_block s run) run.len)

  pub run_places : places_of s (with_double s l run none) ≡ places_of s l ++ run_blocks s run
  run_places =
      ap (λ x. level_blocks s l.stream.direct ++ (level_blocks s l.table ++ x)) blocks_is
      ∙ ap (λ x. level_blocks s l.stream.direct ++ x) (sym (append_assoc (level_blocks s l.table) (level_blocks s l.runs) (run_blocks s run)))
      ∙ sym (append_assoc (level_blocks s l.stream.direct) (level_blocks s l.table ++ level_blocks s l.runs) (run_blocks s run))

  end_more : (before own more : ℕ) → 0 < more → before + own + more ≡ level_end before (own + more)
  end_more before own more h = let t : (own + more == 0) ≡ false = grind (arith, h) in (let e : before + own + more ≡ before + (own + more) = omega arith in e) ∙ sym (ap (λ b. cond b 0 (before + (own + more))) t)

  pub run_sound : HasLevels s (with_double s l run none)
  run_sound = record {
    direct = sound.direct;
    indirect = sound.indirect;
    in_indirect = sound.in_indirect;
    double = sound.double;
    arrays = sound.arrays;
    in_double = subst (λ x. All (IsWhole s) x) (sym used_is) (All-append (IsWhole s) (used_runs l.runs) (run ∷ []) sound.in_double (All-cons (IsWhole s) run [] whole (All-nil (IsWhole s))));
    direct_range = sound.direct_range;
    indirect_range = sound.indirect_range;
    double_range = ap (λ n. pos (s.block_size * n))
        (end_more (length (level_blocks s l.stream.direct) + length (level_blocks s l.table)) (length (level_blocks s l.runs)) run.len some ∙ ap (level_end (length (level_blocks s l.stream.direct) + length (level_blocks s l.table))) (sym length_is));
    size_low = sound.size_low;
    size_high = larger (natural l.stream.size) (length (places_of s l)) (length (places_of s (with_double s l run none))) sound.size_high
        (let e = ap length run_places ∙ length-append (places_of s l) (run_blocks s run) in omega (arith, e));
  }
    where
      larger : (size a b : ℕ) → size ≤ s.block_size * a → a ≤ b → size ≤ s.block_size * b
      larger size a b h g = grind (arith, h, g)
