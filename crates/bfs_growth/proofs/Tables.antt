-- One more run in the table of the indirect level.
use Rattle.std.proofs.Common.{◌≡◌, ◌≤◌, ◌<◌, ◌+◌, ◌*◌, ◌∙◌, ◌⊎◌, inl, inr, ℕ, suc, pos, List, [], ◌∷◌, ◌++◌, length, set, true, false, cond, refl, sym, ap, ap₂, subst, arith, append_assoc, length-append}
use Rattle.std.specs.Prelude.{◌==◌, All}
use Rattle.std.proofs.lemmas.List.Elements.{All-append, All-cons, All-nil}
use Rattle.bfs_bytes.specs.declared.Run.{Run}
use Rattle.bfs_super.specs.Conditions.{natural}
use Rattle.bfs_stream.specs.Sizes.{Sizes, IsInVolume, IsWhole, first_block}
use Rattle.bfs_stream.specs.Places.{Levels, used_runs, blocks_of, run_blocks, level_blocks, level_end, places_of, arrays_of, HasLevels}
use Rattle.bfs_stream.proofs.Levels.{length-counted}
use Rattle.bfs_stream.proofs.Appends.{appended, appended_blocks}

-- the levels with one more run in the table
abbrev pub with_indirect : Sizes → Levels → Run → Run → Levels
with_indirect s l run none = record l {
  stream = record l.stream { max_indirect_range = pos (s.block_size * (length (level_blocks s l.stream.direct) + length (level_blocks s l.table) + run.len)) };
  table = set (set l.table (suc (length (used_runs l.table))) none) (length (used_runs l.table)) run;
}

module _ (s : Sizes) (l : Levels) (run none : Run) (sound : HasLevels s l) (some : 0 < run.len) (zero_len : none.len ≡ 0) (inside : IsInVolume s run) (room : length (used_runs l.table) < length l.table) (no_runs : l.runs ≡ []) where
  used_is : used_runs (with_indirect s l run none).table ≡ used_runs l.table ++ run ∷ []
  used_is = appended s l.table run none (λ z. omega arith) zero_len room

  table_is : level_blocks s (with_indirect s l run none).table ≡ level_blocks s l.table ++ run_blocks s run
  unfolding level_blocks
  table_is = ap (blocks_of s) used_is ∙ appended_blocks s (used_runs l.table) run

  length_is : length (level_blocks s (with_indirect s l run none).table) ≡ length (level_blocks s l.table) + run.len
  length_is = ap length table_is ∙ length-append (level_blocks s l.table) (run_blocks s run) ∙ ap (λ n. length (level_blocks s l.table) + n) (length-counted (first_block s run) run.len)

  nil_blocks : level_blocks s l.runs ≡ []
  unfolding level_blocks
  nil_blocks = ap (λ x. blocks_of s (used_runs x)) no_runs

  append_none : (xs : List ℕ) → xs ++ [] ≡ xs
  append_none [] = refl
  append_none (x ∷ xs) = ap (λ t. x ∷ t) (append_none xs)

  pub indirect_places : places_of s (with_indirect s l run none) ≡ places_of s l ++ run_blocks s run
  indirect_places =
      ap (λ x. level_blocks s l.stream.direct ++ x) (ap₂ (λ x y. x ++ y) table_is nil_blocks ∙ append_none (level_blocks s l.table ++ run_blocks s run))
      ∙ sym (append_assoc (level_blocks s l.stream.direct) (level_blocks s l.table) (run_blocks s run))
      ∙ ap (λ x. (level_blocks s l.stream.direct ++ x) ++ run_blocks s run) (sym (ap (λ x. level_blocks s l.table ++ x) nil_blocks ∙ append_none (level_blocks s l.table)))

  pub indirect_arrays : arrays_of s (with_indirect s l run none) ≡ arrays_of s l
  unfolding arrays_of
  indirect_arrays = refl

  end_more : (before own more : ℕ) → 0 < more → before + own + more ≡ level_end before (own + more)
  end_more before own more h = let t : (own + more == 0) ≡ false = grind (arith, h) in (let e : before + own + more ≡ before + (own + more) = omega arith in e) ∙ sym (ap (λ b. cond b 0 (before + (own + more))) t)

  no_level : (before own : ℕ) → own ≡ 0 → level_end before own ≡ 0
  no_level before own e = let t : (own == 0) ≡ true = grind (arith, e) in ap (λ b. cond b 0 (before + own)) t

  no_double : length (level_blocks s l.runs) ≡ 0
  no_double = ap length nil_blocks

  pub indirect_sound : HasLevels s (with_indirect s l run none)
  indirect_sound = record {
    direct = sound.direct;
    indirect = sound.indirect;
    in_indirect = subst (λ x. All (IsInVolume s) x) (sym used_is) (All-append (IsInVolume s) (used_runs l.table) (run ∷ []) sound.in_indirect (All-cons (IsInVolume s) run [] inside (All-nil (IsInVolume s))));
    double = still sound.double;
    arrays = sound.arrays;
    in_double = sound.in_double;
    direct_range = sound.direct_range;
    indirect_range = ap (λ n. pos (s.block_size * n)) (end_more (length (level_blocks s l.stream.direct)) (length (level_blocks s l.table)) run.len some ∙ ap (level_end (length (level_blocks s l.stream.direct))) (sym length_is));
    double_range = sound.double_range ∙ ap (λ n. pos (s.block_size * n))
        (no_level (length (level_blocks s l.stream.direct) + length (level_blocks s l.table)) (length (level_blocks s l.runs)) no_double ∙ sym (no_level (length (level_blocks s l.stream.direct) + length (level_blocks s (with_indirect s l run none).table)) (length (level_blocks s l.runs)) no_double));
    size_low = sound.size_low;
    size_high = larger (natural l.stream.size) (length (places_of s l)) (length (places_of s (with_indirect s l run none))) sound.size_high
        (let e = ap length indirect_places ∙ length-append (places_of s l) (run_blocks s run) in omega (arith, e));
  }
    where
      -- where the double indirect level were used, the table would have no room
      still : (l.stream.double_indirect.len ≡ 0) ⊎ (IsWhole s l.stream.double_indirect × (0 < length (used_runs l.table)) × (length (used_runs l.table) ≡ length l.table))
          → (l.stream.double_indirect.len ≡ 0) ⊎ (IsWhole s l.stream.double_indirect × (0 < length (used_runs (with_indirect s l run none).table)) × (length (used_runs (with_indirect s l run none).table) ≡ length (with_indirect s l run none).table))
      still (inl e) = inl e
      still (inr full) = absurd (omega (arith, full.2, room))

      larger : (size a b : ℕ) → size ≤ s.block_size * a → a ≤ b → size ≤ s.block_size * b
      larger size a b h g = grind (arith, h, g)
