-- One more direct run.
use Rattle.std.proofs.Common.{◌≡◌, ◌≤◌, ◌<◌, ◌+◌, ◌*◌, ◌∙◌, ◌⊎◌, inl, inr, ℕ, suc, pos, List, [], ◌∷◌, ◌++◌, length, set, Bool, true, cond, refl, sym, ap, ap₂, subst, arith, length-append}
use Rattle.std.specs.Prelude.{◌==◌, All}
use Rattle.std.proofs.lemmas.List.Elements.{All-append, All-cons, All-nil}
use Rattle.bfs_bytes.specs.declared.Run.{Run}
use Rattle.bfs_super.specs.Conditions.{natural}
use Rattle.bfs_inode.specs.Inode.{Stream}
use Rattle.bfs_stream.specs.Sizes.{Sizes, IsInVolume, first_block}
use Rattle.bfs_stream.specs.Places.{Levels, used_runs, blocks_of, run_blocks, level_blocks, level_end, places_of, arrays_of, HasLevels}
use Rattle.bfs_stream.proofs.Levels.{length-counted}
use Rattle.bfs_stream.proofs.Appends.{appended, appended_blocks}

-- the fields with one more direct run
abbrev pub with_direct : Sizes → Levels → Run → Run → Stream
with_direct s l run none = record l.stream {
  direct = set (set l.stream.direct (suc (length (used_runs l.stream.direct))) none) (length (used_runs l.stream.direct)) run;
  max_direct_range = pos (s.block_size * (length (level_blocks s l.stream.direct) + run.len));
}

module _ (s : Sizes) (l : Levels) (run none : Run) (sound : HasLevels s l) (some : 0 < run.len) (zero_len : none.len ≡ 0) (inside : IsInVolume s run) (long : length l.stream.direct ≡ 12) (room : length (used_runs l.stream.direct) < 12)
    (no_table : l.table ≡ []) (no_runs : l.runs ≡ []) where
  next : Levels
  next = record l { stream = with_direct s l run none }

  used_is : used_runs (with_direct s l run none).direct ≡ used_runs l.stream.direct ++ run ∷ []
  used_is = appended s l.stream.direct run none (λ z. omega arith) zero_len (omega arith)

  pub direct_is : level_blocks s (with_direct s l run none).direct ≡ level_blocks s l.stream.direct ++ run_blocks s run
  unfolding level_blocks
  direct_is = ap (blocks_of s) used_is ∙ appended_blocks s (used_runs l.stream.direct) run

  length_is : length (level_blocks s (with_direct s l run none).direct) ≡ length (level_blocks s l.stream.direct) + run.len
  length_is = ap length direct_is ∙ length-append (level_blocks s l.stream.direct) (run_blocks s run) ∙ ap (λ (n : ℕ). length (level_blocks s l.stream.direct) + n) (length-counted (first_block s run) run.len)

  nil_blocks : (rs : List Run) → rs ≡ [] → level_blocks s rs ≡ []
  unfolding level_blocks
  nil_blocks rs e = ap (λ (x : List Run). blocks_of s (used_runs x)) e

  nothing_behind : level_blocks s l.table ++ level_blocks s l.runs ≡ []
  nothing_behind = ap₂ (λ (x y : List ℕ). x ++ y) (nil_blocks l.table no_table) (nil_blocks l.runs no_runs)

  append_none : (xs : List ℕ) → xs ++ [] ≡ xs
  append_none [] = refl
  append_none (x ∷ xs) = ap (λ (t : List ℕ). x ∷ t) (append_none xs)

  pub places_more : places_of s (record l { stream = with_direct s l run none }) ≡ places_of s l ++ run_blocks s run
  places_more =
      ap₂ (λ (x y : List ℕ). x ++ y) direct_is nothing_behind
      ∙ append_none (level_blocks s l.stream.direct ++ run_blocks s run)
      ∙ ap (λ (x : List ℕ). x ++ run_blocks s run) (sym (ap (λ (x : List ℕ). level_blocks s l.stream.direct ++ x) nothing_behind ∙ append_none (level_blocks s l.stream.direct)))

  pub arrays_stay : arrays_of s (record l { stream = with_direct s l run none }) ≡ arrays_of s l
  unfolding arrays_of
  arrays_stay = refl

  no_level : (before own : ℕ) → own ≡ 0 → level_end before own ≡ 0
  no_level before own e = let t : (own == 0) ≡ true = grind (arith, e) in ap (λ (b : Bool). cond b 0 (before + own)) t

  no_indirect : length (level_blocks s l.table) ≡ 0
  no_indirect = ap length (nil_blocks l.table no_table)

  no_double : length (level_blocks s l.runs) ≡ 0
  no_double = ap length (nil_blocks l.runs no_runs)

  pub direct_sound : HasLevels s (record l { stream = with_direct s l run none })
  direct_sound = record {
    direct = subst (λ (x : List Run). All (IsInVolume s) x) (sym used_is) (All-append (IsInVolume s) (used_runs l.stream.direct) (run ∷ []) sound.direct (All-cons (IsInVolume s) run [] inside (All-nil (IsInVolume s))));
    indirect = still sound.indirect;
    in_indirect = sound.in_indirect;
    double = sound.double;
    arrays = sound.arrays;
    in_double = sound.in_double;
    direct_range = ap (λ (n : ℕ). pos (s.block_size * n)) (sym length_is);
    indirect_range = sound.indirect_range ∙ ap (λ (n : ℕ). pos (s.block_size * n)) (no_level (length (level_blocks s l.stream.direct)) (length (level_blocks s l.table)) no_indirect ∙ sym (no_level (length (level_blocks s (with_direct s l run none).direct)) (length (level_blocks s l.table)) no_indirect));
    double_range = sound.double_range ∙ ap (λ (n : ℕ). pos (s.block_size * n))
        (no_level (length (level_blocks s l.stream.direct) + length (level_blocks s l.table)) (length (level_blocks s l.runs)) no_double ∙ sym (no_level (length (level_blocks s (with_direct s l run none).direct) + length (level_blocks s l.table)) (length (level_blocks s l.runs)) no_double));
    size_low = sound.size_low;
    size_high = larger (natural l.stream.size) (length (places_of s l)) (length (places_of s (record l { stream = with_direct s l run none }))) sound.size_high
        (let e = ap length places_more ∙ length-append (places_of s l) (run_blocks s run) in omega (arith, e));
  }
    where
      still : (l.stream.indirect.len ≡ 0) ⊎ (IsInVolume s l.stream.indirect × (length (used_runs l.stream.direct) ≡ 12))
          → (l.stream.indirect.len ≡ 0) ⊎ (IsInVolume s l.stream.indirect × (length (used_runs (with_direct s l run none).direct) ≡ 12))
      still (inl e) = inl e
      still (inr full) = absurd (omega (arith, full.1, room))

      larger : (size a b : ℕ) → size ≤ s.block_size * a → a ≤ b → size ≤ s.block_size * b
      larger size a b h g = grind (arith, h, g)
