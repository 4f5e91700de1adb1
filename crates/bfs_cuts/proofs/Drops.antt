-- The levels without their last tables, and without the double indirect or the indirect level.
use Rattle.std.proofs.Common.{◌≡◌, ◌≤◌, ◌<◌, ◌+◌, ◌*◌, ◌∙◌, inl, ℕ, zero, suc, pos, List, [], ◌∷◌, ◌++◌, length, take, drop, set, get_or, Bool, true, false, cond, refl, sym, ap, subst, arith, append_assoc, length-append}
use Rattle.std.specs.Prelude.{◌==◌, All}
use Rattle.std.proofs.lemmas.List.Elements.{All-nil}
use Rattle.std.proofs.lemmas.List.{append-nil}
use Rattle.std.proofs.lemmas.Grind.{flat_map-append}
use Rattle.bfs_base.specs.Lists.{times, counted_from}
use Rattle.bfs_bytes.specs.declared.Run.{Run}
use Rattle.bfs_super.specs.Conditions.{natural}
use Rattle.bfs_stream.specs.Sizes.{Sizes, IsInVolume, IsWhole, first_block}
use Rattle.bfs_stream.specs.Places.{Levels, used_runs, blocks_of, run_blocks, level_blocks, level_end, places_of, arrays_of, HasLevels}
use Rattle.bfs_stream.proofs.Doubles.{times-append}
use Rattle.bfs_cuts.proofs.Shrinks.{left_at, no_level}

pub split_at : (n : ℕ) (xs : List Run) → xs ≡ take n xs ++ drop n xs
split_at zero xs = refl
split_at (suc n) [] = refl
split_at (suc n) (x ∷ xs) = ap (λ (l : List Run). x ∷ l) (split_at n xs)

pub take_left : (xs ys : List Run) → take (length xs) (xs ++ ys) ≡ xs
take_left [] ys = refl
take_left (x ∷ xs) ys = ap (λ (l : List Run). x ∷ l) (take_left xs ys)

pub length-take : (n : ℕ) (xs : List Run) → n ≤ length xs → length (take n xs) ≡ n
length-take zero xs few = refl
length-take (suc n) [] few = absurd (omega (arith, few))
length-take (suc n) (x ∷ xs) few = ap suc (length-take n xs (omega (arith, few)))

pub all_take : (P : Run → Type 0) (n : ℕ) (xs : List Run) → All P xs → All P (take n xs)
all_take P n xs all i d h =
    subst P (left_at (take n xs) (drop n xs) i d h)
    (subst (λ (l : List Run). P (get_or l i d)) (split_at n xs) (all i d (let e : length xs ≡ length (take n xs) + length (drop n xs) = ap length (split_at n xs) ∙ length-append (take n xs) (drop n xs) in omega (arith, e, h))))

-- the used ones of the first runs are the first of the used ones
pub used_take : (n : ℕ) (rs : List Run) → used_runs (take n rs) ≡ take n (used_runs rs)
used_take zero rs = refl
used_take (suc n) [] = refl
used_take (suc n) (r ∷ rs) = by_len (r.len == 0) (used_take n rs)
  where
    by_len : (b : Bool) → used_runs (take n rs) ≡ take n (used_runs rs) → cond b [] (r ∷ used_runs (take n rs)) ≡ take (suc n) (cond b [] (r ∷ used_runs rs))
    by_len true e = refl
    by_len false e = ap (λ (l : List Run). r ∷ l) e

-- the runs end where one without blocks is written
pub ended : (rs : List Run) (n : ℕ) (r : Run) → r.len ≡ 0 → n < length (used_runs rs) → used_runs (set rs n r) ≡ take n (used_runs rs)
ended [] n r none few = absurd (omega (arith, few))
ended (x ∷ rs) zero r none few = let e : (r.len == 0) ≡ true = grind (arith, none) in ap (λ (b : Bool). cond b [] (r ∷ used_runs rs)) e
ended (x ∷ rs) (suc n) r none few = by_len (x.len == 0) refl (λ h. ended rs n r none h)
  where
    by_len : (b : Bool) → (x.len == 0) ≡ b → (n < length (used_runs rs) → used_runs (set rs n r) ≡ take n (used_runs rs)) → cond (x.len == 0) [] (x ∷ used_runs (set rs n r)) ≡ take (suc n) (cond (x.len == 0) [] (x ∷ used_runs rs))
    by_len true e rest =
        let none_used : length (cond (x.len == 0) [] (x ∷ used_runs rs)) ≡ 0 = ap (λ (b : Bool). length (cond b [] (x ∷ used_runs rs))) e in
        absurd (omega (arith, few, none_used))
    by_len false e rest =
        let long : length (cond (x.len == 0) [] (x ∷ used_runs rs)) ≡ suc (length (used_runs rs)) = ap (λ (b : Bool). length (cond b [] (x ∷ used_runs rs))) e in
        ap (λ (b : Bool). cond b [] (x ∷ used_runs (set rs n r))) e ∙ ap (λ (l : List Run). x ∷ l) (rest (omega (arith, few, long))) ∙ sym (ap (λ (b : Bool). take (suc n) (cond b [] (x ∷ used_runs rs))) e)

pub blocks_split : (s : Sizes) (n : ℕ) (xs : List Run) → blocks_of s xs ≡ blocks_of s (take n xs) ++ blocks_of s (drop n xs)
blocks_split s n xs = ap (blocks_of s) (split_at n xs) ∙ flat_map-append (run_blocks s) (take n xs) (drop n xs)

no_blocks : (s : Sizes) → level_blocks s [] ≡ []
unfolding level_blocks
no_blocks s = refl

zero_bytes : (b n : ℕ) → n ≡ 0 → pos 0 ≡ pos (b * n)
zero_bytes b n e = let z : 0 ≡ b * n = grind (arith, e) in ap pos z

-- no double indirect level
abbrev pub without_double : Levels → Run → Levels
without_double l r = record l { stream = record l.stream { double_indirect = r; max_double_indirect_range = pos 0 }; arrays = []; runs = [] }

module _ (s : Sizes) (l : Levels) (r : Run) (sound : HasLevels s l) (none : r.len ≡ 0) where
  pub double_places : places_of s l ≡ places_of s (without_double l r) ++ level_blocks s l.runs
  double_places =
      sym (append_assoc (level_blocks s l.stream.direct) (level_blocks s l.table) (level_blocks s l.runs))
      ∙ ap (λ (x : List ℕ). (level_blocks s l.stream.direct ++ x) ++ level_blocks s l.runs) (sym (ap (λ (x : List ℕ). level_blocks s l.table ++ x) (no_blocks s) ∙ append-nil (level_blocks s l.table)))

  double_long : length (places_of s (without_double l r)) ≡ length (level_blocks s l.stream.direct) + length (level_blocks s l.table)
  double_long =
      ap (λ (x : List ℕ). length (level_blocks s l.stream.direct ++ x)) (ap (λ (x : List ℕ). level_blocks s l.table ++ x) (no_blocks s) ∙ append-nil (level_blocks s l.table))
      ∙ length-append (level_blocks s l.stream.direct) (level_blocks s l.table)

  pub double_arrays : (k : ℕ) → times k (arrays_of s l) ≡ times k (blocks_of s (used_runs l.arrays) ++ run_blocks s l.stream.double_indirect) + times k (arrays_of s (without_double l r))
  unfolding arrays_of
  double_arrays k =
      let a : List ℕ = run_blocks s l.stream.indirect in
      let b : List ℕ = run_blocks s l.stream.double_indirect in
      let c : List ℕ = blocks_of s (used_runs l.arrays) in
      let empty : run_blocks s r ≡ [] = ap (counted_from (first_block s r)) none in
      let one = times-append k a (b ++ c) in
      let two = times-append k b c in
      let three = times-append k c b in
      let four : times k (a ++ (run_blocks s r ++ [])) ≡ times k a = ap (λ (x : List ℕ). times k (a ++ (x ++ []))) empty ∙ ap (times k) (append-nil a) in
      omega (arith, one, two, three, four)

  pub double_sound : natural l.stream.size ≤ s.block_size * (length (level_blocks s l.stream.direct) + length (level_blocks s l.table)) → HasLevels s (without_double l r)
  double_sound size = record {
    direct = sound.direct;
    indirect = sound.indirect;
    in_indirect = sound.in_indirect;
    double = inl none;
    arrays = All-nil (IsWhole s);
    in_double = All-nil (IsWhole s);
    direct_range = sound.direct_range;
    indirect_range = sound.indirect_range;
    double_range = zero_bytes s.block_size (level_end (length (level_blocks s l.stream.direct) + length (level_blocks s l.table)) (length (level_blocks s [])))
        (no_level (length (level_blocks s l.stream.direct) + length (level_blocks s l.table)) (length (level_blocks s [])) (ap length (no_blocks s)));
    size_low = sound.size_low;
    size_high = subst (λ (n : ℕ). natural l.stream.size ≤ s.block_size * n) (sym double_long) size;
  }

-- the double indirect level with its first tables alone, so many, whose runs are these
abbrev pub fewer_tables : Sizes → Levels → ℕ → Run → List Run → ℕ → Levels
fewer_tables s l keep r left reach = record l { stream = record l.stream { max_double_indirect_range = pos (s.block_size * reach) }; arrays = set l.arrays keep r; runs = left }

module _ (s : Sizes) (l : Levels) (keep n reach : ℕ) (r : Run) (left : List Run) (sound : HasLevels s l) (listed : used_runs (set l.arrays keep r) ≡ take keep (used_runs l.arrays)) (used : used_runs left ≡ take n (used_runs l.runs)) where
  level_split : level_blocks s l.runs ≡ level_blocks s left ++ blocks_of s (drop n (used_runs l.runs))
  unfolding level_blocks
  level_split = blocks_split s n (used_runs l.runs) ∙ ap (λ (x : List Run). blocks_of s x ++ blocks_of s (drop n (used_runs l.runs))) (sym used)

  pub tables_places : places_of s l ≡ places_of s (fewer_tables s l keep r left reach) ++ blocks_of s (drop n (used_runs l.runs))
  tables_places =
      let a : List ℕ = level_blocks s l.stream.direct in
      let b : List ℕ = level_blocks s l.table in
      let c : List ℕ = level_blocks s left in
      let d : List ℕ = blocks_of s (drop n (used_runs l.runs)) in
      ap (λ (x : List ℕ). level_blocks s l.stream.direct ++ (level_blocks s l.table ++ x)) level_split
      ∙ ap (λ (x : List ℕ). level_blocks s l.stream.direct ++ x) (sym (append_assoc b c d))
      ∙ sym (append_assoc a (b ++ c) d)

  pub tables_arrays : (k : ℕ) → times k (arrays_of s l) ≡ times k (blocks_of s (drop keep (used_runs l.arrays))) + times k (arrays_of s (fewer_tables s l keep r left reach))
  unfolding arrays_of
  tables_arrays k =
      let a : List ℕ = run_blocks s l.stream.indirect in
      let b : List ℕ = run_blocks s l.stream.double_indirect in
      let kept : List ℕ = blocks_of s (take keep (used_runs l.arrays)) in
      let gone : List ℕ = blocks_of s (drop keep (used_runs l.arrays)) in
      let one = times-append k a (b ++ blocks_of s (used_runs l.arrays)) in
      let two = times-append k b (blocks_of s (used_runs l.arrays)) in
      let three : times k (blocks_of s (used_runs l.arrays)) ≡ times k kept + times k gone = ap (times k) (blocks_split s keep (used_runs l.arrays)) ∙ times-append k kept gone in
      let four : times k (a ++ (b ++ blocks_of s (used_runs (set l.arrays keep r)))) ≡ times k a + (times k b + times k kept) =
      ap (λ (x : List Run). times k (a ++ (b ++ blocks_of s x))) listed ∙ times-append k a (b ++ kept) ∙ ap (λ (x : ℕ). times k a + x) (times-append k b kept) in
      omega (arith, one, two, three, four)

  pub tables_sound : reach ≡ level_end (length (level_blocks s l.stream.direct) + length (level_blocks s l.table)) (length (level_blocks s left))
      → natural l.stream.size ≤ s.block_size * length (places_of s (fewer_tables s l keep r left reach)) → HasLevels s (fewer_tables s l keep r left reach)
  tables_sound to size = record {
    direct = sound.direct;
    indirect = sound.indirect;
    in_indirect = sound.in_indirect;
    double = sound.double;
    arrays = subst (λ (x : List Run). All (IsWhole s) x) (sym listed) (all_take (IsWhole s) keep (used_runs l.arrays) sound.arrays);
    in_double = subst (λ (x : List Run). All (IsWhole s) x) (sym used) (all_take (IsWhole s) n (used_runs l.runs) sound.in_double);
    direct_range = sound.direct_range;
    indirect_range = sound.indirect_range;
    double_range = ap (λ (x : ℕ). pos (s.block_size * x)) to;
    size_low = sound.size_low;
    size_high = size;
  }

-- no indirect level
abbrev pub without_indirect : Levels → Run → Levels
without_indirect l r = record l { stream = record l.stream { indirect = r; max_indirect_range = pos 0 }; table = [] }

module _ (s : Sizes) (l : Levels) (r : Run) (sound : HasLevels s l) (none : r.len ≡ 0) (no_double : l.stream.double_indirect.len ≡ 0) (no_runs : level_blocks s l.runs ≡ []) where
  both_none : level_blocks s [] ++ level_blocks s l.runs ≡ []
  both_none = ap (λ (x : List ℕ). x ++ level_blocks s l.runs) (no_blocks s) ∙ no_runs

  pub indirect_places : places_of s l ≡ places_of s (without_indirect l r) ++ level_blocks s l.table
  indirect_places =
      ap (λ (x : List ℕ). level_blocks s l.stream.direct ++ x) (ap (λ (x : List ℕ). level_blocks s l.table ++ x) no_runs ∙ append-nil (level_blocks s l.table))
      ∙ ap (λ (x : List ℕ). x ++ level_blocks s l.table) (sym (ap (λ (x : List ℕ). level_blocks s l.stream.direct ++ x) both_none ∙ append-nil (level_blocks s l.stream.direct)))

  indirect_long : length (places_of s (without_indirect l r)) ≡ length (level_blocks s l.stream.direct)
  indirect_long = ap length (ap (λ (x : List ℕ). level_blocks s l.stream.direct ++ x) both_none ∙ append-nil (level_blocks s l.stream.direct))

  pub indirect_arrays : (k : ℕ) → times k (arrays_of s l) ≡ times k (run_blocks s l.stream.indirect) + times k (arrays_of s (without_indirect l r))
  unfolding arrays_of
  indirect_arrays k =
      let rest : List ℕ = run_blocks s l.stream.double_indirect ++ blocks_of s (used_runs l.arrays) in
      let empty : run_blocks s r ≡ [] = ap (counted_from (first_block s r)) none in
      times-append k (run_blocks s l.stream.indirect) rest ∙ ap (λ (x : List ℕ). times k (run_blocks s l.stream.indirect) + times k (x ++ rest)) (sym empty)

  pub indirect_sound : natural l.stream.size ≤ s.block_size * length (level_blocks s l.stream.direct) → HasLevels s (without_indirect l r)
  indirect_sound size = record {
    direct = sound.direct;
    indirect = inl none;
    in_indirect = All-nil (IsInVolume s);
    double = inl no_double;
    arrays = sound.arrays;
    in_double = sound.in_double;
    direct_range = sound.direct_range;
    indirect_range = zero_bytes s.block_size (level_end (length (level_blocks s l.stream.direct)) (length (level_blocks s []))) (no_level (length (level_blocks s l.stream.direct)) (length (level_blocks s [])) (ap length (no_blocks s)));
    double_range = sound.double_range ∙ ap (λ (n : ℕ). pos (s.block_size * n))
        (no_level (length (level_blocks s l.stream.direct) + length (level_blocks s l.table)) (length (level_blocks s l.runs)) (ap length no_runs)
        ∙ sym (no_level (length (level_blocks s l.stream.direct) + length (level_blocks s [])) (length (level_blocks s l.runs)) (ap length no_runs)));
    size_low = sound.size_low;
    size_high = subst (λ (n : ℕ). natural l.stream.size ≤ s.block_size * n) (sym indirect_long) size;
  }
