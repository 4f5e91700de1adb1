-- The last run of a level is shortened or ended.
use Rattle.std.proofs.Common.{◌≡◌, ◌≤◌, ◌<◌, ◌+◌, ◌*◌, ◌∙◌, inl, ℕ, zero, suc, pos, List, [], ◌∷◌, ◌++◌, length, take, set, get_or, Bool, true, false, cond, Some, None, refl, sym, ap, ap₂, subst, arith, append_assoc, length-append}
use Rattle.std.specs.Prelude.{◌==◌, All, slice_get}
use Rattle.std.proofs.lemmas.List.Elements.{All-append, All-cons, All-nil}
use Rattle.bfs_base.specs.Lists.{counted_from}
use Rattle.bfs_bytes.specs.declared.Run.{Run}
use Rattle.bfs_super.specs.Conditions.{natural}
use Rattle.bfs_stream.specs.Sizes.{Sizes, IsInVolume, first_block}
use Rattle.bfs_stream.specs.Places.{Levels, used_runs, blocks_of, run_blocks, level_blocks, level_end, places_of, arrays_of, HasLevels}
use Rattle.bfs_stream.proofs.Levels.{length-counted}
use Rattle.bfs_stream.proofs.Appends.{appended_blocks}

-- a list that is not empty is its first part and its last element
pub split_last : {X : Type 0} (xs : List X) (n : ℕ) → length xs ≡ suc n → (last : X) × (xs ≡ take n xs ++ last ∷ []) × (slice_get xs n ≡ Some last)
split_last [] n e = absurd (omega (arith, e))
split_last (x ∷ []) zero e = (x, refl, refl)
split_last (x ∷ y ∷ ys) zero e = absurd (omega (arith, e))
split_last (x ∷ xs) (suc n) e = let rest = split_last xs n (omega (arith, e)) in (rest.0, ap (λ (l : List _). x ∷ l) rest.1, rest.2)

-- where the last used run is written over, the used runs are those before it, and this one if it has blocks
pub shortened : (rs front : List Run) (last r : Run) → used_runs rs ≡ front ++ last ∷ [] → used_runs (set rs (length front) r) ≡ front ++ used_runs (r ∷ [])
shortened [] [] last r is = let bad : length {A = Run} [] ≡ length (last ∷ []) = ap length is in absurd (omega (arith, bad))
shortened [] (f ∷ fs) last r is = let bad : length {A = Run} [] ≡ length (f ∷ (fs ++ last ∷ [])) = ap length is in absurd (omega (arith, bad))
shortened (x ∷ rs) front last r is = by_len (x.len == 0) refl front is (λ fs e. shortened rs fs last r e)
  where
    tail_is : (a b : Run) (l k : List Run) → a ∷ l ≡ b ∷ k → l ≡ k
    tail_is a b l k e = cc

    head_is : (a b : Run) (l k : List Run) → a ∷ l ≡ b ∷ k → a ≡ b
    head_is a b l k e = cc

    by_len : (b : Bool) → (x.len == 0) ≡ b → (fr : List Run) → cond (x.len == 0) [] (x ∷ used_runs rs) ≡ fr ++ last ∷ [] → ((fs : List Run) → used_runs rs ≡ fs ++ last ∷ [] → used_runs (set rs (length fs) r) ≡ fs ++ used_runs (r ∷ []))
        → used_runs (set (x ∷ rs) (length fr) r) ≡ fr ++ used_runs (r ∷ [])
    by_len true e fr eq rest =
        let here : [] ≡ fr ++ last ∷ [] = sym (ap (λ (b : Bool). cond b [] (x ∷ used_runs rs)) e) ∙ eq in
        let bad : length {A = Run} [] ≡ length (fr ++ last ∷ []) = ap length here in absurd (omega (arith, bad, length-append fr (last ∷ [])))
    by_len false e [] eq rest =
        let here : x ∷ used_runs rs ≡ last ∷ [] = sym (ap (λ (b : Bool). cond b [] (x ∷ used_runs rs)) e) ∙ eq in
        let none : used_runs rs ≡ [] = tail_is x last (used_runs rs) [] here in
        ap (λ (l : List Run). cond (r.len == 0) [] (r ∷ l)) none
    by_len false e (f ∷ fs) eq rest =
        let here : x ∷ used_runs rs ≡ f ∷ (fs ++ last ∷ []) = sym (ap (λ (b : Bool). cond b [] (x ∷ used_runs rs)) e) ∙ eq in
        ap (λ (b : Bool). cond b [] (x ∷ used_runs (set rs (length fs) r))) e
        ∙ ap₂ (λ (a : Run) (l : List Run). a ∷ l) (head_is x f (used_runs rs) (fs ++ last ∷ []) here) (rest fs (tail_is x f (used_runs rs) (fs ++ last ∷ []) here))

-- a run that is used has blocks
pub used_some : (rs : List Run) (i : ℕ) (x : Run) → slice_get (used_runs rs) i ≡ Some x → 0 < x.len
used_some [] i x is = let bad : None ≡ Some x = is in cc
used_some (r ∷ rs) i x is = by_len (r.len == 0) refl i is (λ j e. used_some rs j x e)
  where
    same_run : (y : Run) → Some y ≡ Some x → y ≡ x
    same_run y e = cc

    by_len : (b : Bool) → (r.len == 0) ≡ b → (j : ℕ) → slice_get (cond (r.len == 0) [] (r ∷ used_runs rs)) j ≡ Some x → ((k : ℕ) → slice_get (used_runs rs) k ≡ Some x → 0 < x.len) → 0 < x.len
    by_len true e j eq rest = let bad : None ≡ Some x = sym (ap (λ (b : Bool). slice_get (cond b [] (r ∷ used_runs rs)) j) e) ∙ eq in cc
    by_len false e zero eq rest =
        let here : Some r ≡ Some x = sym (ap (λ (b : Bool). slice_get (cond b [] (r ∷ used_runs rs)) zero) e) ∙ eq in
        let some : 0 < r.len = grind (arith, e) in
        subst (λ (y : Run). 0 < y.len) (same_run r here) some
    by_len false e (suc j) eq rest = rest j (sym (ap (λ (b : Bool). slice_get (cond b [] (r ∷ used_runs rs)) (suc j)) e) ∙ eq)

append_none : (xs : List ℕ) → xs ++ [] ≡ xs
append_none [] = refl
append_none (x ∷ xs) = ap (λ (t : List ℕ). x ∷ t) (append_none xs)

-- one run's blocks, whether it has some or not
pub own_blocks : (s : Sizes) (r : Run) → blocks_of s (used_runs (r ∷ [])) ≡ run_blocks s r
own_blocks s r = by_len (r.len == 0) refl
  where
    by_len : (b : Bool) → (r.len == 0) ≡ b → blocks_of s (cond (r.len == 0) [] (r ∷ [])) ≡ run_blocks s r
    by_len true e =
        let none : r.len ≡ 0 = grind (arith, e) in
        ap (λ (b : Bool). blocks_of s (cond b [] (r ∷ []))) e ∙ sym (ap (counted_from (first_block s r)) none)
    by_len false e = ap (λ (b : Bool). blocks_of s (cond b [] (r ∷ []))) e ∙ append_none (run_blocks s r)

pub join_blocks : (s : Sizes) (xs ys : List Run) → blocks_of s (xs ++ ys) ≡ blocks_of s xs ++ blocks_of s ys
join_blocks s [] ys = refl
join_blocks s (x ∷ xs) ys = ap (λ (l : List ℕ). run_blocks s x ++ l) (join_blocks s xs ys) ∙ sym (append_assoc (run_blocks s x) (blocks_of s xs) (blocks_of s ys))

-- the level's blocks are those that it has now, and the ones that are gone
pub shortened_blocks : (s : Sizes) (rs front : List Run) (last r gone : Run) → used_runs rs ≡ front ++ last ∷ [] → run_blocks s last ≡ run_blocks s r ++ run_blocks s gone
    → blocks_of s (used_runs rs) ≡ blocks_of s (used_runs (set rs (length front) r)) ++ run_blocks s gone
shortened_blocks s rs front last r gone is parts =
    ap (blocks_of s) is ∙ appended_blocks s front last ∙ ap (λ (l : List ℕ). blocks_of s front ++ l) parts
    ∙ sym (append_assoc (blocks_of s front) (run_blocks s r) (run_blocks s gone))
    ∙ ap (λ (l : List ℕ). l ++ run_blocks s gone)
    (ap (λ (l : List ℕ). blocks_of s front ++ l) (sym (own_blocks s r)) ∙ sym (join_blocks s front (used_runs (r ∷ []))) ∙ ap (blocks_of s) (sym (shortened rs front last r is)))

counted_split : (first a b : ℕ) → counted_from first (a + b) ≡ counted_from first a ++ counted_from (first + a) b
counted_split first zero b = let e : 0 + b ≡ b = omega arith in let f : first ≡ first + 0 = omega arith in ap (counted_from first) e ∙ ap (λ (n : ℕ). counted_from n b) f
counted_split first (suc a) b =
    let e : suc a + b ≡ suc (a + b) = omega arith in
    let f : suc first + a ≡ first + suc a = omega arith in
    ap (counted_from first) e ∙ ap (λ (l : List ℕ). first ∷ l) (counted_split (suc first) a b ∙ ap (λ (n : ℕ). counted_from (suc first) a ++ counted_from n b) f)

-- a run in two parts
pub parts_of : (s : Sizes) (last r gone : Run) → r.len + gone.len ≡ last.len → (0 < r.len → first_block s r ≡ first_block s last) → first_block s gone ≡ first_block s last + r.len → run_blocks s last ≡ run_blocks s r ++ run_blocks s gone
parts_of s last r gone long first behind =
    ap (counted_from (first_block s last)) (sym long) ∙ counted_split (first_block s last) r.len gone.len
    ∙ ap₂ (λ (a b : List ℕ). a ++ b) (by_len r.len first) (ap (λ (n : ℕ). counted_from n gone.len) (sym behind))
  where
    by_len : (n : ℕ) → (0 < n → first_block s r ≡ first_block s last) → counted_from (first_block s last) n ≡ counted_from (first_block s r) n
    by_len zero same = refl
    by_len (suc n) same = ap (λ (k : ℕ). counted_from k (suc n)) (sym (same (omega arith)))

-- the levels with the last direct run shortened
abbrev pub cut_direct : Sizes → Levels → List Run → Run → Levels
cut_direct s l front r = record l { stream = record l.stream { direct = set l.stream.direct (length front) r; max_direct_range = pos (s.block_size * (length (blocks_of s front) + r.len)) } }

module _ (s : Sizes) (l : Levels) (front : List Run) (last r gone : Run) (sound : HasLevels s l) (is : used_runs l.stream.direct ≡ front ++ last ∷ []) (parts : run_blocks s last ≡ run_blocks s r ++ run_blocks s gone) (inside : 0 < r.len → IsInVolume s r)
    (no_table : level_blocks s l.table ≡ []) (no_runs : level_blocks s l.runs ≡ []) (no_array : l.stream.indirect.len ≡ 0) (no_double : l.stream.double_indirect.len ≡ 0) (size : natural l.stream.size ≤ s.block_size * (length (blocks_of s front) + r.len)) where
  next : Levels
  next = cut_direct s l front r

  used_is : used_runs (cut_direct s l front r).stream.direct ≡ front ++ used_runs (r ∷ [])
  used_is = shortened l.stream.direct front last r is

  direct_is : level_blocks s l.stream.direct ≡ level_blocks s (cut_direct s l front r).stream.direct ++ run_blocks s gone
  unfolding level_blocks
  direct_is = shortened_blocks s l.stream.direct front last r gone is parts

  length_is : length (level_blocks s (cut_direct s l front r).stream.direct) ≡ length (blocks_of s front) + r.len
  unfolding level_blocks
  length_is =
      ap (λ (x : List Run). length (blocks_of s x)) used_is ∙ ap length (join_blocks s front (used_runs (r ∷ []))) ∙ length-append (blocks_of s front) (blocks_of s (used_runs (r ∷ [])))
      ∙ ap (λ (x : List ℕ). length (blocks_of s front) + length x) (own_blocks s r) ∙ ap (λ (n : ℕ). length (blocks_of s front) + n) (length-counted (first_block s r) r.len)

  behind : level_blocks s l.table ++ level_blocks s l.runs ≡ []
  behind = ap₂ (λ (x y : List ℕ). x ++ y) no_table no_runs

  pub cut_places : places_of s l ≡ places_of s (cut_direct s l front r) ++ run_blocks s gone
  cut_places =
      ap₂ (λ (x y : List ℕ). x ++ y) direct_is behind ∙ append_none (level_blocks s (cut_direct s l front r).stream.direct ++ run_blocks s gone)
      ∙ ap (λ (x : List ℕ). x ++ run_blocks s gone) (sym (ap (λ (x : List ℕ). level_blocks s (cut_direct s l front r).stream.direct ++ x) behind ∙ append_none (level_blocks s (cut_direct s l front r).stream.direct)))

  pub cut_arrays : arrays_of s (cut_direct s l front r) ≡ arrays_of s l
  unfolding arrays_of
  cut_arrays = refl

  no_level : (before own : ℕ) → own ≡ 0 → level_end before own ≡ 0
  no_level before own e = let t : (own == 0) ≡ true = grind (arith, e) in ap (λ (b : Bool). cond b 0 (before + own)) t

  places_long : length (places_of s (cut_direct s l front r)) ≡ length (blocks_of s front) + r.len
  places_long =
      ap length (ap (λ (x : List ℕ). level_blocks s (cut_direct s l front r).stream.direct ++ x) behind ∙ append_none (level_blocks s (cut_direct s l front r).stream.direct)) ∙ length_is

  all_front : All (IsInVolume s) (front ++ last ∷ []) → All (IsInVolume s) front
  all_front all i d h = subst (IsInVolume s) (left_at front (last ∷ []) i d h) (all i d (let e = length-append front (last ∷ []) in omega (arith, e, h)))
    where
      left_at : (xs ys : List Run) (j : ℕ) (x : Run) → j < length xs → get_or (xs ++ ys) j x ≡ get_or xs j x
      left_at [] ys j x h = absurd (omega (arith, h))
      left_at (y ∷ xs) ys zero x h = refl
      left_at (y ∷ xs) ys (suc j) x h = left_at xs ys j x (omega (arith, h))

  all_one : All (IsInVolume s) (used_runs (r ∷ []))
  all_one = by_len (r.len == 0) refl
    where
      by_len : (b : Bool) → (r.len == 0) ≡ b → All (IsInVolume s) (cond (r.len == 0) [] (r ∷ []))
      by_len true e = subst (λ (b : Bool). All (IsInVolume s) (cond b [] (r ∷ []))) (sym e) (All-nil (IsInVolume s))
      by_len false e = subst (λ (b : Bool). All (IsInVolume s) (cond b [] (r ∷ []))) (sym e) (All-cons (IsInVolume s) r [] (inside (grind (arith, e))) (All-nil (IsInVolume s)))

  pub cut_sound : HasLevels s (cut_direct s l front r)
  cut_sound = record {
    direct = subst (λ (x : List Run). All (IsInVolume s) x) (sym used_is) (All-append (IsInVolume s) front (used_runs (r ∷ [])) (all_front (subst (λ (x : List Run). All (IsInVolume s) x) is sound.direct)) all_one);
    indirect = inl no_array;
    in_indirect = sound.in_indirect;
    double = inl no_double;
    arrays = sound.arrays;
    in_double = sound.in_double;
    direct_range = ap (λ (n : ℕ). pos (s.block_size * n)) (sym length_is);
    indirect_range = sound.indirect_range ∙ ap (λ (n : ℕ). pos (s.block_size * n))
        (no_level (length (level_blocks s l.stream.direct)) (length (level_blocks s l.table)) (ap length no_table) ∙ sym (no_level (length (level_blocks s (cut_direct s l front r).stream.direct)) (length (level_blocks s l.table)) (ap length no_table)));
    double_range = sound.double_range ∙ ap (λ (n : ℕ). pos (s.block_size * n))
        (no_level (length (level_blocks s l.stream.direct) + length (level_blocks s l.table)) (length (level_blocks s l.runs)) (ap length no_runs)
        ∙ sym (no_level (length (level_blocks s (cut_direct s l front r).stream.direct) + length (level_blocks s l.table)) (length (level_blocks s l.runs)) (ap length no_runs)));
    size_low = sound.size_low;
    size_high = subst (λ (n : ℕ). natural l.stream.size ≤ s.block_size * n) (sym places_long) size;
  }
