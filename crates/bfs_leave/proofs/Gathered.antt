-- Blocks that were given back one after the other.
use Rattle.std.proofs.Common.{◌≡◌, ◌≤◌, ◌<◌, ◌+◌, ◌⊎◌, inl, inr, ℕ, zero, suc, List, [], ◌++◌, refl, sym, ap, ◌∙◌, subst, arith, Bool, true, false, cond, not, Option, Some}
use Rattle.std.specs.Prelude.{◌==◌, ◌||◌}
use Rattle.bfs_base.specs.Lists.{times, Has, IsOnce}
use Rattle.bfs_bitmap.specs.Fills.{IsBitmapBlock}
use Rattle.bfs_bitmap.specs.Runs.{Room, Fits, IsCounted, per_block, is_reserved, marked}
use Rattle.bfs_stream.specs.Grown.{IsOutside}
use Rattle.bfs_stream.specs.Trimmed.{AreMarked}
use Rattle.bfs_stream.proofs.Doubles.{times-append}
use Rattle.bfs_stream.proofs.Taking.{zero_test, some_test}
use Rattle.bfs_leave.specs.Given.{AreGivenBack}

or_none : (b : Bool) → (b || false) ≡ b
or_none true = refl
or_none false = refl

or_all : (b : Bool) → (b || true) ≡ true
or_all true = refl
or_all false = refl

-- nothing was given back
pub none_given_back : (v : Room) (m : ℕ → Option (List ℕ)) (told : Option (ℕ → Option (List ℕ))) (old : ℕ → Bool) → told ≡ Some m → Fits v m → AreGivenBack v v [] m told old old
none_given_back v m told old is fits = record {
  map = m;
  is = is;
  fits = fits;
  reserved = λ k. sym (or_none (is_reserved v.given k));
  marks = λ k low. refl;
  counted = λ once marks count. count;
  others = λ k out none. refl;
  first = λ none. refl;
  written = λ k h. inl h;
}

pub none_map : (v : Room) (m : ℕ → Option (List ℕ)) (told : Option (ℕ → Option (List ℕ))) (old : ℕ → Bool) (is : told ≡ Some m) (fits : Fits v m) → (none_given_back v m told old is fits).map ≡ m
unfolding none_given_back
none_map v m told old is fits = refl

module _ (v now later : Room) (xs ys : List ℕ) (m : ℕ → Option (List ℕ)) (told last : Option (ℕ → Option (List ℕ))) (old new end : ℕ → Bool) (rest : now ≡ record v { given = now.given; tally = now.tally })
    (one : AreGivenBack v now xs m told old new) (two : AreGivenBack now later ys one.map last new end) where
  both : (k : ℕ) → times k (xs ++ ys) ≡ times k xs + times k ys
  both k = times-append k xs ys

  none_both : (k : ℕ) → times k xs ≡ 0 → times k ys ≡ 0 → (times k (xs ++ ys) == 0) ≡ true
  none_both k e f = zero_test (times k (xs ++ ys)) (let b = both k in omega (arith, b, e, f))

  some_both : (k : ℕ) → 0 < times k xs + times k ys → (times k (xs ++ ys) == 0) ≡ false
  some_both k h = some_test (times k (xs ++ ys)) (let b = both k in omega (arith, b, h))

  reserved : (k : ℕ) → is_reserved later.given k ≡ (is_reserved v.given k || not (times k (xs ++ ys) == 0))
  reserved k = by_counts (times k xs) refl (times k ys) refl
    where
      goal_of : (t : Bool) → (times k (xs ++ ys) == 0) ≡ t → is_reserved later.given k ≡ (is_reserved v.given k || not t) → is_reserved later.given k ≡ (is_reserved v.given k || not (times k (xs ++ ys) == 0))
      goal_of t e h = h ∙ sym (ap (λ (b : Bool). is_reserved v.given k || not b) e)

      by_counts : (a : ℕ) → times k xs ≡ a → (b : ℕ) → times k ys ≡ b → is_reserved later.given k ≡ (is_reserved v.given k || not (times k (xs ++ ys) == 0))
      by_counts a e (suc b) f =
          goal_of false (some_both k (omega (arith, e, f)))
          (two.reserved k ∙ ap (λ (t : Bool). is_reserved now.given k || not t) (some_test (times k ys) (omega (arith, f))) ∙ or_all (is_reserved now.given k) ∙ sym (or_all (is_reserved v.given k)))
      by_counts (suc a) e zero f =
          goal_of false (some_both k (omega (arith, e, f)))
          (two.reserved k ∙ ap (λ (t : Bool). is_reserved now.given k || not t) (zero_test (times k ys) f) ∙ or_none (is_reserved now.given k)
          ∙ one.reserved k ∙ ap (λ (t : Bool). is_reserved v.given k || not t) (some_test (times k xs) (omega (arith, e))))
      by_counts zero e zero f =
          goal_of true (none_both k e f)
          (two.reserved k ∙ ap (λ (t : Bool). is_reserved now.given k || not t) (zero_test (times k ys) f) ∙ or_none (is_reserved now.given k)
          ∙ one.reserved k ∙ ap (λ (t : Bool). is_reserved v.given k || not t) (zero_test (times k xs) e))

  same_bits : per_block now ≡ per_block v
  same_bits = ap per_block rest

  same_blocks : now.blocks ≡ v.blocks
  same_blocks = ap (λ (r : Room). r.blocks) rest

  -- the bits after the second, spoken of as the first sees them
  bits_later : (k : ℕ) → k < v.blocks → marked (per_block v) two.map k ≡ cond (times k ys == 0) (marked (per_block v) one.map k) 0
  bits_later k low = subst (λ (b : ℕ). marked b two.map k ≡ cond (times k ys == 0) (marked b one.map k) 0) same_bits (two.marks k (subst (λ (b : ℕ). k < b) (sym same_blocks) low))

  marks : (k : ℕ) → k < v.blocks → marked (per_block v) two.map k ≡ cond (times k (xs ++ ys) == 0) (marked (per_block v) m k) 0
  marks k low = by_counts (times k xs) refl (times k ys) refl
    where
      goal_of : (t : Bool) → (times k (xs ++ ys) == 0) ≡ t → marked (per_block v) two.map k ≡ cond t (marked (per_block v) m k) 0 → marked (per_block v) two.map k ≡ cond (times k (xs ++ ys) == 0) (marked (per_block v) m k) 0
      goal_of t e h = h ∙ sym (ap (λ (b : Bool). cond b (marked (per_block v) m k) 0) e)

      by_counts : (a : ℕ) → times k xs ≡ a → (b : ℕ) → times k ys ≡ b → marked (per_block v) two.map k ≡ cond (times k (xs ++ ys) == 0) (marked (per_block v) m k) 0
      by_counts a e (suc b) f =
          goal_of false (some_both k (omega (arith, e, f))) (bits_later k low ∙ ap (λ (t : Bool). cond t (marked (per_block v) one.map k) 0) (some_test (times k ys) (omega (arith, f))))
      by_counts (suc a) e zero f =
          goal_of false (some_both k (omega (arith, e, f)))
          (bits_later k low ∙ ap (λ (t : Bool). cond t (marked (per_block v) one.map k) 0) (zero_test (times k ys) f)
          ∙ one.marks k low ∙ ap (λ (t : Bool). cond t (marked (per_block v) m k) 0) (some_test (times k xs) (omega (arith, e))))
      by_counts zero e zero f =
          goal_of true (none_both k e f)
          (bits_later k low ∙ ap (λ (t : Bool). cond t (marked (per_block v) one.map k) 0) (zero_test (times k ys) f)
          ∙ one.marks k low ∙ ap (λ (t : Bool). cond t (marked (per_block v) m k) 0) (zero_test (times k xs) e))

  counted : IsOnce (xs ++ ys) → AreMarked v (xs ++ ys) m → IsCounted v m → IsCounted later two.map
  counted once are count = two.counted
      (λ k. let o : times k (xs ++ ys) ≤ 1 = once k in let b = both k in omega (arith, o, b))
      (λ k low has. subst (λ (b : ℕ). marked b one.map k ≡ 1) (sym same_bits) (still k (subst (λ (b : ℕ). k < b) same_blocks low) has))
      (one.counted
      (λ k. let o : times k (xs ++ ys) ≤ 1 = once k in let b = both k in omega (arith, o, b))
      (λ k low has. are k low (let h : 0 < times k xs = has in let b = both k in let r : 0 < times k (xs ++ ys) = omega (arith, h, b) in r))
      count)
    where
      still : (k : ℕ) → k < v.blocks → Has ys k → marked (per_block v) one.map k ≡ 1
      still k low has =
          let h : 0 < times k ys = has in
          let o : times k (xs ++ ys) ≤ 1 = once k in
          let b = both k in
          one.marks k low ∙ ap (λ (t : Bool). cond t (marked (per_block v) m k) 0) (zero_test (times k xs) (omega (arith, h, o, b)))
          ∙ are k low (let r : 0 < times k (xs ++ ys) = omega (arith, h, b) in r)

  out_now : (k : ℕ) → IsOutside v k → IsOutside now k
  out_now k out = subst (λ (r : Room). IsOutside r k) (sym rest) out

  by_cause : (k : ℕ) → (old k ≡ true) ⊎ (IsBitmapBlock v k ⊎ Has xs k) → (old k ≡ true) ⊎ (IsBitmapBlock v k ⊎ Has (xs ++ ys) k)
  by_cause k (inl e) = inl e
  by_cause k (inr (inl b)) = inr (inl b)
  by_cause k (inr (inr has)) = inr (inr (let h : 0 < times k xs = has in let b = both k in let r : 0 < times k (xs ++ ys) = omega (arith, h, b) in r))

  by_last : (k : ℕ) → (new k ≡ true) ⊎ (IsBitmapBlock now k ⊎ Has ys k) → (old k ≡ true) ⊎ (IsBitmapBlock v k ⊎ Has (xs ++ ys) k)
  by_last k (inl e) = by_cause k (one.written k e)
  by_last k (inr (inl b)) = inr (inl (subst (λ (r : Room). IsBitmapBlock r k) rest b))
  by_last k (inr (inr has)) = inr (inr (let h : 0 < times k ys = has in let b = both k in let r : 0 < times k (xs ++ ys) = omega (arith, h, b) in r))

  pub given_twice : AreGivenBack v later (xs ++ ys) m last old end
  given_twice = record {
    map = two.map;
    is = two.is;
    fits = two.fits;
    reserved = reserved;
    marks = marks;
    counted = counted;
    others = λ k out none. two.others k (out_now k out) (let b = both k in omega (arith, b, none)) ∙ one.others k out (let b = both k in omega (arith, b, none));
    first = λ none. two.first (let b = both 0 in omega (arith, b, none)) ∙ one.first (let b = both 0 in omega (arith, b, none));
    written = λ k h. by_last k (two.written k h);
  }

  pub twice_map : given_twice.map ≡ two.map
  unfolding given_twice
  twice_map = refl
