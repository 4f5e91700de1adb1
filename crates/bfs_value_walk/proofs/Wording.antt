-- Words of sixteen bits for the pages of a stream, of which one bit more is set.
use Rattle.std.proofs.Common.{◌≡◌, ◌≢◌, ◌≤◌, ◌<◌, ◌+◌, ◌*◌, ◌/◌, ◌%◌, ◌^◌, ℕ, zero, suc, List, length, get_or, replicate, Bool, true, false, not, cond, ◌&&◌, ◌==◌, nat_lt, refl, sym, ap, ◌∙◌, subst, arith}
use Rattle.std.specs.Int.{bit_at, w16}
use Rattle.std.specs.Int.RustNames.{bit_or}
use Rattle.std.specs.Prelude.{slice_set}
use Rattle.std.proofs.lemmas.Bool.{eqb-true, eqb-false, eq-eqb, ne_eqb, le-leb, both_ways}
use Rattle.std.proofs.lemmas.List.{get_or-set_same, get_or-set_other}
use Rattle.std.proofs.lemmas.Nat.Bits.{bit_at-zero, bit_at-lt, bit_at_set_same, bit_at_set_other, shr_and_one}
use lib.Bits.{bit_and}
use Rattle.bfs_pages.specs.Answers.{IsChild}
use Rattle.bfs_pages.specs.Trees.{is_place}
use Rattle.bfs_value_walk.specs.Named.{named, parted}

-- ---- one word

pub bit_test : (n i : ℕ) → (bit_and (n / 2 ^ i) 1 == 1) ≡ (bit_at n i == 1)
bit_test n i = ap (λ k. k == 1) (shr_and_one n i)

pub bit_put : (n b j : ℕ) → b < 16 → j < 16 → bit_at (bit_or n (1 * 2 ^ b % 2 ^ 16)) j ≡ cond (j == b) 1 (bit_at n j)
bit_put n b j h g = here (j == b) refl
  where
    here : (t : Bool) → (j == b) ≡ t → bit_at (bit_or n (1 * 2 ^ b % 2 ^ 16)) j ≡ cond t 1 (bit_at n j)
    here true e = ap (bit_at (bit_or n (1 * 2 ^ b % 2 ^ 16))) (eqb-true j b e) ∙ bit_at_set_same w16 n b h
    here false e = bit_at_set_other w16 n b h j (eqb-false j b e)

-- a bit that isn't 1 is 0
pub bit_clear : (n j : ℕ) → (bit_at n j == 1) ≡ false → bit_at n j ≡ 0
bit_clear n j e = let l = bit_at-lt n j in let d = eqb-false (bit_at n j) 1 e in by_size (bit_at n j) l d
  where
    by_size : (k : ℕ) → k < 2 → (k ≡ 1 → ⊥) → k ≡ 0
    by_size zero l d = refl
    by_size (suc zero) l d = absurd (d refl)
    by_size (suc (suc k)) l d = absurd (omega (arith, l))

-- ---- the words of all pages

named_is : (size x f : ℕ) (names : List ℕ) → named size names x f ≡ cond (is_place size x && nat_lt f 16) (bit_at (get_or names (x / 1024) 0) f) 0
unfolding named
named_is size x f names = refl

parted_is : (size x : ℕ) (names : List ℕ) → parted size names x ≡ cond (is_place size x && not (get_or names (x / 1024) 0 == 0)) 1 0
unfolding parted
parted_is size x names = refl

low_of : (size x : ℕ) → is_place size x ≡ true → x + 1 ≤ size
low_of size x e = grind (arith, e)

whole_of : (size x : ℕ) → is_place size x ≡ true → x % 1024 ≡ 0
whole_of size x e = grind (arith, e)

lt_yes : (a b : ℕ) → nat_lt a b ≡ true → a < b
lt_yes a b e = grind (arith, e)

lt_no : (a b : ℕ) → a < b → nat_lt a b ≡ true
lt_no a b h = grind (arith, h)

apart : (x y : ℕ) → x % 1024 ≡ 0 → y % 1024 ≡ 0 → x ≢ y → x / 1024 ≢ y / 1024
apart x y a b d e = d (omega (arith, a, b, e))

pub inside : (size at n : ℕ) → IsChild size at → size % 1024 ≡ 0 → n ≡ size / 1024 → at / 1024 < n
inside size at n child whole long = let low = low_of size at child.1 in let m = whole_of size at child.1 in omega (arith, low, m, whole, long)

-- of a page in the stream
pub named_here : (size at f : ℕ) (names : List ℕ) → is_place size at ≡ true → f < 16 → named size names at f ≡ bit_at (get_or names (at / 1024) 0) f
named_here size at f names p h =
    named_is size at f names
    ∙ ap (λ c. cond (c && nat_lt f 16) (bit_at (get_or names (at / 1024) 0) f) 0) p
    ∙ ap (λ c. cond c (bit_at (get_or names (at / 1024) 0) f) 0) (lt_no f 16 h)

named_off : (size x f : ℕ) (names : List ℕ) → is_place size x ≡ false → named size names x f ≡ 0
named_off size x f names p = named_is size x f names ∙ ap (λ c. cond (c && nat_lt f 16) (bit_at (get_or names (x / 1024) 0) f) 0) p

named_past : (size x f : ℕ) (names : List ℕ) → nat_lt f 16 ≡ false → named size names x f ≡ 0
named_past size x f names e = by_place (is_place size x) refl
  where
    by_place : (c : Bool) → is_place size x ≡ c → named size names x f ≡ 0
    by_place true p =
        named_is size x f names ∙ ap (λ c. cond (c && nat_lt f 16) (bit_at (get_or names (x / 1024) 0) f) 0) p ∙ ap (λ c. cond c (bit_at (get_or names (x / 1024) 0) f) 0) e
    by_place false p = named_off size x f names p

parted_off : (size x : ℕ) (names : List ℕ) → is_place size x ≡ false → parted size names x ≡ 0
parted_off size x names p = parted_is size x names ∙ ap (λ c. cond (c && not (get_or names (x / 1024) 0 == 0)) 1 0) p

parted_at : (size at : ℕ) (names : List ℕ) → is_place size at ≡ true → parted size names at ≡ cond (not (get_or names (at / 1024) 0 == 0)) 1 0
parted_at size at names p = parted_is size at names ∙ ap (λ c. cond (c && not (get_or names (at / 1024) 0 == 0)) 1 0) p

pub parted_some : (size at : ℕ) (names : List ℕ) → is_place size at ≡ true → get_or names (at / 1024) 0 ≢ 0 → parted size names at ≡ 1
parted_some size at names p d = parted_at size at names p ∙ ap (λ c. cond (not c) 1 0) (ne_eqb (get_or names (at / 1024) 0) 0 d)

pub parted_none : (size at : ℕ) (names : List ℕ) → is_place size at ≡ true → get_or names (at / 1024) 0 ≡ 0 → parted size names at ≡ 0
parted_none size at names p e = parted_at size at names p ∙ ap (λ k. cond (not (k == 0)) 1 0) e

-- a page of which a fragment was named is one of the stream, and its word isn't 0
pub parted_place : (size x : ℕ) (names : List ℕ) → 0 < parted size names x → (is_place size x ≡ true) × (get_or names (x / 1024) 0 ≢ 0)
parted_place size x names h = by_place (is_place size x) refl
  where
    by_place : (c : Bool) → is_place size x ≡ c → (is_place size x ≡ true) × (get_or names (x / 1024) 0 ≢ 0)
    by_place true p = (p, λ e. let z = parted_none size x names p e in omega (arith, z, h))
    by_place false p = let z = parted_off size x names p in absurd (omega (arith, z, h))

-- no word is set
none_there : (k j : ℕ) → get_or {A = ℕ} (replicate {A = ℕ} k 0) j 0 ≡ 0
none_there zero j = refl
none_there (suc k) zero = refl
none_there (suc k) (suc j) = none_there k j

pub none_named : (size x f k : ℕ) → named size (replicate k 0) x f ≡ 0
none_named size x f k = by_place (is_place size x) refl
  where
    by_place : (c : Bool) → is_place size x ≡ c → named size (replicate k 0) x f ≡ 0
    by_place true p = by_end (nat_lt f 16) refl
      where
        by_end : (c : Bool) → nat_lt f 16 ≡ c → named size (replicate k 0) x f ≡ 0
        by_end true e = named_here size x f (replicate k 0) p (lt_yes f 16 e) ∙ ap (λ w. bit_at w f) (none_there k (x / 1024)) ∙ bit_at-zero f
        by_end false e = named_past size x f (replicate k 0) e
    by_place false p = named_off size x f (replicate k 0) p

pub none_parted : (size x k : ℕ) → parted size (replicate k 0) x ≡ 0
none_parted size x k = by_place (is_place size x) refl
  where
    by_place : (c : Bool) → is_place size x ≡ c → parted size (replicate k 0) x ≡ 0
    by_place true p = parted_none size x (replicate k 0) p (none_there k (x / 1024))
    by_place false p = parted_off size x (replicate k 0) p

-- one bit more is set in the word of a page
module _ (size at index w : ℕ) (names : List ℕ) (child : IsChild size at) (whole : size % 1024 ≡ 0) (long : length names ≡ size / 1024) (few : index < 16)
    (sets : (j : ℕ) → j < 16 → bit_at w j ≡ cond (j == index) 1 (bit_at (get_or names (at / 1024) 0) j)) where
  word : get_or (slice_set names (at / 1024) w) (at / 1024) 0 ≡ w
  word = get_or-set_same names (at / 1024) w 0 (inside size at (length names) child whole long)

  other : (x : ℕ) → is_place size x ≡ true → (at == x) ≡ false → get_or (slice_set names (at / 1024) w) (x / 1024) 0 ≡ get_or names (x / 1024) 0
  other x p e = get_or-set_other names (at / 1024) (x / 1024) w 0 (apart x at (whole_of size x p) (whole_of size at child.1) (λ s. eqb-false at x e (sym s)))

  away : (x : ℕ) → is_place size x ≡ false → (at == x) ≡ false
  away x p = by_test (at == x) refl
    where
      by_test : (c : Bool) → (at == x) ≡ c → (at == x) ≡ false
      by_test true e = absurd (both_ways (is_place size x) p (subst (λ y. is_place size y ≡ true) (eqb-true at x e) child.1))
      by_test false e = e

  not_zero : w ≢ 0
  not_zero e =
      let one : bit_at w index ≡ 1 = sets index few ∙ ap (λ c. cond c 1 (bit_at (get_or names (at / 1024) 0) index)) (eq-eqb index index refl) in
      let none : bit_at w index ≡ 0 = ap (λ k. bit_at k index) e ∙ bit_at-zero index in
      omega (arith, one, none)

  pub parted_put : (x : ℕ) → parted size (slice_set names (at / 1024) w) x ≡ cond (at == x) 1 (parted size names x)
  parted_put x = by_place (is_place size x) refl
    where
      by_place : (c : Bool) → is_place size x ≡ c → parted size (slice_set names (at / 1024) w) x ≡ cond (at == x) 1 (parted size names x)
      by_place true p = by_test (at == x) refl
        where
          by_test : (c : Bool) → (at == x) ≡ c → parted size (slice_set names (at / 1024) w) x ≡ cond c 1 (parted size names x)
          by_test true e =
              let same : at ≡ x = eqb-true at x e in
              subst (λ y. parted size (slice_set names (at / 1024) w) y ≡ 1) same (parted_some size at (slice_set names (at / 1024) w) child.1 (λ z. not_zero (sym word ∙ z)))
          by_test false e =
              parted_at size x (slice_set names (at / 1024) w) p ∙ ap (λ k. cond (not (k == 0)) 1 0) (other x p e) ∙ sym (parted_at size x names p)
      by_place false p =
          parted_off size x (slice_set names (at / 1024) w) p ∙ sym (parted_off size x names p) ∙ sym (ap (λ c. cond c 1 (parted size names x)) (away x p))

  pub named_put : bit_at (get_or names (at / 1024) 0) index ≡ 0 → (x f : ℕ) → named size (slice_set names (at / 1024) w) x f ≡ named size names x f + cond ((at == x) && (index == f)) 1 0
  named_put clear x f = by_place (is_place size x) refl
    where
      here : f < 16 → named size (slice_set names (at / 1024) w) at f ≡ named size names at f + cond (index == f) 1 0
      here h = by_test (index == f) refl
        where
          now : named size (slice_set names (at / 1024) w) at f ≡ cond (f == index) 1 (bit_at (get_or names (at / 1024) 0) f)
          now = named_here size at f (slice_set names (at / 1024) w) child.1 h ∙ ap (λ k. bit_at k f) word ∙ sets f h

          was : named size names at f ≡ bit_at (get_or names (at / 1024) 0) f
          was = named_here size at f names child.1 h

          by_test : (c : Bool) → (index == f) ≡ c → named size (slice_set names (at / 1024) w) at f ≡ named size names at f + cond c 1 0
          by_test true e =
              let same : index ≡ f = eqb-true index f e in
              let one : named size (slice_set names (at / 1024) w) at f ≡ 1 = now ∙ ap (λ c. cond c 1 (bit_at (get_or names (at / 1024) 0) f)) (eq-eqb f index (sym same)) in
              let none : bit_at (get_or names (at / 1024) 0) f ≡ 0 = subst (λ j. bit_at (get_or names (at / 1024) 0) j ≡ 0) same clear in
              let before = was in
              omega (arith, one, none, before)
          by_test false e =
              let off : (f == index) ≡ false = turned (f == index) refl in
              let kept : named size (slice_set names (at / 1024) w) at f ≡ bit_at (get_or names (at / 1024) 0) f = now ∙ ap (λ c. cond c 1 (bit_at (get_or names (at / 1024) 0) f)) off in
              let before = was in
              omega (arith, kept, before)
            where
              turned : (c : Bool) → (f == index) ≡ c → (f == index) ≡ false
              turned true s = absurd (eqb-false index f e (sym (eqb-true f index s)))
              turned false s = s

      by_place : (c : Bool) → is_place size x ≡ c → named size (slice_set names (at / 1024) w) x f ≡ named size names x f + cond ((at == x) && (index == f)) 1 0
      by_place true p = by_end (nat_lt f 16) refl
        where
          by_end : (c : Bool) → nat_lt f 16 ≡ c → named size (slice_set names (at / 1024) w) x f ≡ named size names x f + cond ((at == x) && (index == f)) 1 0
          by_end true l = by_test (at == x) refl
            where
              by_test : (c : Bool) → (at == x) ≡ c → named size (slice_set names (at / 1024) w) x f ≡ named size names x f + cond (c && (index == f)) 1 0
              by_test true e = subst (λ y. named size (slice_set names (at / 1024) w) y f ≡ named size names y f + cond (index == f) 1 0) (eqb-true at x e) (here (lt_yes f 16 l))
              by_test false e =
                  let now : named size (slice_set names (at / 1024) w) x f ≡ bit_at (get_or names (x / 1024) 0) f = named_here size x f (slice_set names (at / 1024) w) p (lt_yes f 16 l) ∙ ap (λ k. bit_at k f) (other x p e) in
                  let was : named size names x f ≡ bit_at (get_or names (x / 1024) 0) f = named_here size x f names p (lt_yes f 16 l) in
                  omega (arith, now, was)
          by_end false l =
              let now : named size (slice_set names (at / 1024) w) x f ≡ 0 = named_past size x f (slice_set names (at / 1024) w) l in
              let was : named size names x f ≡ 0 = named_past size x f names l in
              let none : cond {A = ℕ} ((at == x) && (index == f)) 1 0 ≡ 0 = by_index (at == x) (index == f) refl in
              omega (arith, now, was, none)
            where
              by_index : (a b : Bool) → (index == f) ≡ b → cond {A = ℕ} (a && b) 1 0 ≡ 0
              by_index true true e = absurd (both_ways (nat_lt f 16) l (lt_no f 16 (subst (λ k. k < 16) (eqb-true index f e) few)))
              by_index true false e = refl
              by_index false b e = refl
      by_place false p =
          let now : named size (slice_set names (at / 1024) w) x f ≡ 0 = named_off size x f (slice_set names (at / 1024) w) p in
          let was : named size names x f ≡ 0 = named_off size x f names p in
          let none : cond {A = ℕ} ((at == x) && (index == f)) 1 0 ≡ 0 = ap (λ c. cond {A = ℕ} (c && (index == f)) 1 0) (away x p) in
          omega (arith, now, was, none)

-- the bit of a fragment that was named
pub named_bit : (size at f : ℕ) (names : List ℕ) → is_place size at ≡ true → f < 16 → (bit_at (get_or names (at / 1024) 0) f == 1) ≡ true → named size names at f ≡ 1
named_bit size at f names p h e = named_here size at f names p h ∙ eqb-true (bit_at (get_or names (at / 1024) 0) f) 1 e

pub parted_test : (size at : ℕ) (names : List ℕ) → is_place size at ≡ true → not (get_or names (at / 1024) 0 == 0) ≡ true → parted size names at ≡ 1
parted_test size at names p e = parted_at size at names p ∙ ap (λ c. cond c 1 0) e

pub parted_not : (size at : ℕ) (names : List ℕ) → is_place size at ≡ true → not (get_or names (at / 1024) 0 == 0) ≡ false → parted size names at ≡ 0
parted_not size at names p e = parted_at size at names p ∙ ap (λ c. cond c 1 0) e

-- ---- a page by its number

pub place_number : (size i n : ℕ) → i < n → n ≡ size / 1024 → size % 1024 ≡ 0 → is_place size (1024 * i) ≡ true
place_number size i n h long whole = ap (λ c. c && (1024 * i % 1024 == 0)) (le-leb (1024 * i + 1) size (omega (arith, h, long, whole))) ∙ eq-eqb (1024 * i % 1024) 0 (omega arith)

pub number_back : (i : ℕ) → 1024 * i / 1024 ≡ i
number_back i = omega arith

-- what holds of all numbers of pages holds of all pages that have a named fragment
pub all_numbers : (size n : ℕ) (names : List ℕ) (P : ℕ → Type 0) → n ≡ size / 1024 → size % 1024 ≡ 0 → ((j : ℕ) → j < n → 0 < parted size names (1024 * j) → P (1024 * j)) → (x : ℕ) → 0 < parted size names x → P x
all_numbers size n names P long whole all x h =
    let p = (parted_place size x names h).0 in
    let low = low_of size x p in
    let m = whole_of size x p in
    let same : 1024 * (x / 1024) ≡ x = omega (arith, m) in
    subst P same (all (x / 1024) (omega (arith, low, m, long, whole)) (subst (λ y. 0 < parted size names y) (sym same) h))
