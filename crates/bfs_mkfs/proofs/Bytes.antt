-- Parts of an image, and its blocks one after another.
use Rattle.std.proofs.Common.{◌≡◌, ◌≤◌, ◌+◌, ◌*◌, ◌-◌, ℕ, zero, suc, List, [], ◌∷◌, ◌++◌, length, refl, sym, ap, ◌∙◌, arith, take, drop}
use Rattle.std.specs.List.{flat_map}
use Rattle.std.proofs.lemmas.List.{drop-take}
use Rattle.std.proofs.Math.Seq.{take-add, take-append_seam, drop-append_seam}
use Rattle.bfs_base.specs.Lists.{counted_from}

pub take_of : (n k : ℕ) (xs : List ℕ) → n ≤ k → take n (take k xs) ≡ take n xs
take_of zero k xs h = refl
take_of (suc n) zero xs h = absurd (omega (arith, h))
take_of (suc n) (suc k) [] h = refl
take_of (suc n) (suc k) (x ∷ xs) h = ap (λ l. x ∷ l) (take_of n k xs (omega (arith, h)))

none : (k : ℕ) → drop {A = ℕ} k [] ≡ []
none zero = refl
none (suc k) = refl

pub drop_twice : (n m : ℕ) (xs : List ℕ) → drop m (drop n xs) ≡ drop (n + m) xs
drop_twice zero m xs = ap (λ k. drop k xs) (let e : m ≡ 0 + m = omega arith in e)
drop_twice (suc n) m [] = none m ∙ sym (none (suc n + m))
drop_twice (suc n) m (x ∷ xs) = drop_twice n m xs ∙ (let e : suc n + m ≡ suc (n + m) = omega arith in sym (ap (λ k. drop k (x ∷ xs)) e))

-- a part of a part
pub part_of : (from n at m : ℕ) (xs : List ℕ) → at + m ≤ n → take m (drop at (take n (drop from xs))) ≡ take m (drop (from + at) xs)
part_of from n at m xs h =
    let e : n ≡ at + (n - at) = omega (arith, h) in
    ap (λ k. take m (drop at (take k (drop from xs)))) e
    ∙ ap (take m) (drop-take at (n - at) (drop from xs))
    ∙ take_of m (n - at) (drop at (drop from xs)) (omega (arith, h))
    ∙ ap (take m) (drop_twice from at xs)

-- the blocks of an image
abbrev pub blocks_by : ℕ → List ℕ → ℕ → List ℕ
blocks_by size image b = take size (drop (b * size) image)

pub joined_blocks : (size first n : ℕ) (image : List ℕ) → flat_map (blocks_by size image) (counted_from first n) ≡ take (n * size) (drop (first * size) image)
joined_blocks size first zero image = let e : 0 ≡ 0 * size = grind arith in ap (λ k. take k (drop (first * size) image)) e
joined_blocks size first (suc n) image =
    let e : size + n * size ≡ suc n * size = grind arith in
    let f : first * size + size ≡ suc first * size = grind arith in
    ap (λ l. take size (drop (first * size) image) ++ l) (joined_blocks size (suc first) n image)
    ∙ ap (λ k. take size (drop (first * size) image) ++ take (n * size) (drop k image)) (sym f)
    ∙ ap (λ l. take size (drop (first * size) image) ++ take (n * size) l) (sym (drop_twice (first * size) size image))
    ∙ sym (take-add size (n * size) (drop (first * size) image))
    ∙ ap (λ k. take k (drop (first * size) image)) e

-- the middle of three parts
pub middle : (pre x post : List ℕ) (a n : ℕ) → length pre ≡ a → length x ≡ n → take n (drop a (pre ++ (x ++ post))) ≡ x
middle pre x post a n is long =
    ap (λ k. take n (drop k (pre ++ (x ++ post)))) (sym is) ∙ ap (take n) (drop-append_seam pre (x ++ post)) ∙ ap (λ k. take k (x ++ post)) (sym long) ∙ take-append_seam x post
