-- Bytes are cut at the first separator.
use Rattle.std.proofs.Common.{◌≡◌, ℕ, zero, suc, ◌+◌, ◌<◌, List, [], ◌∷◌, length, take, drop, slice_index, ap, refl, arith, add-one, Bool, true, false, ◌==◌}
use Rattle.bfs_text.specs.Cutting.{joined, cut_at, lines_of}

-- none of the first n bytes is the separator
abbrev pub NoneBefore : ℕ → List ℕ → ℕ → Type 0
NoneBefore sep bytes n = (i : ℕ) → i < n → (slice_index bytes i == sep) ≡ false

behind : (sep b n : ℕ) (bs : List ℕ) → NoneBefore sep (b ∷ bs) (suc n) → NoneBefore sep bs n
behind sep b n bs none i lt = none (suc i) (omega (arith, lt))

cut_at_place : (sep n : ℕ) (bytes : List ℕ) → n < length bytes → NoneBefore sep bytes n → (slice_index bytes n == sep) ≡ true
    → cut_at sep bytes ≡ take n bytes ∷ cut_at sep (drop (suc n) bytes)
cut_at_place sep n [] inside none found = absurd (omega (arith, inside))
cut_at_place sep zero (b ∷ bs) inside none found = rw found refl
cut_at_place sep (suc n) (b ∷ bs) inside none found = rw (none 0 (omega arith)) (ap (joined b) (cut_at_place sep n bs (omega (arith, inside)) (behind sep b n bs none) found))

pub cut_nowhere : (sep : ℕ) (bytes : List ℕ) → NoneBefore sep bytes (length bytes) → cut_at sep bytes ≡ bytes ∷ []
cut_nowhere sep [] none = refl
cut_nowhere sep (b ∷ bs) none = rw (none 0 (omega arith)) (ap (joined b) (cut_nowhere sep bs (behind sep b (length bs) bs none)))

line_at_place : (n : ℕ) (bytes : List ℕ) → n < length bytes → NoneBefore 10 bytes n → (slice_index bytes n == 10) ≡ true
    → lines_of bytes ≡ take n bytes ∷ lines_of (drop (suc n) bytes)
line_at_place n [] inside none found = absurd (omega (arith, inside))
line_at_place zero (b ∷ bs) inside none found = rw found refl
line_at_place (suc n) (b ∷ bs) inside none found = rw (none 0 (omega arith)) (ap (joined b) (line_at_place n bs (omega (arith, inside)) (behind 10 b n bs none) found))

line_last : (b : ℕ) (bs : List ℕ) → NoneBefore 10 bs (length bs) → joined b (lines_of bs) ≡ (b ∷ bs) ∷ []
line_last b [] none = refl
line_last b (c ∷ cs) none = rw (none 0 (omega arith)) (ap (joined b) (line_last c cs (behind 10 c (length cs) cs none)))

pub line_nowhere : (bytes : List ℕ) → 0 < length bytes → NoneBefore 10 bytes (length bytes) → lines_of bytes ≡ bytes ∷ []
line_nowhere [] some none = absurd (omega (arith, some))
line_nowhere (b ∷ bs) some none = rw (none 0 (omega arith)) (line_last b bs (behind 10 b (length bs) bs none))

pub cut_here : (sep n : ℕ) (bytes : List ℕ) → n < length bytes → NoneBefore sep bytes n → (slice_index bytes n == sep) ≡ true
    → cut_at sep bytes ≡ take n bytes ∷ cut_at sep (drop (n + 1) bytes)
cut_here sep n bytes inside none found = rw add-one (cut_at_place sep n bytes inside none found)

pub line_here : (n : ℕ) (bytes : List ℕ) → n < length bytes → NoneBefore 10 bytes n → (slice_index bytes n == 10) ≡ true
    → lines_of bytes ≡ take n bytes ∷ lines_of (drop (n + 1) bytes)
line_here n bytes inside none found = rw add-one (line_at_place n bytes inside none found)

-- a test that isn't passed is failed
pub failed : (t : Bool) → ¬ (t ≡ true) → t ≡ false
failed true no_pass = absurd (no_pass refl)
failed false no_pass = refl
