-- A window is cut into blocks of two, four, eight or sixteen sectors.
use Rattle.std.proofs.Common.{◌≡◌, ⊎_elim, ℕ, zero, suc, ◌+◌, ◌*◌, ◌/◌, ◌%◌, ◌^◌, ◌<◌, ◌≤◌, refl, sym, ◌∙◌, ap, subst, arith}
use Rattle.std.proofs.Math.Nat.{mul-zero, zero-mul, mul-add, mul_left_comm, mul-le-mul_left, div-add-mod'}
use Rattle.std.proofs.lemmas.Nat.{mod-mul-add, mod_below}
use Rattle.std.proofs.lemmas.Bool.{cases_eq}
use Rattle.bfs_super.specs.declared.sup.Super.{Super}
use Rattle.bfs_super.specs.Conditions.{IsValid}

abbrev pub AreParts : ℕ → Type 0
AreParts size = 64 ≡ size / 512 * (64 / (size / 512))

of_four : (k size : ℕ) → 10 ≤ k → k ≤ 13 → size ≡ 2 ^ k → AreParts size
of_four k size low high is = ⊎_elim
    (λ e. subst AreParts (sym (is ∙ ap (λ (m : ℕ). 2 ^ m) e)) refl)
    (λ a. ⊎_elim
    (λ e. subst AreParts (sym (is ∙ ap (λ (m : ℕ). 2 ^ m) e)) refl)
    (λ b. ⊎_elim
    (λ e. subst AreParts (sym (is ∙ ap (λ (m : ℕ). 2 ^ m) e)) refl)
    (λ d. let e : k ≡ 13 = omega (arith, low, high, a, b, d) in subst AreParts (sym (is ∙ ap (λ (m : ℕ). 2 ^ m) e)) refl)
    (cases_eq k 12))
    (cases_eq k 11))
    (cases_eq k 10)

pub parts_of : (s : Super) → IsValid s → AreParts s.block_size
parts_of s valid = of_four s.block_shift s.block_size valid.block_size.0 valid.block_size.1 valid.block_size.2

-- a block lies in one window
within_of : (r k q : ℕ) → 64 ≡ r * q → r * k % 64 + r ≤ 64
within_of zero k q parts = absurd (omega (arith, parts, zero-mul q))
within_of (suc r) k zero parts = absurd (omega (arith, parts, mul-zero (suc r)))
within_of (suc r) k (suc q) parts =
    let a : ℕ = suc r in
    let b : ℕ = suc q in
    let d : ℕ = k / b in
    let e : ℕ = k % b in
    let below : e < b = mod_below k b (omega arith) in
    let low : e + 1 ≤ b = omega (arith, below) in
    let fit : a * (e + 1) ≤ a * b = mul-le-mul_left a low in
    let one : a * (e + 1) ≡ a * e + a * 1 = mul-add a e 1 in
    let value : a * k ≡ d * 64 + a * e =
    ap (λ (m : ℕ). a * m) (sym (div-add-mod' k b)) ∙ mul-add a (d * b) e ∙ ap (λ (m : ℕ). m + a * e) (mul_left_comm a d b ∙ ap (λ (m : ℕ). d * m) (sym parts)) in
    let small : a * e < 64 = omega (arith, fit, one, parts) in
    let rest : a * k % 64 ≡ a * e = ap (λ (m : ℕ). m % 64) value ∙ mod-mul-add d 64 (a * e) small in
    omega (arith, rest, fit, one, parts)

pub block_within : (size k : ℕ) → AreParts size → size / 512 * k % 64 + size / 512 ≤ 64
block_within size k parts = within_of (size / 512) k (64 / (size / 512)) parts
