-- How runs of disk calls go on.
use Rattle.std.proofs.Common.{inl, inr, ⊎_elim, ◌≤◌, ℕ, List, Option, Result, arith}
use Rattle.bfs_base.specs.Moments.{Elapses, Passed}

-- no call
pub passed_none : (now : ℕ) (since : ℕ → List ℕ → Type 0) (during : List ℕ → Type 0) → Passed now now since since during
passed_none now since during = record { later = omega arith; nothing_else = λ t c le left. inl left; keeps = λ t c le was. was }

-- one call
pub passed_one : {S T E : Type 0} {told : Option S} {result : Result T E} {before now : ℕ} {past since : ℕ → List ℕ → Type 0} {first : List ℕ → Type 0} (during : List ℕ → Type 0)
    → Elapses told result before now past since first → ((c : List ℕ) → first c → during c) → Passed before now past since during
passed_one during time here = record {
  later = time.later;
  nothing_else = λ t c le left. ⊎_elim (λ was. inl was) (λ now. inr (here c now)) (time.nothing_else t c le left);
  keeps = time.keeps;
}

-- some calls, and then more
pub passed_then : {a b c : ℕ} {past mid since : ℕ → List ℕ → Type 0} {first second : List ℕ → Type 0} (during : List ℕ → Type 0)
    → Passed a b past mid first → Passed b c mid since second → ((i : List ℕ) → first i → during i) → ((i : List ℕ) → second i → during i) → Passed a c past since during
passed_then {a} {b} during one two here there =
    let le_b : (t : ℕ) → t ≤ a → t ≤ b = λ t le. omega (arith, le, one.later) in
    record {
      later = omega (arith, one.later, two.later);
      nothing_else = λ t i le left. ⊎_elim (λ was. ⊎_elim (λ past. inl past) (λ now. inr (here i now)) (one.nothing_else t i le was)) (λ now. inr (there i now)) (two.nothing_else t i (le_b t le) left);
      keeps = λ t i le was. two.keeps t i (le_b t le) (one.keeps t i le was);
    }

-- some calls, and then more, whose moments leave the same
pub passed_on : {a b c : ℕ} {past mid since : ℕ → List ℕ → Type 0} {R : List ℕ → Type 0} → Passed a b past mid R → Passed b c mid since R → Passed a c past since R
passed_on {R} one two = passed_then R one two (λ i r. r) (λ i r. r)
