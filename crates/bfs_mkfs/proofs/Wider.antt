-- More that may have been left in the meantime.
use Rattle.std.proofs.Common.{inl, inr, ⊎_elim, ℕ, List}
use Rattle.bfs_base.specs.Moments.{Passed}

pub passed_wider : {a b : ℕ} {past since : ℕ → List ℕ → Type 0} {first : List ℕ → Type 0} (during : List ℕ → Type 0)
    → Passed a b past since first → ((c : List ℕ) → first c → during c) → Passed a b past since during
passed_wider during time wider = record {
  later = time.later;
  nothing_else = λ t c le left. ⊎_elim (λ was. inl was) (λ now. inr (wider c now)) (time.nothing_else t c le left);
  keeps = time.keeps;
}
