-- One line more of a workload.
use Rattle.std.proofs.Common.{◌≡◌, ◌++◌, ◌∷◌, [], ◌+◌, ◌-◌, ◌<◌, ℕ, suc, List, ap, sym, ◌∙◌, append_assoc, arith}
use Rattle.bfs_soak.specs.Workload.{next_state}
use Rattle.bfs_soak.specs.Spellings.{drawn_text, lines_text}

pub text_more : (whole old new : List ℕ) (x y at count : ℕ) → at < count → whole ≡ old ++ lines_text x (at + 1) (count - at) → new ≡ old ++ (drawn_text x (at + 1) ++ 10 ∷ [])
    → y ≡ next_state (next_state (next_state x)) → whole ≡ new ++ lines_text y (at + 1 + 1) (count - (at + 1))
text_more whole old new x y at count lt so_far items state =
    let left : count - at ≡ suc (count - (at + 1)) = omega (arith, lt) in
    let rest : List ℕ = lines_text (next_state (next_state (next_state x))) (at + 1 + 1) (count - (at + 1)) in
    let line : List ℕ = drawn_text x (at + 1) ++ 10 ∷ [] in
    so_far ∙ ap (λ (n : ℕ). old ++ lines_text x (at + 1) n) left
    ∙ ap (λ (l : List ℕ). old ++ l) (sym (append_assoc (drawn_text x (at + 1)) (10 ∷ []) rest)) ∙ sym (append_assoc old line rest)
    ∙ ap (λ (l : List ℕ). l ++ rest) (sym items) ∙ ap (λ (z : ℕ). new ++ lines_text z (at + 1 + 1) (count - (at + 1))) (sym state)
