use Rattle.std.proofs.Common.{◌≡◌, ◌-◌, ◌++◌, ◌∷◌, [], ◌∙◌, ℕ, suc, List, Bool, false, replicate, sym, ap, append_assoc, append-nil, arith}
use Rattle.bfs_tree_check.proofs.marks.push_marks.Goals as goal

pub loop-left-preserved : goal.loop-left-preserved
loop-left-preserved c =
    let n : ℕ = c.loop-left.left - 1 in
    let one_less : c.loop-left.left ≡ suc n = let t = c.loop-left-test.true in omega (arith, t) in
    let items : List Bool = c.loop-left.marks.items in
    ap (λ (l : List Bool). l ++ replicate n false) c.in_ok-push.ensures.items
    ∙ append_assoc items (false ∷ []) (replicate n false)
    ∙ sym (ap (λ k. items ++ replicate k false) one_less)
    ∙ c.loop-left.invariant

pub returns : goal.returns
returns c =
    let none : c.loop-left.left ≡ 0 = let t = c.loop-left-test.false in omega (arith, t) in
    let items : List Bool = c.loop-left.marks.items in
    sym (append-nil items) ∙ sym (ap (λ k. items ++ replicate k false) none) ∙ c.loop-left.invariant
