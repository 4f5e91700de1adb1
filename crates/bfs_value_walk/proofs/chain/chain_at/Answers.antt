use Rattle.std.proofs.Common.{◌≡◌, ◌+◌, ℕ, List, [], ◌∷◌, length, ◌∙◌, refl, sym, subst}
use Rattle.bfs_base.specs.Lists.{times}
use Rattle.bfs_pages.specs.Answers.{IsChild}
use Rattle.bfs_pages.proofs.OfKind.{if_some}
use Rattle.bfs_values.proofs.Chains.{the-child}
use Rattle.bfs_walk.specs.Wrong.{IsWrongTree}
use Rattle.bfs_tree_check.specs.Marked.{marked}
use Rattle.bfs_value_walk.proofs.Chaining.{there_now, page_twice, chain_on, chain_ends}
use Rattle.bfs_value_walk.proofs.chain.chain_at.Goals as goal

pub returns-in-Err-clause-wrong : goal.returns-in-Err-clause-wrong
returns-in-Err-clause-wrong g c = λ kind b first done left before told own h.
    let size = g.P.Pages.size c.args.pages.now in
    c.in-Err.ensures.wrong kind b told (own.pages c.args.at (there_now b first done left c.args.at c.args.numbers.now.items before (marked size c.args.marks.now) h))

pub returns-then-not-mark-clause-wrong : goal.returns-then-not-mark-clause-wrong
returns-then-not-mark-clause-wrong g c = λ kind b first done left before told own h.
    let size = g.P.Pages.size c.args.pages.now in
    let long = if_some (λ (z : List ℕ). length z ≡ size) _ b (g.met.P.Pages.sized c.args.pages.now) told in
    subst (IsWrongTree kind b) (sym c.met_twice.ensures)
    (page_twice b first done left c.args.at c.args.numbers.now.items before (marked size c.args.marks.now) h kind own (subst (λ n. IsChild n c.args.at) (sym long) c.requires.at)
    (subst (λ s. marked s c.args.marks.now c.args.at ≡ 1) c.length-size.ensures (c.if-not-mark.ensures.twice refl)))

pub returns-clause-chaining : goal.returns-clause-chaining
returns-clause-chaining g c = λ b first done left before told h off.
    let size = g.P.Pages.size c.args.pages.now in
    let long = if_some (λ (z : List ℕ). length z ≡ size) _ b (g.met.P.Pages.sized c.args.pages.now) told in
    chain_on b first done left c.args.at c.args.numbers.now.items before (marked size c.args.marks.now) h (c.in-Ok.ensures.good b told) c.look_at_duplicates.new.numbers.items (marked size c.mark.new.marks) (c.in-Ok.ensures.numbers b told)
    (subst (λ s. (x : ℕ) → marked s c.mark.new.marks x ≡ marked s c.args.marks.now x + times x (c.args.at ∷ [])) c.length-size.ensures (c.if-not-mark.ensures.once refl))
    c.in-Ok.next (c.in-Ok.ensures.next b told) off (subst (λ n. IsChild n c.in-Ok.next) (sym long) (the-child size c.in-Ok.next c.in-Ok.ensures.link off))

pub returns-clause-chained : goal.returns-clause-chained
returns-clause-chained g c = λ b first done left before told h none.
    let size = g.P.Pages.size c.args.pages.now in
    chain_ends b first done left c.args.at c.args.numbers.now.items before (marked size c.args.marks.now) h (c.in-Ok.ensures.good b told) c.look_at_duplicates.new.numbers.items (marked size c.mark.new.marks) (c.in-Ok.ensures.numbers b told)
    (subst (λ s. (x : ℕ) → marked s c.mark.new.marks x ≡ marked s c.args.marks.now x + times x (c.args.at ∷ [])) c.length-size.ensures (c.if-not-mark.ensures.once refl))
    (sym (c.in-Ok.ensures.next b told) ∙ none)
