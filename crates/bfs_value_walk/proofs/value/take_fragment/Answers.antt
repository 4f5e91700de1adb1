use Rattle.std.proofs.Common.{◌≡◌, ◌++◌, ◌∷◌, [], ◌∙◌, ℕ, List, length, sym, subst}
use Rattle.bfs_pages.proofs.OfKind.{if_some}
use Rattle.bfs_values.specs.Rows.{rows_in}
use Rattle.bfs_value_walk.specs.Met.{AreMarked}
use Rattle.bfs_value_walk.proofs.Meeting.{row_in_all}
use Rattle.bfs_value_walk.proofs.value.take_fragment.Goals as goal

pub returns-in-Err-clause-wrong : goal.returns-in-Err-clause-wrong
returns-in-Err-clause-wrong g c = λ kind b done rest r told split e met.
    c.in-Err.ensures.wrong kind b r told (row_in_all (rows_in kind b) done rest r split) e

pub returns-in-Ok-claim_fragment-clause-met : goal.returns-in-Ok-claim_fragment-clause-met
returns-in-Ok-claim_fragment-clause-met g c = λ kind b done r told e met.
    let size = g.P.Pages.size c.args.pages.now in
    let long = if_some (λ (z : List ℕ). length z ≡ size) _ b (g.met.P.Pages.sized c.args.pages.now) told in
    subst (λ s. AreMarked kind b (done ++ r ∷ []) s c.claim_fragment.new.marks c.claim_fragment.new.names) c.length-size.ensures
    (c.in-Ok-claim_fragment.ensures.met kind b done r (long ∙ sym c.length-size.ensures) e (c.in-Ok.ensures.good b told) (subst (λ s. AreMarked kind b done s c.args.marks.now c.args.names.now) (sym c.length-size.ensures) met))

pub returns-in-Err-claim_fragment-clause-wrong : goal.returns-in-Err-claim_fragment-clause-wrong
returns-in-Err-claim_fragment-clause-wrong g c = λ kind b done rest r told split e met.
    let size = g.P.Pages.size c.args.pages.now in
    let long = if_some (λ (z : List ℕ). length z ≡ size) _ b (g.met.P.Pages.sized c.args.pages.now) told in
    c.in-Err-claim_fragment.ensures.wrong kind b done rest r (long ∙ sym c.length-size.ensures) split e (c.in-Ok.ensures.good b told) (subst (λ s. AreMarked kind b done s c.args.marks.now c.args.names.now) (sym c.length-size.ensures) met)
