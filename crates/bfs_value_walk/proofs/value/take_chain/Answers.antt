use Rattle.std.proofs.Common.{◌≡◌, ◌∙◌, ℕ, List, length, sym, ap, subst}
use Rattle.bfs_base.specs.Lists.{IsOnce}
use Rattle.bfs_pages.specs.Answers.{IsChild}
use Rattle.bfs_pages.proofs.OfKind.{if_some}
use Rattle.bfs_values.specs.Rows.{rows_in}
use Rattle.bfs_values.specs.Values.{in_order}
use Rattle.bfs_walk.specs.Wrong.{IsWrongTree}
use Rattle.bfs_tree_check.specs.Marked.{marked}
use Rattle.bfs_value_walk.specs.Chained.{IsInTurn}
use Rattle.bfs_value_walk.specs.Named.{named, parted}
use Rattle.bfs_value_walk.proofs.Faulty.{chain_wrong}
use Rattle.bfs_value_walk.proofs.Meeting.{chain_met, own_chain, row_in_all}
use Rattle.bfs_value_walk.proofs.Reaching.{header_marked}
use Rattle.bfs_value_walk.proofs.value.take_chain.Goals as goal

pub returns-in-Err-clause-wrong : goal.returns-in-Err-clause-wrong
returns-in-Err-clause-wrong g c = λ kind b done rest r names told split e met.
    let size = g.P.Pages.size c.args.pages.now in
    c.in-Err.ensures.wrong kind b told (own_chain kind b done r (marked size c.args.marks.now) (parted size names) (named size names) met rest split c.args.first e)

pub returns-in-Some-clause-met : goal.returns-in-Some-clause-met
returns-in-Some-clause-met g c = λ kind b done r names told e met.
    let size = g.P.Pages.size c.args.pages.now in
    let long = if_some (λ (z : List ℕ). length z ≡ size) _ b (g.met.P.Pages.sized c.args.pages.now) told in
    let child = subst (λ n. IsChild n c.args.first) (sym long) c.requires.first in
    let chain = c.in-Ok.ensures.chained b told (header_marked kind b done size c.args.marks.now (parted size names) (named size names) met) in
    let turn = subst (IsInTurn c.claim_chain.new.numbers.items) c.in-Some.is c.in-Ok-in_turn.ensures in
    chain_met kind b done r (marked size c.args.marks.now) (parted size names) (named size names) met c.args.first (marked size c.claim_chain.new.marks) e
    (child, chain.ends, chain.good, subst IsOnce chain.are turn.0) chain.count

pub returns-in-Some-clause-numbers : goal.returns-in-Some-clause-numbers
returns-in-Some-clause-numbers g c = λ kind b done names told met.
    let size = g.P.Pages.size c.args.pages.now in
    let chain = c.in-Ok.ensures.chained b told (header_marked kind b done size c.args.marks.now (parted size names) (named size names) met) in
    let turn = subst (IsInTurn c.claim_chain.new.numbers.items) c.in-Some.is c.in-Ok-in_turn.ensures in
    turn.1 ∙ ap in_order chain.are

pub returns-in-None-clause-wrong : goal.returns-in-None-clause-wrong
returns-in-None-clause-wrong g c = λ kind b done rest r names told split e met.
    let size = g.P.Pages.size c.args.pages.now in
    let long = if_some (λ (z : List ℕ). length z ≡ size) _ b (g.met.P.Pages.sized c.args.pages.now) told in
    let child = subst (λ n. IsChild n c.args.first) (sym long) c.requires.first in
    let chain = c.in-Ok.ensures.chained b told (header_marked kind b done size c.args.marks.now (parted size names) (named size names) met) in
    let turn = subst (IsInTurn c.claim_chain.new.numbers.items) c.in-None.is c.in-Ok-in_turn.ensures in
    subst (IsWrongTree kind b) (sym c.content_of.ensures)
    (chain_wrong kind b c.args.first r child (row_in_all (rows_in kind b) done rest r split) e chain.ends (λ o. turn (subst IsOnce (sym chain.are) o)))
