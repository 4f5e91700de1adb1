use Rattle.std.proofs.Common.{rules, ◌≡◌, ℕ, ℤ, List, length, IfOk, sym, ap, subst, w64, to_z, of_z}
use Rattle.bfs_pages.specs.Answers.{IsChild}
use Rattle.bfs_pages.proofs.OfKind.{if_some}
use Rattle.bfs_values.specs.Values.{numbers_in}
use Rattle.bfs_finding.specs.TreeFaults.{wanted_link}
use Rattle.bfs_walk.specs.declared.fault.TreeWrong.TheVariants.{Link}
use Rattle.bfs_value_walk.proofs.Faulty.{chain_link_wrong}
use Rattle.bfs_value_walk.proofs.value.take_named_chain.Goals as goal

pub returns-in-Err-clause-wrong : goal.returns-in-Err-clause-wrong
returns-in-Err-clause-wrong g c = λ kind b done rest names key told e next met.
    let size = g.P.Pages.size c.args.pages.now in
    let long = if_some (λ (z : List ℕ). length z ≡ size) _ b (g.met.P.Pages.sized c.args.pages.now) told in
    let signed : to_z w64 (of_z w64 c.args.value) ≡ c.args.value = search rules in
    chain_link_wrong kind b c.args.leaf size c.args.page key c.args.value next.there long c.in-Err.wrong
    (subst (λ n. (c.in-Err.wrong ≡ Link c.args.leaf c.args.value (wanted_link c.args.value)) × ¬ IsChild n c.args.page) c.length.ensures
    (subst (λ (z : ℤ). (c.in-Err.wrong ≡ Link c.args.leaf z (wanted_link z)) × ¬ IsChild c.length.result c.args.page) signed c.in-Err.ensures.wrong)) e

pub returns-clause-met : goal.returns-clause-met
returns-clause-met g c = λ kind b done names key told e met. c.take_chain.ensures.met kind b done (key, c.args.value) names told e met

pub returns-clause-numbers : goal.returns-clause-numbers
returns-clause-numbers g c = λ kind b done names told e met. subst (λ (ns : List ℕ). IfOk c.take_chain.result (λ n. n ≡ ns)) (sym (ap (numbers_in b) e)) (c.take_chain.ensures.numbers kind b done names told met)

pub returns-clause-wrong : goal.returns-clause-wrong
returns-clause-wrong g c = λ kind b done rest names key told e next met. c.take_chain.ensures.wrong kind b done rest (key, c.args.value) names told next.rows e met
