use Rattle.std.proofs.Common.{◌∙◌, sym, ap, subst}
use Rattle.std.specs.List.{AllByRecursion, flat_map}
use Rattle.bfs_pages.specs.Trees.{state_of}
use Rattle.bfs_tree_check.specs.Levels.{AreInside, met_in}
use Rattle.bfs_tree_check.specs.Ordered.{IsKnown}
use Rattle.bfs_tree_check.proofs.check.check_tree.Goals as goal

pub check_order-requires-clause-inside : goal.check_order-requires-clause-inside
check_order-requires-clause-inside g c =
    subst (λ n. AreInside n c.deref.result.now) (sym c.in-Ok.ensures.size) (subst (AreInside (g.P.Pages.size c.args.pages.now)) (sym c.deref.ensures.value) c.in-Ok.ensures.inside)

pub returns-in-Ok-check_order-clause-ascends : goal.returns-in-Ok-check_order-clause-ascends
returns-in-Ok-check_order-clause-ascends g c = λ b told root levels free marks.
    let s = c.in-Ok.ensures.shaped b told root levels free marks in
    c.in-Ok-check_order.ensures.ascends b (c.in-Ok.ensures.told ∙ told) (s.met ∙ sym (ap (flat_map (met_in (state_of c.args.kind b).bodies 0)) c.deref.ensures.value)) (subst (AllByRecursion (IsKnown c.args.kind b)) (sym c.deref.ensures.value) s.known)

pub returns-in-Err-check_order-clause-wrong : goal.returns-in-Err-check_order-clause-wrong
returns-in-Err-check_order-clause-wrong g c = λ b told root levels free marks.
    let s = c.in-Ok.ensures.shaped b told root levels free marks in
    c.in-Err-check_order.ensures.wrong b (c.in-Ok.ensures.told ∙ told) (s.met ∙ sym (ap (flat_map (met_in (state_of c.args.kind b).bodies 0)) c.deref.ensures.value)) (subst (AllByRecursion (IsKnown c.args.kind b)) (sym c.deref.ensures.value) s.known)
