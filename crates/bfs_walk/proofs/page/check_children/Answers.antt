use Rattle.std.proofs.Common.{rules, ◌≡◌, ◌<◌, ◌∙◌, ℤ, sym, subst, arith, w64, to_z, of_z, length}
use Rattle.std.proofs.lemmas.Result.{IfErr-weaker}
use Rattle.bfs_node.specs.Page.{rows_of, row_in, value_of, overflow_of}
use Rattle.bfs_pages.specs.Answers.{IsChild}
use Rattle.bfs_pages.specs.Trees.{place_of}
use Rattle.bfs_pages.proofs.UpTo.{up_to_next}
use Rattle.bfs_finding.specs.TreeFaults.{wanted_link}
use Rattle.bfs_walk.specs.declared.fault.TreeWrong.TheVariants.{Link}
use Rattle.bfs_walk.specs.Wrong.{IsWrongTree}
use Rattle.bfs_walk.proofs.Looks.{child_wrong, last_wrong}
use Rattle.bfs_walk.proofs.page.check_children.Goals as goal

pub loop-i-init : goal.loop-i-init
loop-i-init c j h = absurd (omega (arith, h))

pub loop-i-preserved : goal.loop-i-preserved
loop-i-preserved c =
    let signed : to_z w64 (of_z w64 c.row_value.result) ≡ c.row_value.result = search rules in
    let is = signed ∙ c.row_value.ensures in
    up_to_next (λ j. IsChild c.args.size (place_of (value_of (row_in (rows_of c.args.page.now) j)))) c.loop-i.i c.loop-i.invariant
    (subst (λ (z : ℤ). IsChild c.args.size (place_of z)) is c.in-Ok.ensures.sound)

pub returns-in-Err-clause-wrong : goal.returns-in-Err-clause-wrong
returns-in-Err-clause-wrong c b is long there =
    let i = c.loop-i.i in
    let link : ℤ = value_of (row_in (rows_of c.args.page.now) i) in
    let signed : to_z w64 (of_z w64 c.row_value.result) ≡ c.row_value.result = search rules in
    let wrong = subst (λ (z : ℤ). (c.in-Err.wrong ≡ Link c.args.at z (wanted_link z)) × ¬ IsChild c.args.size (place_of z)) (signed ∙ c.row_value.ensures) c.in-Err.ensures.wrong in
    let inside : i < length (rows_of c.args.page.now) = let e = c.row_count-i-end.ensures in let t = c.loop-i-test.true in omega (arith, e, t) in
    subst (IsWrongTree c.args.kind b) (sym wrong.0) (child_wrong c.args.kind b c.args.at c.args.size c.args.page.now is long there c.requires.good i c.requires.interior inside wrong.1)

pub returns-clause-wrong : goal.returns-clause-wrong
returns-clause-wrong c b is long there =
    let signed : to_z w64 (of_z w64 c.overflow_link.result) ≡ c.overflow_link.result = search rules in
    let link : to_z w64 (of_z w64 c.overflow_link.result) ≡ overflow_of c.args.page.now = signed ∙ c.overflow_link.ensures in
    IfErr-weaker c.check_link-2.result _ (IsWrongTree c.args.kind b)
    (λ wrong h.
    let there' = subst (λ (z : ℤ). (wrong ≡ Link c.args.at z (wanted_link z)) × ¬ IsChild c.args.size (place_of z)) link h in
    subst (IsWrongTree c.args.kind b) (sym there'.0) (last_wrong c.args.kind b c.args.at c.args.size c.args.page.now is long there c.requires.good c.requires.interior there'.1))
    c.check_link-2.ensures.wrong
