use Rattle.std.proofs.Common.{◌≡◌, ap, ◌∙◌, subst, arith, rules, w64, to_z, of_z}
use Rattle.bfs_node.specs.Page.{rows_of, row_in, value_of}
use Rattle.bfs_pages.specs.Answers.{IsChild}
use Rattle.bfs_pages.specs.Trees.{place_of}
use Rattle.bfs_pages.proofs.UpTo.{up_to_next}
use Rattle.bfs_pages.proofs.read.has_children.Goals as goal

pub loop-i-init : goal.loop-i-init
loop-i-init c j h = absurd (omega (arith, h))

pub loop-i-preserved : goal.loop-i-preserved
loop-i-preserved c =
    let signed : to_z w64 (of_z w64 c.row_value.result) ≡ c.row_value.result = search rules in
    let child : IsChild c.args.size c.place.result = c.is_child.ensures.0 c.if-not-is_child.false in
    let is : c.place.result ≡ place_of (value_of (row_in (rows_of c.args.page.now) c.loop-i.i)) = c.place.ensures ∙ ap place_of (signed ∙ c.row_value.ensures) in
    up_to_next (λ j. IsChild c.args.size (place_of (value_of (row_in (rows_of c.args.page.now) j)))) c.loop-i.i c.loop-i.invariant (subst (λ p. IsChild c.args.size p) is child)

pub returns-clause-found : goal.returns-clause-found
returns-clause-found c t i h = c.loop-i.invariant i (omega (arith, h, c.row_count-i-end.ensures, c.loop-i-test.false))
