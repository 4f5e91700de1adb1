use Rattle.std.proofs.Common.{rules, ◌≡◌, ◌<◌, ◌∙◌, ℕ, ℤ, List, length, refl, sym, subst, arith, w64, to_z, of_z}
use Rattle.std.proofs.lemmas.Bool.{true≢false}
use Rattle.bfs_node.specs.Page.{rows_of}
use Rattle.bfs_pages.specs.Trees.{page_in}
use Rattle.bfs_pages.proofs.OfKind.{if_some}
use Rattle.bfs_values.specs.Links.{link_in}
use Rattle.bfs_values.specs.declared.link.Link.TheVariants.{Nothing}
use Rattle.bfs_tree_walk.specs.declared.row.OtherRow.{OtherRow}
use Rattle.bfs_tree_walk.proofs.Plainly.{nothing_here, other_here}
use Rattle.bfs_tree_walk.proofs.values.check_leaf.Goals as goal

pub returns-then-is_nothing-clause-wrong : goal.returns-then-is_nothing-clause-wrong
returns-then-is_nothing-clause-wrong g c = λ b told there.
    let page = if_some (λ (z : List ℕ). c.look_at_leaf.new.page ≡ page_in z c.args.at) _ b c.in-Ok.ensures.read told in
    let i = c.first_other-index.result in
    let inside : i < length (rows_of c.look_at_leaf.new.page) = let e = c.row_count.ensures in let t = c.if-index-row_count.false in omega (arith, e, t) in
    let signed : to_z w64 (of_z w64 c.row_value-value.result) ≡ c.row_value-value.result = search rules in
    nothing_here c.args.kind b c.args.at c.look_at_leaf.new.page page c.in-Ok.ensures.good c.in-Ok.ensures.leaf i there inside
    (subst (λ (z : ℤ). link_in z ≡ Nothing) (signed ∙ c.row_value-value.ensures) (c.is_nothing.ensures.0 c.if-is_nothing.true))

pub returns-clause-plain : goal.returns-clause-plain
returns-clause-plain g c = λ b told there.
    let page = if_some (λ (z : List ℕ). c.look_at_leaf.new.page ≡ page_in z c.args.at) _ b c.in-Ok.ensures.read told in
    let i = c.first_other-index.result in
    let inside : i < length (rows_of c.look_at_leaf.new.page) = let e = c.row_count.ensures in let t = c.if-index-row_count.false in omega (arith, e, t) in
    let signed : to_z w64 (of_z w64 c.row_value-value.result) ≡ c.row_value-value.result = search rules in
    let other : OtherRow = record { page = c.args.at; index = i; value = to_z w64 (of_z w64 c.row_value-value.result) } in
    other_here c.args.kind b c.args.at c.look_at_leaf.new.page page c.in-Ok.ensures.good c.in-Ok.ensures.leaf other refl there inside (signed ∙ c.row_value-value.ensures)
    (c.first_other-index.ensures.other inside) (λ e. true≢false (sym (c.is_nothing.ensures.1 e) ∙ c.if-is_nothing.false))
