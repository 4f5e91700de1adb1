use Rattle.std.proofs.Common.{rules, ◌≡◌, ◌≢◌, ◌∙◌, ℤ, inl, inr, sym, subst, w64, to_z, of_z}
use Rattle.bfs_node.specs.Page.{left_of, right_of}
use Rattle.bfs_walk.specs.declared.fault.TreeWrong.TheVariants.{Link}
use Rattle.bfs_tree_check.proofs.links.check_beside.Goals as goal

pub returns-in-Ok-check_same-clause-left : goal.returns-in-Ok-check_same-clause-left
returns-in-Ok-check_same-clause-left c =
    let left : to_z w64 (of_z w64 c.args.left) ≡ c.args.left = search rules in
    let found : to_z w64 (of_z w64 c.left_link.result) ≡ c.left_link.result = search rules in
    sym (found ∙ c.left_link.ensures) ∙ c.in-Ok.ensures.same ∙ left

pub returns-in-Ok-check_same-clause-right : goal.returns-in-Ok-check_same-clause-right
returns-in-Ok-check_same-clause-right c =
    let right : to_z w64 (of_z w64 c.args.right) ≡ c.args.right = search rules in
    let found : to_z w64 (of_z w64 c.right_link.result) ≡ c.right_link.result = search rules in
    sym (found ∙ c.right_link.ensures) ∙ c.in-Ok-check_same.ensures.same ∙ right

pub returns-in-Err-clause-wrong : goal.returns-in-Err-clause-wrong
returns-in-Err-clause-wrong c =
    let left : to_z w64 (of_z w64 c.args.left) ≡ c.args.left = search rules in
    let found : to_z w64 (of_z w64 c.left_link.result) ≡ c.left_link.result = search rules in
    inl (subst (λ (y : ℤ). (c.in-Err.wrong ≡ Link c.args.at (left_of c.args.page.now) y) × (left_of c.args.page.now ≢ y)) left
    (subst (λ (z : ℤ). (c.in-Err.wrong ≡ Link c.args.at z (to_z w64 (of_z w64 c.args.left))) × (z ≢ to_z w64 (of_z w64 c.args.left))) (found ∙ c.left_link.ensures) c.in-Err.ensures.wrong))

pub returns-in-Err-check_same-clause-wrong : goal.returns-in-Err-check_same-clause-wrong
returns-in-Err-check_same-clause-wrong c =
    let right : to_z w64 (of_z w64 c.args.right) ≡ c.args.right = search rules in
    let found : to_z w64 (of_z w64 c.right_link.result) ≡ c.right_link.result = search rules in
    inr (subst (λ (y : ℤ). (c.in-Err-check_same.wrong ≡ Link c.args.at (right_of c.args.page.now) y) × (right_of c.args.page.now ≢ y)) right
    (subst (λ (z : ℤ). (c.in-Err-check_same.wrong ≡ Link c.args.at z (to_z w64 (of_z w64 c.args.right))) × (z ≢ to_z w64 (of_z w64 c.args.right))) (found ∙ c.right_link.ensures) c.in-Err-check_same.ensures.wrong))
