use Rattle.std.proofs.Common.{rules, ◌≡◌, ◌∙◌, ℤ, negsuc, Some, inl, inr, sym, ap, subst, w64, to_z, of_z}
use Rattle.std.proofs.lemmas.Bool.{true≢false}
use Rattle.bfs_node.specs.Page.{left_of}
use Rattle.bfs_pages.specs.Answers.{IsLink}
use Rattle.bfs_pages.specs.Trees.{place_of, next_if}
use Rattle.bfs_finding.specs.TreeFaults.{wanted_link}
use Rattle.bfs_walk.specs.declared.fault.TreeWrong.TheVariants.{Link}
use Rattle.bfs_tree_check.proofs.free.next_free.Goals as goal

pub returns-then-not-is_free-clause-wrong : goal.returns-then-not-is_free-clause-wrong
returns-then-not-is_free-clause-wrong c =
    let found : to_z w64 (of_z w64 c.overflow_link.result) ≡ c.overflow_link.result = search rules in
    inl (ap (λ (z : ℤ). Link c.args.at z (negsuc 1)) (found ∙ c.overflow_link.ensures), λ e. true≢false (sym (c.is_free.ensures.1 e) ∙ c.if-not-is_free.true))

pub returns-in-Err-clause-wrong : goal.returns-in-Err-clause-wrong
returns-in-Err-clause-wrong c =
    let link : to_z w64 (of_z w64 c.left_link-link.result) ≡ c.left_link-link.result = search rules in
    let w = subst (λ (z : ℤ). (c.in-Err.wrong ≡ Link c.args.at z (wanted_link z)) × ¬ IsLink c.args.size (place_of z)) (link ∙ c.left_link-link.ensures) c.in-Err.ensures.wrong in
    inr (c.is_free.ensures.0 c.if-not-is_free.false, w.0, w.1)

pub returns-in-Ok-clause-next : goal.returns-in-Ok-clause-next
returns-in-Ok-clause-next c =
    let link : to_z w64 (of_z w64 c.left_link-link.result) ≡ c.left_link-link.result = search rules in
    ap (λ (z : ℤ). next_if z (left_of c.args.page.now)) (c.is_free.ensures.0 c.if-not-is_free.false)
    ∙ sym (ap Some (c.place.ensures ∙ ap place_of (link ∙ c.left_link-link.ensures)))

pub returns-in-Ok-clause-link : goal.returns-in-Ok-clause-link
returns-in-Ok-clause-link c = subst (IsLink c.args.size) (sym c.place.ensures) c.in-Ok.ensures.sound
