use Rattle.std.proofs.Common.{rules, ◌≡◌, ◌∙◌, ℤ, subst, w64, to_z, of_z}
use Rattle.bfs_node.specs.Page.{right_of}
use Rattle.bfs_pages.specs.Answers.{IsLink}
use Rattle.bfs_pages.specs.Trees.{place_of}
use Rattle.bfs_values.proofs.Lasting.{read-page}
use Rattle.bfs_finding.specs.TreeFaults.{wanted_link}
use Rattle.bfs_walk.specs.declared.fault.TreeWrong.TheVariants.{Link}
use Rattle.bfs_value_walk.proofs.Chaining.{next_wrong}
use Rattle.bfs_value_walk.proofs.chain.look_at_duplicates.Goals as goal

pub returns-in-Err-check_free-clause-wrong : goal.returns-in-Err-check_free-clause-wrong
returns-in-Err-check_free-clause-wrong g c = λ kind b told there.
    let size = g.P.Pages.size c.args.pages.now in
    let r = read-page (g.P.Pages.told c.args.pages.now) size c.args.at c.get.new.into (g.met.P.Pages.sized c.args.pages.now) c.in-Ok.ensures.page c.requires.at b told in
    let signed : to_z w64 (of_z w64 c.right_link-link.result) ≡ c.right_link-link.result = search rules in
    let w = subst (λ (z : ℤ). (c.in-Err-check_free.wrong ≡ Link c.args.at z (wanted_link z)) × ¬ IsLink c.length-size.result (place_of z)) (signed ∙ c.right_link-link.ensures) c.in-Err-check_free.ensures.wrong in
    next_wrong kind b c.args.at size c.get.new.into c.requires.at r.0 r.1 there c.in-Err-check_free.wrong
    (subst (λ n. (c.in-Err-check_free.wrong ≡ Link c.args.at (right_of c.get.new.into) (wanted_link (right_of c.get.new.into))) × ¬ IsLink n (place_of (right_of c.get.new.into))) c.length-size.ensures w)
