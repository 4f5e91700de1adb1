use Rattle.std.proofs.Common.{rules, ◌≡◌, ◌∙◌, ℕ, List, length, ap, sym, w64, to_z, of_z}
use Rattle.bfs_node.specs.Page.{left_of, right_of}
use Rattle.bfs_pages.specs.Trees.{page_in}
use Rattle.bfs_pages.proofs.OfKind.{if_some}
use Rattle.bfs_walk.proofs.Looks.{page_read}
use Rattle.bfs_tree_check.proofs.Neighbours.{beside_wrong}
use Rattle.bfs_tree_check.proofs.links.look_beside.Goals as goal

pub returns-in-Ok-check_beside-clause-left : goal.returns-in-Ok-check_beside-clause-left
returns-in-Ok-check_beside-clause-left g c = λ b told.
    let page = if_some (λ (z : List ℕ). c.get.new.into ≡ page_in z c.args.at) _ b (page_read (g.P.Pages.told c.args.pages.now) (g.P.Pages.size c.args.pages.now) c.args.at c.get.new.into (g.met.P.Pages.sized c.args.pages.now) c.in-Ok.ensures.page c.requires.at) told in
    let left : to_z w64 (of_z w64 c.args.left) ≡ c.args.left = search rules in
    sym (ap left_of page) ∙ c.in-Ok-check_beside.ensures.left ∙ left

pub returns-in-Ok-check_beside-clause-right : goal.returns-in-Ok-check_beside-clause-right
returns-in-Ok-check_beside-clause-right g c = λ b told.
    let page = if_some (λ (z : List ℕ). c.get.new.into ≡ page_in z c.args.at) _ b (page_read (g.P.Pages.told c.args.pages.now) (g.P.Pages.size c.args.pages.now) c.args.at c.get.new.into (g.met.P.Pages.sized c.args.pages.now) c.in-Ok.ensures.page c.requires.at) told in
    let right : to_z w64 (of_z w64 c.args.right) ≡ c.args.right = search rules in
    sym (ap right_of page) ∙ c.in-Ok-check_beside.ensures.right ∙ right

pub returns-in-Err-check_beside-clause-wrong : goal.returns-in-Err-check_beside-clause-wrong
returns-in-Err-check_beside-clause-wrong g c = λ kind b front back told leaves left right.
    let page = if_some (λ (z : List ℕ). c.get.new.into ≡ page_in z c.args.at) _ b (page_read (g.P.Pages.told c.args.pages.now) (g.P.Pages.size c.args.pages.now) c.args.at c.get.new.into (g.met.P.Pages.sized c.args.pages.now) c.in-Ok.ensures.page c.requires.at) told in
    let long = if_some (λ (z : List ℕ). length z ≡ g.P.Pages.size c.args.pages.now) _ b (g.met.P.Pages.sized c.args.pages.now) told in
    let same_left : to_z w64 (of_z w64 c.args.left) ≡ c.args.left = search rules in
    let same_right : to_z w64 (of_z w64 c.args.right) ≡ c.args.right = search rules in
    beside_wrong kind b front back c.args.at (g.P.Pages.size c.args.pages.now) c.get.new.into (to_z w64 (of_z w64 c.args.left)) (to_z w64 (of_z w64 c.args.right)) c.in-Err-check_beside.wrong page long c.requires.at leaves (same_left ∙ left) (same_right ∙ right) c.in-Err-check_beside.ensures.wrong
