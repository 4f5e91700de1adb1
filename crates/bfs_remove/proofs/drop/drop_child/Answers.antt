use Rattle.std.proofs.Common.{◌≡◌, ℕ, List, Option, length, sym, ◌∙◌, subst}
use Rattle.bfs_pages.specs.Pages.{HasLength}
use Rattle.bfs_pages.specs.Answers.{IsInteriorPage}
use Rattle.bfs_pages.specs.Trees.{page_in}
use Rattle.bfs_pages.proofs.OfKind.{if_some}
use Rattle.bfs_remove.proofs.Mending.{child-dropped}
use Rattle.bfs_remove.proofs.drop.drop_child.Goals as goal

pub returns-in-Ok-write_page-clause-made : goal.returns-in-Ok-write_page-clause-made
returns-in-Ok-write_page-clause-made g c b e =
    let r : c.read_interior.new.page ≡ page_in b c.args.at = if_some (λ b. c.read_interior.new.page ≡ page_in b c.args.at) (g.P.Pages.told c.args.pages.now) b c.in-Ok.ensures.read e in
    let size : length b ≡ g.P.Pages.size c.args.pages.now = subst (λ (t : Option (List ℕ)). HasLength t (g.P.Pages.size c.args.pages.now)) e (g.met.P.Pages.sized c.args.pages.now) in
    let s = c.in-Ok-write_page.ensures.made b (c.in-Ok.ensures.told ∙ e) in (
      s.0,
      s.1,
      child-dropped c.args.kind b s.0 c.read_interior.new.page c.drop_link.new.page c.args.at c.place_for-i.result c.args.key.now s.2 r
          (subst (λ (n : ℕ). IsInteriorPage c.args.kind n c.read_interior.new.page) (sym size) c.in-Ok.ensures.interior) c.in-Ok.ensures.page c.drop_link.ensures.page c.drop_link.ensures.rows c.drop_link.ensures.last c.drop_link.ensures.left c.drop_link.ensures.right
          c.place_for-i.ensures.first,
    )
