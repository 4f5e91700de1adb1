use Rattle.std.proofs.Common.{◌≡◌, ◌≢◌, ℕ, List, ap, ap₂, ◌∙◌, rules, w64, to_z, of_z}
use Rattle.bfs_node.specs.Page.{links_of}
use Rattle.bfs_node.specs.declared.links.Links.{Links}
use Rattle.bfs_pages.specs.Trees.{page_in, place_of, neighbours_in}
use Rattle.bfs_pages.proofs.OfKind.{if_some}
use Rattle.bfs_remove.proofs.Mending.{mended}
use Rattle.bfs_remove.proofs.mend.mend_left.Goals as goal

pub returns-in-Ok-write_beside-clause-made : goal.returns-in-Ok-write_beside-clause-made
returns-in-Ok-write_beside-clause-made g c b e =
    let signed : to_z w64 (of_z w64 c.args.left) ≡ c.args.left = search rules in
    let read : c.args.at ≢ 0 → c.read_beside.new.page ≡ page_in b c.args.at = λ n. if_some (λ b. c.read_beside.new.page ≡ page_in b c.args.at) (g.P.Pages.told c.args.pages.now) b (c.in-Ok.ensures.read n) e in
    let s = c.in-Ok-write_beside.ensures.made b (c.in-Ok.ensures.told ∙ e) in (
      s.0,
      s.1,
      mended c.args.kind b s.0 c.read_beside.new.page c.set_left_link.new.page c.args.at (place_of c.args.left, (neighbours_in (page_in b c.args.at)).1) s.2 read c.in-Ok.ensures.page (λ n. (c.in-Ok.ensures.leaf n).overflow)
          c.set_left_link.ensures.rows c.set_left_link.ensures.page (ap (λ (z : Links). z.overflow) c.set_left_link.ensures.links)
          (λ n. ap (λ (z : Links). (place_of z.left, place_of z.right)) c.set_left_link.ensures.links ∙ ap₂ (λ x y. (x, y)) (ap place_of signed) (ap (λ (z : List ℕ). place_of (links_of z).right) (read n))),
    )
