use Rattle.std.proofs.Common.{◌≡◌, ◌≢◌, ℕ, List, ap, ap₂, ◌∙◌, rules, w64, to_z, of_z}
use Rattle.bfs_node.specs.Page.{links_of}
use Rattle.bfs_node.specs.declared.links.Links.{Links}
use Rattle.bfs_pages.specs.Trees.{page_in, place_of, neighbours_in}
use Rattle.bfs_pages.proofs.OfKind.{if_some}
use Rattle.bfs_remove.proofs.Mending.{mended}
use Rattle.bfs_remove.proofs.mend.mend_right.Goals as goal

pub returns-in-Ok-write_beside-clause-made : goal.returns-in-Ok-write_beside-clause-made
returns-in-Ok-write_beside-clause-made g c b e =
    let signed : to_z w64 (of_z w64 c.args.right) ≡ c.args.right = search rules in
    let read : c.args.at ≢ 0 → c.read_beside.new.page ≡ page_in b c.args.at = λ n. if_some (λ b. c.read_beside.new.page ≡ page_in b c.args.at) (g.P.Pages.told c.args.pages.now) b (c.in-Ok.ensures.read n) e in
    let s = c.in-Ok-write_beside.ensures.made b (c.in-Ok.ensures.told ∙ e) in (
      s.0,
      s.1,
      mended c.args.kind b s.0 c.read_beside.new.page c.set_right_link.new.page c.args.at ((neighbours_in (page_in b c.args.at)).0, place_of c.args.right) s.2 read c.in-Ok.ensures.page (λ n. (c.in-Ok.ensures.leaf n).overflow)
          c.set_right_link.ensures.rows c.set_right_link.ensures.page (ap (λ (z : Links). z.overflow) c.set_right_link.ensures.links)
          (λ n. ap (λ (z : Links). (place_of z.left, place_of z.right)) c.set_right_link.ensures.links ∙ ap₂ (λ x y. (x, y)) (ap (λ (z : List ℕ). place_of (links_of z).left) (read n)) (ap place_of signed)),
    )
