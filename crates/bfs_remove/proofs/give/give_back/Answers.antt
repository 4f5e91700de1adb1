use Rattle.std.proofs.Common.{◌≡◌, ◌<◌, ◌^◌, negsuc, refl, ap, ◌∙◌, rules, w64, to_z, of_z, SFits}
use Rattle.std.proofs.Math.Facts.{to_z_pos}
use Rattle.bfs_node.specs.Page.{links_of}
use Rattle.bfs_node.specs.declared.links.Links.{Links}
use Rattle.bfs_remove.proofs.Mending.{given, same-header, small-child}
use Rattle.bfs_remove.proofs.give.give_back.Goals as goal

pub returns-in-Ok-write_header-clause-made : goal.returns-in-Ok-write_header-clause-made
returns-in-Ok-write_header-clause-made g c b e =
    let set = c.in-Ok.ensures.made b e in
    let hs = c.in-Ok-write_header.ensures.made set.0 set.1 in
    let fits : SFits w64 c.args.header.maximum_size = search rules in
    let small : c.args.at < 2 ^ 63 = small-child (g.P.Pages.size c.args.pages.now) c.args.at c.args.header.maximum_size fits c.requires.size c.requires.at in
    let signed : to_z w64 (of_z w64 c.args.header.free_pointer) ≡ c.args.header.free_pointer = search rules in
    let over : (links_of c.set_overflow_link.new.page).overflow ≡ negsuc 1 = ap (λ (z : Links). z.overflow) c.set_overflow_link.ensures.links in
    let left : (links_of c.set_overflow_link.new.page).left ≡ c.args.header.free_pointer = ap (λ (z : Links). z.left) c.set_overflow_link.ensures.links ∙ ap (λ (z : Links). z.left) c.set_left_link.ensures.links ∙ signed in (
      hs.0,
      hs.1,
      given b set.0 hs.0 c.set_overflow_link.new.page c.args.at c.args.header _ set.2 hs.2 (same-header c.args.header _ c.args.at refl refl refl refl (search rules) (to_z_pos w64 small) (search rules)) over left,
    )
