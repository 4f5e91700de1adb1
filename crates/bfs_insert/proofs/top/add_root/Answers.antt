use Rattle.std.proofs.Common.{◌≡◌, ◌<◌, ◌^◌, ℕ, List, Option, length, refl, ap, sym, ◌∙◌, subst, rules, w64, SFits}
use Rattle.std.proofs.Math.Facts.{to_z_pos}
use Rattle.bfs_node.specs.declared.links.Links.{Links}
use Rattle.bfs_txn.specs.Pages.{HasLength}
use Rattle.bfs_pages.specs.Answers.{IsChild, IsHeaderFor}
use Rattle.bfs_pages.proofs.Faulted.{failed-spared}
use Rattle.bfs_insert.proofs.Raised.{raised, small-child}
use Rattle.bfs_insert.proofs.top.add_root.Goals as goal

pub returns-in-Ok-write_header-clause-top : goal.returns-in-Ok-write_header-clause-top
returns-in-Ok-write_header-clause-top g c b e =
    let tk = c.in-Ok.ensures.taken b e in
    let set = c.in-Ok-write_page.ensures.made tk.0 tk.1 in
    let hs = c.in-Ok-write_header.ensures.made set.0 set.1 in
    let size : length tk.0 ≡ g.P.Pages.size c.take_page.new.pages = subst (λ (t : Option (List ℕ)). HasLength t (g.P.Pages.size c.take_page.new.pages)) tk.1 (g.met.P.Pages.sized c.take_page.new.pages) in
    let fits : SFits w64 c.in-Ok.fresh.header.maximum_size = search rules in
    let small : c.in-Ok.fresh.page < 2 ^ 63 = small-child (g.P.Pages.size c.take_page.new.pages) c.in-Ok.fresh.page c.in-Ok.fresh.header.maximum_size fits c.in-Ok.ensures.header.tree.maximum c.in-Ok.ensures.page in (
      hs.0,
      hs.1,
      raised c.args.kind b tk.0 set.0 hs.0 c.in-Ok.fresh.page c.in-Ok.fresh.header _ c.set_overflow_link.new.page tk.2 set.2 hs.2
          (subst (λ (n : ℕ). IsHeaderFor c.args.kind n c.in-Ok.fresh.header) (sym size) c.in-Ok.ensures.header)
          (subst (λ (n : ℕ). IsChild n c.in-Ok.fresh.page) (sym size) c.in-Ok.ensures.page)
          (c.set_overflow_link.ensures.page c.blank.ensures.page)
          (c.set_overflow_link.ensures.rows ∙ c.blank.ensures.rows)
          (ap (λ (z : Links). z.overflow) c.set_overflow_link.ensures.links ∙ search rules)
          refl refl refl refl (to_z_pos w64 small) (search rules) (search rules),
    )

pub returns-in-Err-write_header-clause-spared : goal.returns-in-Err-write_header-clause-spared
returns-in-Err-write_header-clause-spared g c b reached t fs e tree = failed-spared (g.P.Pages.told c.write_header.new.pages) (g.P.Pages.is_cause c.write_page.new.pages c.write_header.new.pages) c.in-Err-write_header.fault c.in-Err-write_header.ensures.failed
