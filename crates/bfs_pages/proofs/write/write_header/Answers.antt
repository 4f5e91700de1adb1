use Rattle.std.proofs.Common.{◌≡◌, length, rules}
use Rattle.bfs_pages.proofs.Written.{header-made}
use Rattle.bfs_pages.proofs.write.write_header.Goals as goal

pub returns-in-Ok-clause-made : goal.returns-in-Ok-clause-made
returns-in-Ok-clause-made g c =
    let size : length c.print.new.page ≡ 1024 = search rules in
    header-made (g.P.Pages.told c.args.pages.now) (g.P.Pages.told c.set.new.self) (g.P.Pages.size c.args.pages.now) c.print.new.page c.args.header
    (g.met.P.Pages.sized c.args.pages.now) (g.met.P.Pages.whole c.args.pages.now) c.requires size c.print.ensures.again c.in-Ok.ensures.told
