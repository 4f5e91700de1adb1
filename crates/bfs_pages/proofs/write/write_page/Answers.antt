use Rattle.bfs_pages.proofs.Written.{set-made}
use Rattle.bfs_pages.proofs.write.write_page.Goals as goal

pub returns-in-Ok-clause-made : goal.returns-in-Ok-clause-made
returns-in-Ok-clause-made g c =
    set-made (g.P.Pages.told c.args.pages.now) (g.P.Pages.told c.set.new.self) c.args.at (g.P.Pages.size c.args.pages.now) c.args.page.now
    (g.met.P.Pages.sized c.args.pages.now) (g.met.P.Pages.whole c.args.pages.now) c.requires.at c.requires.page c.in-Ok.ensures.told
