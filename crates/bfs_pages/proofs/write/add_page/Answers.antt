use Rattle.std.proofs.Common.{refl}
use Rattle.bfs_pages.proofs.Written.{added-made}
use Rattle.bfs_pages.proofs.write.add_page.Goals as goal

pub returns-in-Ok-clause-made : goal.returns-in-Ok-clause-made
returns-in-Ok-clause-made g c =
    added-made (g.P.Pages.told c.args.pages.now) (g.P.Pages.told c.append.new.self) (g.P.Pages.size c.args.pages.now) _
    (g.met.P.Pages.sized c.args.pages.now) (g.met.P.Pages.whole c.args.pages.now) c.requires refl c.in-Ok.ensures.told
