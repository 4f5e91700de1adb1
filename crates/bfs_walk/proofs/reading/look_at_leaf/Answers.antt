use Rattle.bfs_walk.proofs.Looks.{page_read}
use Rattle.bfs_walk.proofs.reading.look_at_leaf.Goals as goal

pub returns-in-Ok-check_page-clause-read : goal.returns-in-Ok-check_page-clause-read
returns-in-Ok-check_page-clause-read g c =
    page_read (g.P.Pages.told c.args.pages.now) (g.P.Pages.size c.args.pages.now) c.args.at c.get.new.into (g.met.P.Pages.sized c.args.pages.now) c.in-Ok.ensures.page c.requires.at
