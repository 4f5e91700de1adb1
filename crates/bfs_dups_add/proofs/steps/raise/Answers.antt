use Rattle.bfs_dups_add.proofs.Causes.{pages-scant}
use Rattle.bfs_dups.proofs.Composed.{told-whole, vacated}
use Rattle.bfs_dups_add.proofs.steps.raise.Goals as goal

pub returns-in-Err-clause-raised : goal.returns-in-Err-clause-raised
returns-in-Err-clause-raised g c b t front back row e p s l = pages-scant (g.P.Pages.told c.vacate.new.pages) c.in-Err.fault (c.in-Err.ensures.spared b s.reached t s.free e s.tree)

pub returns-in-Err-put_page-clause-raised : goal.returns-in-Err-put_page-clause-raised
returns-in-Err-put_page-clause-raised g c b t front back row e p s l =
    let v = c.in-Ok.ensures.vacated b e p in
    let w = told-whole (g.P.Pages.told c.args.pages.now) (g.P.Pages.size c.args.pages.now) b (g.met.P.Pages.sized c.args.pages.now) (g.met.P.Pages.whole c.args.pages.now) e in
    let o = vacated c.args.kind b v.0 t front row back c.args.slot.0 c.args.slot.1 0 s l w v.2 in
    c.in-Err-put_page.ensures.spared v.0 _ t o.0.free v.1 o.0.tree
