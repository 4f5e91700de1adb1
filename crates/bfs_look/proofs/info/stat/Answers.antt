use Rattle.std.proofs.Common.{◌∙◌, subst}
use Rattle.bfs_look.specs.Ready.{IsKindOf}
use Rattle.bfs_look.proofs.Looked.{stat_nothing, stat_there}
use Rattle.bfs_look.proofs.info.stat.Goals as goal

pub returns-in-None-clause-reads : goal.returns-in-None-clause-reads
returns-in-None-clause-reads g c m tree lists st told ready same = stat_nothing st tree same c.args.id (subst (IsKindOf tree c.args.id) c.in-None.is (c.in-Ok.ensures.found m tree lists told ready))

pub returns-in-Ok-info_at-clause-reads : goal.returns-in-Ok-info_at-clause-reads
returns-in-Ok-info_at-clause-reads g c m tree lists st told ready same =
    let n = subst (IsKindOf tree c.args.id) c.in-Some.is (c.in-Ok.ensures.found m tree lists told ready) in
    stat_there st tree same c.args.id n.0 n.1 c.in-Ok-info_at.info (c.in-Ok-info_at.ensures.info c.args.bitmap.now m tree lists n.0 (c.in-Ok.ensures.told ∙ told) ready n.1)

pub returns-in-Err-info_at-clause-reads : goal.returns-in-Err-info_at-clause-reads
returns-in-Err-info_at-clause-reads g c m tree lists st told ready same =
    let n = subst (IsKindOf tree c.args.id) c.in-Some.is (c.in-Ok.ensures.found m tree lists told ready) in
    c.in-Err-info_at.ensures.info c.args.bitmap.now m tree lists n.0 (c.in-Ok.ensures.told ∙ told) ready n.1

pub returns-in-Err-clause-reads : goal.returns-in-Err-clause-reads
returns-in-Err-clause-reads g c m tree lists st told ready same = c.in-Err.ensures.found m tree lists told ready
