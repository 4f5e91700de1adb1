use Rattle.std.proofs.Common.{◌∙◌}
use Rattle.bfs_look.proofs.Known.{node_told}
use Rattle.bfs_look.proofs.target.target_at.Goals as goal

pub returns-in-Ok-target_by-clause-target : goal.returns-in-Ok-target_by-clause-target
returns-in-Ok-target_by-clause-target g c v m tree lists n told ready is link =
    c.in-Ok-target_by.ensures.target v m tree lists n (c.in-Ok.ensures.told ∙ told) (c.deref.ensures.value ∙ c.in-Ok.ensures.read m told (node_told c.args.site.sup v m tree lists ready c.args.id n is)) ready is link

pub returns-clause-target : goal.returns-clause-target
returns-clause-target g c v m tree lists n told ready is link =
    c.in-Err-target_by.ensures.target v m tree lists n (c.in-Ok.ensures.told ∙ told) (c.deref.ensures.value ∙ c.in-Ok.ensures.read m told (node_told c.args.site.sup v m tree lists ready c.args.id n is)) ready is link
