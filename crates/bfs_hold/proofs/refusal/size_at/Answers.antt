use Rattle.std.proofs.Common.{ap}
use Rattle.bfs_tree.specs.declared.reply.Info.{Info}
use Rattle.bfs_hold.proofs.refusal.size_at.Goals as goal

pub returns-in-Ok-clause-found : goal.returns-in-Ok-clause-found
returns-in-Ok-clause-found g c v m tree lists n told ready is = ap (λ (i : Info). i.size) (c.in-Ok.ensures.info v m tree lists n told ready is)
