use Rattle.bfs_hold.proofs.Allowed.{allowed, within}
use Rattle.bfs_hold.proofs.allowance.hold_allowance.Goals as goal

pub returns-in-Ok-clause-allowed : goal.returns-in-Ok-clause-allowed
returns-in-Ok-clause-allowed g c m tree lists id at count told ready =
    allowed c.args.sup.now c.args.bitmap.now m tree lists ready id at count c.in-Ok.indices (c.in-Ok.ensures.found m tree lists told ready) c.counted.result c.counted.ensures.value

pub returns-in-Ok-clause-within : goal.returns-in-Ok-clause-within
returns-in-Ok-clause-within g c m tree lists id at count told ready =
    within c.args.sup.now c.args.bitmap.now m tree lists ready id at count c.counted.result (returns-in-Ok-clause-allowed g c m tree lists id at count told ready)

pub returns-in-Err-clause-allowed : goal.returns-in-Err-clause-allowed
returns-in-Err-clause-allowed g c m tree lists id at count told ready = c.in-Err.ensures.found m tree lists told ready
