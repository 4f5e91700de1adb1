use Rattle.std.proofs.Common.{[], ◌++◌, ◌+◌}
use Rattle.bfs_base.specs.Lists.{counted_from}
use Rattle.bfs_passes.proofs.Systems.{told_claimed}
use Rattle.bfs_passes.proofs.system.claim_system.Goals as goal

pub returns-in-Ok-claim-2-clause-claimed : goal.returns-in-Ok-claim-2-clause-claimed
returns-in-Ok-claim-2-clause-claimed c blocks =
    told_claimed c.args.sup.now blocks c.claim-2.new.self c.bitmap_blocks.result c.block_of.result c.from.result c.bitmap_blocks.ensures c.block_of.ensures c.from.ensures
    (c.in-Ok-claim-2.ensures.claimed ([] ++ counted_from 0 (1 + c.bitmap_blocks.result)) (c.in-Ok-claim.ensures.claimed [] c.in-Ok.ensures.claimed))
