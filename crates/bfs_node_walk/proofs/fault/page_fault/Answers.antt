use Rattle.std.proofs.Common.{subst}
use Rattle.bfs_stream.specs.Faults.{IsGrowCause}
use Rattle.bfs_stream_pages.specs.Steps.{IsUndamaged}
use Rattle.bfs_node_walk.proofs.fault.page_fault.Goals as goal

pub returns-in-Block-clause-wrong : goal.returns-in-Block-clause-wrong
returns-in-Block-clause-wrong c v h = c.block_fault.ensures.wrong v (subst IsUndamaged c.in-Block.is h)

pub returns-in-Block-clause-cause : goal.returns-in-Block-clause-cause
returns-in-Block-clause-cause c old new h = c.block_fault.ensures.cause old new (subst (IsGrowCause 1 old new) c.in-Block.is h)
