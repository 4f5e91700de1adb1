use Rattle.std.proofs.Common.{subst}
use Rattle.bfs_stream.specs.Faults.{IsGrowCause}
use Rattle.bfs_stream_pages.specs.Steps.{IsUndamaged}
use Rattle.bfs_sound.specs.Inodes.{content}
use Rattle.bfs_walk.specs.Wrong.{IsWalkCause}
use Rattle.bfs_tree_check.specs.Amiss.{IsAmiss}
use Rattle.bfs_node_walk.proofs.fault.tree_fault.Goals as goal

pub returns-in-Wrong-clause-wrong : goal.returns-in-Wrong-clause-wrong
returns-in-Wrong-clause-wrong c v kind has stream amiss undamaged = c.finding_of.ensures v kind has stream (subst (IsAmiss kind (content v c.args.owner)) c.in-Wrong.is amiss)

pub returns-in-Pages-clause-wrong : goal.returns-in-Pages-clause-wrong
returns-in-Pages-clause-wrong c v kind has stream amiss undamaged = c.page_fault.ensures.wrong v (subst (IsWalkCause IsUndamaged) c.in-Pages.is undamaged)

pub returns-in-Pages-clause-cause : goal.returns-in-Pages-clause-cause
returns-in-Pages-clause-cause c old new h = c.page_fault.ensures.cause old new (subst (IsWalkCause (IsGrowCause 1 old new)) c.in-Pages.is h)
