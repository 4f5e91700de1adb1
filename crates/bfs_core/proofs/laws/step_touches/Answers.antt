use Rattle.bfs_core.proofs.Times.{step_touches}
use Rattle.bfs_core.proofs.laws.step_touches.Goals as goal

pub returns : goal.returns
returns c = step_touches
