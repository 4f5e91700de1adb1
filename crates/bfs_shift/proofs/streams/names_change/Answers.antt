use Rattle.bfs_shift.proofs.Names.{names_changed}
use Rattle.bfs_shift.proofs.streams.names_change.Goals as goal

pub returns : goal.returns
returns c = names_changed
