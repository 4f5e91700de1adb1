use Rattle.bfs_shift.proofs.Following.{agrees_follows}
use Rattle.bfs_shift.proofs.trees.agrees_follows.Goals as goal

pub returns : goal.returns
returns c = λ old new lists now e plain plain_now changes agrees follow pairs. agrees_follows old new e plain plain_now changes lists now agrees follow pairs
