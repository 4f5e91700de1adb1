use Rattle.bfs_shift.proofs.Held.{directory_is_map}
use Rattle.bfs_shift.proofs.streams.directory_is_map.Goals as goal

pub returns : goal.returns
returns c = directory_is_map
