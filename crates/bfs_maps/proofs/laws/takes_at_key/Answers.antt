use Rattle.bfs_maps.proofs.MapLaws.{taken_differs}
use Rattle.bfs_maps.proofs.laws.takes_at_key.Goals as goal

pub returns : goal.returns
returns c = taken_differs
