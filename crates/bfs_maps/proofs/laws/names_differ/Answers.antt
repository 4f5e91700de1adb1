use Rattle.bfs_maps.proofs.MapLaws.{names_differ}
use Rattle.bfs_maps.proofs.laws.names_differ.Goals as goal

pub returns : goal.returns
returns c = names_differ
