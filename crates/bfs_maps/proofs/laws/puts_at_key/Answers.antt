use Rattle.bfs_maps.proofs.MapLaws.{put_differs}
use Rattle.bfs_maps.proofs.laws.puts_at_key.Goals as goal

pub returns : goal.returns
returns c = put_differs
