use Rattle.bfs_cache.proofs.Agreeing.{barrier_keeps_all}
use Rattle.bfs_cache.proofs.laws.barrier_keeps.Goals as goal

pub returns : goal.returns
returns c = barrier_keeps_all
