use Rattle.bfs_cache.proofs.Agreeing.{write_keeps_all}
use Rattle.bfs_cache.proofs.laws.write_keeps.Goals as goal

pub returns : goal.returns
returns c = write_keeps_all
