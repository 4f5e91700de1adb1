use Rattle.bfs_cache.proofs.Agreeing.{failed_write_keeps_all}
use Rattle.bfs_cache.proofs.laws.failed_write_keeps.Goals as goal

pub returns : goal.returns
returns c = failed_write_keeps_all
