use Rattle.bfs_key_walk.proofs.Filed.{kept_here}
use Rattle.bfs_key_walk.proofs.gather.keys_at.Goals as goal

pub returns : goal.returns
returns c = kept_here c.args.facts.now c.args.i c.facts_at.result c.requires (c.facts_at.ensures c.facts_at.result)
