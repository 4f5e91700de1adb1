use Rattle.std.proofs.Common.{◌∙◌}
use Rattle.bfs_plain.proofs.Maps.{len-indices}
use Rattle.bfs_plain.proofs.named.index_count.Goals as goal

pub returns : goal.returns
returns c = c.len.ensures.len ∙ len-indices c.args.indices.now.entries c.len.ensures.ordered
