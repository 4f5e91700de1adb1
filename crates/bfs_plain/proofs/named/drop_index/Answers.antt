use Rattle.std.proofs.Common.{arith}
use Rattle.bfs_plain.proofs.Maps.{indices-taken, indices-none}
use Rattle.bfs_plain.proofs.named.drop_index.Goals as goal

pub returns-then-len-gt0 : goal.returns-then-len-gt0
returns-then-len-gt0 c = indices-taken c.args.name.now c.args.indices.now.entries c.remove.new.self.entries c.len.ensures.ordered c.remove.ensures.entries

pub returns-else-len-gt0 : goal.returns-else-len-gt0
returns-else-len-gt0 c = indices-none c.args.name.now c.args.indices.now.entries (omega (arith, c.len.ensures.len))
