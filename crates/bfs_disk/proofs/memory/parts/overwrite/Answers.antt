use Rattle.std.proofs.Common.{rules}
use Rattle.bfs_disk.proofs.memory.parts.overwrite.Goals as goal

pub returns-clause-calls : goal.returns-clause-calls
returns-clause-calls c = (c.in_ok-replaced.replaced, search rules, search rules)
