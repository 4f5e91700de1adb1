use Rattle.bfs_mkfs.proofs.Trees.{header_behind}
use Rattle.bfs_mkfs.proofs.tree.header.Goals as goal

pub returns-clause-rest : goal.returns-clause-rest
returns-clause-rest c = header_behind _ _ c.print.ensures.puts
