use Rattle.bfs_remove_node.proofs.Refusing.{may_be}
use Rattle.bfs_remove_node.proofs.laws.may_be_removed.Goals as goal

pub returns : goal.returns
returns c = λ s dir name fine. may_be s dir name fine
