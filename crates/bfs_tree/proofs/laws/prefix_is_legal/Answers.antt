use Rattle.std.proofs.Common.{[]}
use Rattle.bfs_tree.proofs.Legals.{legal-prefix}
use Rattle.bfs_tree.proofs.laws.prefix_is_legal.Goals as goal

pub returns : goal.returns
returns c = λ t0 history more legal. legal-prefix t0 [] history more legal
