use Rattle.std.proofs.Common.{[]}
use Rattle.bfs_tree.proofs.Legals.{legal-push}
use Rattle.bfs_tree.proofs.laws.legal_goes_on.Goals as goal

pub returns : goal.returns
returns c = λ t0 history entry legal follows. legal-push t0 [] history entry legal follows
