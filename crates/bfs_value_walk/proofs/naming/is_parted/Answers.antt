use Rattle.bfs_value_walk.proofs.Wording.{parted_test, parted_not}
use Rattle.bfs_value_walk.proofs.naming.is_parted.Goals as goal

pub returns-clause-some : goal.returns-clause-some
returns-clause-some c e = parted_test c.args.size c.args.at c.args.names.now c.requires.at.1 e

pub returns-clause-none : goal.returns-clause-none
returns-clause-none c e = parted_not c.args.size c.args.at c.args.names.now c.requires.at.1 e
