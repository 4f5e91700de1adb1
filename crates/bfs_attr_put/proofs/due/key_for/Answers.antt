use Rattle.bfs_attr_put.proofs.Good.{bytes_fit}
use Rattle.bfs_attr_put.proofs.due.key_for.Goals as goal

pub returns-clause-fits : goal.returns-clause-fits
returns-clause-fits c = bytes_fit c.args.index c.args.bytes.now c.key_of_bytes.result c.key_of_bytes.ensures
