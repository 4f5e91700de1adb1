use Rattle.bfs_attr.proofs.Tops.{bearer_fault}
use Rattle.bfs_attr.proofs.reading.area_rows.Goals as goal

pub returns-in-Err-clause-blamed : goal.returns-in-Err-clause-blamed
returns-in-Err-clause-blamed c v directory = bearer_fault v c.args.inode directory c.damaged.result c.damaged.ensures
