use Rattle.bfs_node_check.specs.Inodes.{in_field}
use Rattle.bfs_node_check.proofs.inode.check_fields.Goals as goal

pub returns-in-Err-clause-wrong : goal.returns-in-Err-clause-wrong
returns-in-Err-clause-wrong c = in_field c.in-Err.fault c.in-Err.ensures.refused c.field_of.ensures
