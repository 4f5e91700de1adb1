use Rattle.bfs_attr_walk.proofs.Addresses.{few_blocks, few_in_group}
use Rattle.bfs_attr_walk.proofs.address.extent_of.Goals as goal

pub returns-clause-few : goal.returns-clause-few
returns-clause-few c = few_blocks c.args.sup c.requires

pub returns-clause-small : goal.returns-clause-small
returns-clause-small c = few_in_group c.args.sup c.requires
