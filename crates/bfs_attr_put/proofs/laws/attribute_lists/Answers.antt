use Rattle.bfs_attr_put.proofs.Keyed.{attribute_lists}
use Rattle.bfs_attr_put.proofs.laws.attribute_lists.Goals as goal

pub returns : goal.returns
returns c tree lists now id n name attribute stamp is agrees under = attribute_lists tree lists now id n name attribute stamp is agrees under
