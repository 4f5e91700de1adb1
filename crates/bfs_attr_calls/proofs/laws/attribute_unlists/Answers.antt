use Rattle.bfs_attr_calls.proofs.Keys.{attribute_unlists}
use Rattle.bfs_attr_calls.proofs.laws.attribute_unlists.Goals as goal

pub returns : goal.returns
returns c tree lists now id n name stamp is agrees unlists = attribute_unlists tree lists now id n name stamp is agrees unlists
