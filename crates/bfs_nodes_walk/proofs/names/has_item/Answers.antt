use Rattle.std.proofs.lemmas.Bool.{false≢true}
use Rattle.bfs_nodes_walk.proofs.Found.{has_it, lacks_item}
use Rattle.bfs_nodes_walk.proofs.names.has_item.Goals as goal

pub returns-in-Some : goal.returns-in-Some
returns-in-Some c items is = has_it c.args.area.now c.args.name.now items is c.in-Some.item c.in-Some.ensures c.is_own.result c.is_own.ensures

pub returns-in-None : goal.returns-in-None
returns-in-None c items is = (λ y. absurd (false≢true y), λ h. absurd (lacks_item c.args.area.now c.args.name.now items is c.in-None.ensures h))
