use Rattle.bfs_smalldata.proofs.Lookups.{put_found, put_others, put_order, many_with}
use Rattle.bfs_smalldata.proofs.laws.put_is_found.Goals as goal

pub returns-clause-found : goal.returns-clause-found
returns-clause-found c = put_found

pub returns-clause-others : goal.returns-clause-others
returns-clause-others c = λ new items name ne. put_others new name ne items

pub returns-clause-order : goal.returns-clause-order
returns-clause-order c = put_order

pub returns-clause-distinct : goal.returns-clause-distinct
returns-clause-distinct c = λ new items few name. many_with name new items (few name)
