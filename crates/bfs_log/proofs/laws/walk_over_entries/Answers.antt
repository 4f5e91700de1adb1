use Rattle.bfs_log.proofs.Walks.{reach_more, reach_end, reach_fault, used_after}
use Rattle.bfs_log.proofs.laws.walk_over_entries.Goals as goal

pub returns-clause-more : goal.returns-clause-more
returns-clause-more c = reach_more

pub returns-clause-done : goal.returns-clause-done
returns-clause-done c = reach_end

pub returns-clause-fault : goal.returns-clause-fault
returns-clause-fault c = reach_fault

pub returns-clause-left : goal.returns-clause-left
returns-clause-left c = used_after
