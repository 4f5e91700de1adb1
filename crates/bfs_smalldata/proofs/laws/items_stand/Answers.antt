use Rattle.bfs_smalldata.proofs.Listing.{area_from, area_to, none_from, none_to}
use Rattle.bfs_smalldata.proofs.Lookups.{written_read}
use Rattle.bfs_smalldata.proofs.laws.items_stand.Goals as goal

pub returns-clause-items : goal.returns-clause-items
returns-clause-items c = λ area items. (area_from area items, area_to area items)

pub returns-clause-faults : goal.returns-clause-faults
returns-clause-faults c = λ area. (none_to area, λ some. none_from area some.0 some.1)

pub returns-clause-written : goal.returns-clause-written
returns-clause-written c = written_read
