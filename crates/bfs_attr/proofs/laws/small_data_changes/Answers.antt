use Rattle.bfs_attr.proofs.Stays.{small_changes}
use Rattle.bfs_attr.proofs.laws.small_data_changes.Goals as goal

pub returns : goal.returns
returns c v id new items has run agree area distinct apart = small_changes v id new items has run agree area distinct apart
