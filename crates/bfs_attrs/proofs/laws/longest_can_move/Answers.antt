use Rattle.bfs_attrs.proofs.Longest.{longest_within}
use Rattle.bfs_attrs.proofs.laws.longest_can_move.Goals as goal

pub returns : goal.returns
returns c b v m items item holds area is = longest_within b v m items item holds area is
