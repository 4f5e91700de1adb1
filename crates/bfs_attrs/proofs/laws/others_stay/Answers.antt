use Rattle.bfs_attrs.proofs.Gone.{row_gone}
use Rattle.bfs_attrs.proofs.laws.others_stay.Goals as goal

pub returns : goal.returns
returns c b v now m d name told old new can several found there taken = row_gone b v now m d name can several found there told old new taken
