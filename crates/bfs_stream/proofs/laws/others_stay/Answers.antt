use Rattle.bfs_stream.proofs.Others.{has_stayed}
use Rattle.bfs_stream.proofs.laws.others_stay.Goals as goal

pub returns : goal.returns
returns c o p v now m fresh told old new grown rest owns apart = has_stayed o p v now m fresh told old new grown rest owns apart
