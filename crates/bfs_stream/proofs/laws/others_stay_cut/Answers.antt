use Rattle.bfs_stream.proofs.CutOthers.{has_stayed}
use Rattle.bfs_stream.proofs.laws.others_stay_cut.Goals as goal

pub returns : goal.returns
returns c o p v now m gone told old new trimmed rest owns apart = has_stayed o p v now m gone told old new trimmed rest owns apart
