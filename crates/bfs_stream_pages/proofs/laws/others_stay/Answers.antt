use Rattle.bfs_stream_pages.proofs.Others.{has_stayed}
use Rattle.bfs_stream_pages.proofs.laws.others_stay.Goals as goal

pub returns : goal.returns
returns c o p v now m map moved owns apart = has_stayed o p v now m map moved owns apart
