use Rattle.bfs_stream.proofs.Emptied.{emptied}
use Rattle.bfs_stream.proofs.laws.emptied_streams.Goals as goal

pub returns : goal.returns
returns c o v now m told old new to some = emptied o v now m told old new to some
