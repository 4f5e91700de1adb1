use Rattle.bfs_core.proofs.Knowing.{file_data_of}
use Rattle.bfs_core.proofs.bytes.file_is_data.Goals as goal

pub returns : goal.returns
returns c = file_data_of
