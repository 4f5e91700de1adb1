use Rattle.bfs_core.proofs.Pieces.{piece_apart, piece_is_data}
use Rattle.bfs_core.proofs.laws.piece_is_apart.Goals as goal

pub returns : goal.returns
returns c = λ t0 sp b t st block core file. (piece_is_data t0 sp b t st core block file, piece_apart t0 sp b t st core block file)
