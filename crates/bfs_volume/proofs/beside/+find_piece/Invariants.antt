use Rattle.std.proofs.Common.{length}
use Rattle.bfs_volume.proofs.beside.+find_piece.Given as goal

abbrev pub decreases-find_piece : goal.decreases-find_piece
decreases-find_piece l = length l.pieces.now
