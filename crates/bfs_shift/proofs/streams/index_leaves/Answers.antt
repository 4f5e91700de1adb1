use Rattle.bfs_shift.proofs.IndexMoves.{index_left, left_differs}
use Rattle.bfs_shift.proofs.streams.index_leaves.Goals as goal

pub returns : goal.returns
returns c = λ v tree lists loose new name value stocked some there shifts written rows. (index_left v tree lists loose new name value stocked some there shifts written rows, left_differs v tree lists loose new name value stocked some there shifts written rows)
