use Rattle.bfs_shift.proofs.IndexMoves.{index_joined, joined_differs}
use Rattle.bfs_shift.proofs.streams.index_joins.Goals as goal

pub returns : goal.returns
returns c = λ v tree lists own loose new name id kind pairs stocked some shifts written proper rows same listing. (index_joined v tree lists own loose new name id kind pairs stocked some shifts written proper rows same listing, joined_differs v tree lists own loose new name id kind pairs stocked some shifts written proper rows same listing)
