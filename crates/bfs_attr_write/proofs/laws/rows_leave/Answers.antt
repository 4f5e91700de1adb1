use Rattle.bfs_attr_write.proofs.Departs.{left}
use Rattle.bfs_attr_write.proofs.laws.rows_leave.Goals as goal

pub returns : goal.returns
returns c s inode v mid now m d id name taken told old half new valid can there row rest gone stays = left s valid inode v m d name can id there mid taken old half row now told new rest stays gone
