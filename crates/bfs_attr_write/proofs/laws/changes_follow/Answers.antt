use Rattle.bfs_attr_write.proofs.Follows.{follows}
use Rattle.bfs_attr_write.proofs.laws.changes_follow.Goals as goal

pub returns : goal.returns
returns c b v mid now m first second told later old half new to_mid to_now holds one two stays through = follows b v mid now m first second told later old half new to_mid to_now holds one two stays through
