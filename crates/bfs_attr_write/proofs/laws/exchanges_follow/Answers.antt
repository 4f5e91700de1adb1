use Rattle.bfs_attr_write.proofs.Exchanges.{exchanged_twice}
use Rattle.bfs_attr_write.proofs.laws.exchanges_follow.Goals as goal

pub returns : goal.returns
returns c v mid now m between map before middle after one two taken through = exchanged_twice v mid now m between map before middle after one two taken through
