use Rattle.bfs_attr_write.proofs.Steps.{directory_tree}
use Rattle.bfs_attr_write.proofs.laws.directories_stay_held.Goals as goal

pub returns : goal.returns
returns c b v now m map d id name attribute old new can stored = (directory_tree b v now m map d id name attribute old new can stored).held
