use Rattle.bfs_shift.proofs.Parts.{key_of_new}
use Rattle.bfs_shift.proofs.trees.key_of_new.Goals as goal

pub returns : goal.returns
returns c = key_of_new
