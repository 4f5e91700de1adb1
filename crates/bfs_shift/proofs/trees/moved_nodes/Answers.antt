use Rattle.bfs_shift.proofs.Ends.{within, across}
use Rattle.bfs_shift.proofs.trees.moved_nodes.Goals as goal

pub returns : goal.returns
returns c = λ s dir to d t name stamp id n is is_to there one_apart two_apart. (within s dir to d t name stamp id n is is_to there one_apart two_apart, across s dir to d t name stamp id n is is_to there one_apart two_apart)
