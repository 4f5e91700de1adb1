use Rattle.bfs_shift.proofs.Dropped.{remove_agrees}
use Rattle.bfs_shift.proofs.trees.remove_agrees.Goals as goal

pub returns : goal.returns
returns c = λ s lists now dir d stamp id node plain plain_now is there other up agrees loses. remove_agrees s lists now dir d stamp id node plain plain_now is there other up agrees loses
