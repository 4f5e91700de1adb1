use Rattle.bfs_shift.proofs.Without.{plain_without, replaced_agrees}
use Rattle.bfs_shift.proofs.trees.replaced_agrees.Goals as goal

pub returns : goal.returns
returns c = λ s lists now id node plain there other empty_one agrees loses. (plain_without s lists now id node plain there other empty_one, replaced_agrees s lists now id node plain there other empty_one agrees loses)
