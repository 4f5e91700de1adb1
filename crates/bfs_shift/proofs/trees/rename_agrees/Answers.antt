use Rattle.bfs_shift.proofs.Renamed.{rename_agrees}
use Rattle.bfs_shift.proofs.trees.rename_agrees.Goals as goal

pub returns : goal.returns
returns c = λ s lists mid now dir to d t name stamp id n plain plain_now is is_to to_dir there other up agrees moves. rename_agrees s lists mid now dir to d t name stamp id n plain plain_now is is_to to_dir there other up agrees moves
