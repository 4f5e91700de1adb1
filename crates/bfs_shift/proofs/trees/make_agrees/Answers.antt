use Rattle.bfs_shift.proofs.Made.{make_agrees}
use Rattle.bfs_shift.proofs.trees.make_agrees.Goals as goal

pub returns : goal.returns
returns c = λ s lists now dir d name kind mode stamp id plain plain_now is is_dir absent agrees gains. make_agrees s lists now dir d name kind mode stamp id plain plain_now is is_dir absent agrees gains
