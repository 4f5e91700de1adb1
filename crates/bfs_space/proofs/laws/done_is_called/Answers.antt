use Rattle.bfs_replies.proofs.Done.{done_is_called}
use Rattle.bfs_space.proofs.laws.done_is_called.Goals as goal

pub returns : goal.returns
returns c = λ g v now m tree after lists told old new ready done. done_is_called g v now m tree lists told old new ready after done
