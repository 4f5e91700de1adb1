use Rattle.bfs_replies.proofs.Done.{done_is_answered}
use Rattle.bfs_space.proofs.laws.done_is_answered.Goals as goal

pub returns : goal.returns
returns c = λ g v now m tree lists holds stamp call reply told old new ready so. done_is_answered g v now m tree lists told old new ready holds stamp call reply so
