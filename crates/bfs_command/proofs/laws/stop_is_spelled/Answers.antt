use Rattle.bfs_command.proofs.Histories.{stop_spelled}
use Rattle.bfs_command.proofs.laws.stop_is_spelled.Goals as goal

pub returns : goal.returns
returns c = λ root history es lines later line rest spelled of on. stop_spelled root history es lines later line rest spelled of on
