use Rattle.bfs_command.proofs.Histories.{own_spelled}
use Rattle.bfs_command.proofs.laws.own_entries_are_spelled.Goals as goal

pub returns : goal.returns
returns c = λ root history es lines spelled own. own_spelled root history es lines spelled own
