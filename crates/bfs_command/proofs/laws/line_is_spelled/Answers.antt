use Rattle.bfs_command.proofs.Histories.{line_spelled}
use Rattle.bfs_command.proofs.laws.line_is_spelled.Goals as goal

pub returns : goal.returns
returns c = λ root history es lines line spelled of says. line_spelled root history es lines line spelled of says
