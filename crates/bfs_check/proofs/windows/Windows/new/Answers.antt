use Rattle.bfs_check.proofs.Slotted.{none_kept}
use Rattle.bfs_check.proofs.windows.Windows.new.Goals as goal

pub returns : goal.returns
returns c = λ told. none_kept told c.zeros.result.items
