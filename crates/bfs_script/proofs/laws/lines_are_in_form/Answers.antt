use Rattle.bfs_text.specs.Cutting.{lines_of}
use Rattle.bfs_script.proofs.Formed.{from_form}
use Rattle.bfs_script.proofs.laws.lines_are_in_form.Goals as goal

pub returns : goal.returns
returns c = λ bytes. from_form 1 (lines_of bytes)
