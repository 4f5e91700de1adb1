use Rattle.bfs_sound.proofs.Owning.{owners_apart}
use Rattle.bfs_sound.proofs.laws.owners_are_apart.Goals as goal

pub returns : goal.returns
returns c = λ v tree once. owners_apart v tree once
