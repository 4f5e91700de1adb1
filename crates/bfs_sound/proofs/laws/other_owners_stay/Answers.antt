use Rattle.bfs_sound.proofs.Owning.{others_as_they_are}
use Rattle.bfs_sound.proofs.laws.other_owners_stay.Goals as goal

pub returns : goal.returns
returns c = λ v tree new used a once is stays. others_as_they_are v new used tree a once is stays
