use Rattle.std.proofs.Common.{⊎_elim}
use Rattle.bfs_check.specs.Checked.{trimmed}
use Rattle.bfs_check.proofs.Trimmed.{trimmed_of_whole}
use Rattle.bfs_check.proofs.laws.verdict_is_exact.Goals as goal

pub returns : goal.returns
returns c = λ image tree finding whole found.
    ⊎_elim
    (λ here. c.finding_excludes.ensures image finding tree here whole)
    (λ cut. c.finding_excludes.ensures (trimmed image) finding tree cut.1 (trimmed_of_whole image cut.0 c.image_is_carried.ensures tree whole))
    found
