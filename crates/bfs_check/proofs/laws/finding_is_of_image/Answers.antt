use Rattle.bfs_check.proofs.Trimmed.{found_of_whole}
use Rattle.bfs_check.proofs.laws.finding_is_of_image.Goals as goal

pub returns : goal.returns
returns c = λ image finding long found. found_of_whole image finding long found
