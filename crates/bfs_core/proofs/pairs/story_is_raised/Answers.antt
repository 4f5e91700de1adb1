use Rattle.bfs_core.proofs.Releases.{story_raised}
use Rattle.bfs_core.proofs.pairs.story_is_raised.Goals as goal

pub returns : goal.returns
returns c = story_raised
