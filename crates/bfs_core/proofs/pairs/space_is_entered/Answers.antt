use Rattle.bfs_core.proofs.Growing.{space_entered, story_entered}
use Rattle.bfs_core.proofs.pairs.space_is_entered.Goals as goal

pub returns : goal.returns
returns c = λ y z w sp new m e story space tells entered set longer last. (story_entered y z w sp new m e story space tells entered set longer last, space_entered y z w sp new m e story space tells entered set longer last)
