use Rattle.bfs_log.specs.Replay.{super_of, blocks_of}
use Rattle.bfs_sound.specs.Whole.{volume_of}
use Rattle.bfs_finding.proofs.OneTrees.{one_tree}
use Rattle.bfs_finding.proofs.one_tree.tree_is_one.Goals as goal

pub returns : goal.returns
returns c = λ image one other a b. one_tree (volume_of (super_of image) (blocks_of image)) one other a.whole.sound b.whole.sound
