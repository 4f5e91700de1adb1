use Rattle.std.proofs.Common.{sym, subst}
use Rattle.bfs_log.specs.Replay.{super_of, blocks_of}
use Rattle.bfs_log.proofs.Replays.{replayed_one}
use Rattle.bfs_sound.specs.Whole.{volume_of, IsWhole}
use Rattle.bfs_finding.proofs.OneTrees.{one_tree}
use Rattle.bfs_finding.proofs.one_tree.recovered_tree_is_one.Goals as goal

pub returns : goal.returns
returns c = λ image one other a b.
    let same = replayed_one image a.result b.result a.replayed b.replayed in
    one_tree (volume_of (super_of a.result) (blocks_of a.result)) one other a.whole.whole.sound (subst (λ r. IsWhole r other) (sym same) b.whole).whole.sound
