use Rattle.bfs_device.specs.Layouts.{layout_of}
use Rattle.bfs_replies.proofs.Fits.{next_place}
use Rattle.bfs_replies.proofs.keep.may_be_kept.Goals as goal

pub loop-i-preserved : goal.loop-i-preserved
loop-i-preserved g c = next_place (layout_of c.args.sup.now) c.args.overlay.now.group.now c.args.mark c.loop-i.i c.block-block.result c.is_data_of.result c.loop-i.invariant c.block-block.ensures c.is_data_of.ensures c.if-not-is_data_of.false
