use Rattle.std.proofs.Common.{not}
use Rattle.bfs_bitmap.specs.Givens.{is_left}
use Rattle.bfs_bitmap.proofs.Covered.{renewed_by}
use Rattle.bfs_bitmap.proofs.reserved.forget_left.Goals as goal

pub returns-clause-bits : goal.returns-clause-bits
returns-clause-bits c blocks has =
    renewed_by blocks (λ g. not (is_left c.args.group g)) c.args.given.now.items c.deref.result.now c.drop_left.new.given.items c.deref-2.result.now c.args.bytes.now c.clear_all.new.bytes c.mark_all.new.bytes has c.deref.ensures.value c.drop_left.ensures c.deref-2.ensures.value c.clear_all.auto.bytes c.mark_all.auto.bytes
    c.clear_all.ensures c.mark_all.ensures
