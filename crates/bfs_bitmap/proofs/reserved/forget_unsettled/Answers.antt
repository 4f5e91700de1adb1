use Rattle.bfs_bitmap.proofs.Covered.{renewed_by}
use Rattle.bfs_bitmap.proofs.reserved.forget_unsettled.Goals as goal

pub returns-clause-bits : goal.returns-clause-bits
returns-clause-bits c blocks has =
    renewed_by blocks (λ g. g.kept) c.args.given.now.items c.deref-2.result.now c.drop_unsettled.new.given.items c.deref-3.result.now c.args.bytes.now c.clear_all.new.bytes c.mark_all.new.bytes has c.deref-2.ensures.value c.drop_unsettled.ensures c.deref-3.ensures.value c.clear_all.auto.bytes c.mark_all.auto.bytes
    c.clear_all.ensures c.mark_all.ensures
