use Rattle.std.proofs.Common.{◌∙◌, ℕ, List, Bool, Option, refl, sym, subst, arith, length, max}
use Rattle.std.specs.FinMap.{insert}
use Rattle.bfs_super.specs.Conditions.{ceil}
use Rattle.bfs_super.specs.Geometry.{geometry_of}
use Rattle.bfs_tree.specs.Trees.{Attribute}
use Rattle.bfs_make.proofs.Pieces.{told_long, sized_at}
use Rattle.bfs_attr.specs.Bearers.{bearer_of}
use Rattle.bfs_shift.proofs.AtWork.{inode_told}
use Rattle.bfs_look.proofs.Listed.{good_is_proper}
use Rattle.bfs_attr_calls.specs.LeaveLeaving.{IsLeft}
use Rattle.bfs_attr_calls.specs.Done.{IsUnanswered}
use Rattle.bfs_attr_calls.proofs.Faulting.{pair_cause, undone_unanswered}
use Rattle.bfs_attr_calls.proofs.CallsRefusing.{good_short}
use Rattle.bfs_attr_calls.specs.Attributed.{with_attributes}
use Rattle.bfs_attr_calls.proofs.Holding.{node_holds}
use Rattle.bfs_attr_put.specs.Written.{HasWriteCause}
use Rattle.bfs_attr_put.proofs.Faulting.{put_unanswered, answer_write, put_write}
use Rattle.bfs_attr_put.proofs.Gained.{put_left}
use Rattle.bfs_attr_put.proofs.Good.{good_name, good_some, other_name}
use Rattle.bfs_attr_put.proofs.putting.put_attribute.Goals as goal

pub put-requires-clause-some : goal.put-requires-clause-some
put-requires-clause-some g c = good_some c.args.name.now (good_name c.args.name.now c.requires.good)

pub put-requires-clause-short : goal.put-requires-clause-short
put-requires-clause-short g c = good_short c.args.name.now (good_name c.args.name.now c.requires.good)

pub put-requires-clause-other : goal.put-requires-clause-other
put-requires-clause-other g c = other_name c.args.name.now c.requires.good

pub put-requires-clause-proper : goal.put-requires-clause-proper
put-requires-clause-proper g c = good_is_proper c.args.name.now (good_name c.args.name.now c.requires.good)

pub put-requires-clause-holds : goal.put-requires-clause-holds
put-requires-clause-holds g c m told =
    let h = c.requires.bearer m (sym c.in-Ok.ensures.told ∙ told) in
    node_holds c.args.sup.now c.args.bitmap.now m h.tree h.lists h.loose c.args.id h.node c.requires.valid h.work h.there

pub returns-in-Err-clause-unanswered : goal.returns-in-Err-clause-unanswered
returns-in-Err-clause-unanswered g c m tree lists loose n told work is = undone_unanswered c.in-Err.fault c.in-Err.ensures.undone

pub returns-in-Err-put-clause-unanswered : goal.returns-in-Err-put-clause-unanswered
returns-in-Err-put-clause-unanswered g c m tree lists loose n told work is =
    subst IsUnanswered (sym c.not_put.ensures)
    (put_unanswered (bearer_of c.args.id c.args.sup.now) c.args.bitmap.now m c.args.name.now (record { code = c.args.kind; bytes = c.args.bytes.now }) (ceil (length c.args.bytes.now) c.args.sup.now.block_size) c.args.id c.in-Err-put.fault
    (c.in-Err-put.ensures.faults m (c.in-Ok.ensures.told ∙ told)))

pub returns-in-Err-check_inode-clause-unanswered : goal.returns-in-Err-check_inode-clause-unanswered
returns-in-Err-check_inode-clause-unanswered g c m tree lists loose n told work is = undone_unanswered c.in-Err-check_inode.fault c.in-Err-check_inode.ensures.undone

pub returns-in-Err-clause-cause : goal.returns-in-Err-clause-cause
returns-in-Err-clause-cause g c =
    let size = c.args.sup.now.block_size in
    let old = g.E.Blocks.counts c.args.edits.now in
    let new = g.E.Blocks.counts c.check_inode.new.under in
    answer_write (max 1 (max (ceil 2048 size) (ceil (length c.args.bytes.now) size))) old old new c.in-Err.fault (omega arith) (record { faults = omega arith; stops = refl; stop = refl }) (pair_cause old new c.in-Err.fault c.in-Err.ensures.pair_cause)

pub returns-in-Err-put-clause-cause : goal.returns-in-Err-put-clause-cause
returns-in-Err-put-clause-cause g c =
    let size = c.args.sup.now.block_size in
    let n = max 1 (max (ceil 2048 size) (ceil (length c.args.bytes.now) size)) in
    subst (HasWriteCause n (g.E.Blocks.counts c.args.edits.now) (g.E.Blocks.counts c.put.new.edits)) (sym c.not_put.ensures)
    (put_write n (g.E.Blocks.counts c.args.edits.now) (g.E.Blocks.counts c.check_inode.new.under) (g.E.Blocks.counts c.put.new.edits) c.args.id c.in-Err-put.fault c.in-Ok.ensures.later c.in-Err-put.ensures.cause)

pub returns-in-Err-check_inode-clause-cause : goal.returns-in-Err-check_inode-clause-cause
returns-in-Err-check_inode-clause-cause g c =
    let size = c.args.sup.now.block_size in
    let mid = g.E.Blocks.counts c.put.new.edits in
    let new = g.E.Blocks.counts c.check_inode-2.new.under in
    let one = c.in-Ok.ensures.later in
    let two = c.in-Ok-put.ensures.later in
    answer_write (max 1 (max (ceil 2048 size) (ceil (length c.args.bytes.now) size))) (g.E.Blocks.counts c.args.edits.now) mid new c.in-Err-check_inode.fault (omega arith)
    (let a = one.faults in let b = two.faults in record { faults = omega (arith, a, b); stops = two.stops ∙ one.stops; stop = two.stop ∙ one.stop })
    (pair_cause mid new c.in-Err-check_inode.fault c.in-Err-check_inode.ensures.pair_cause)

pub returns-in-Ok-check_inode-clause-left : goal.returns-in-Ok-check_inode-clause-left
returns-in-Ok-check_inode-clause-left g c m tree lists loose n told work clear is =
    let s = c.args.sup.now in
    let v = c.args.bitmap.now in
    let now = c.put.new.bitmap in
    let id = c.args.id in
    let name = c.args.name.now in
    let attribute : Attribute = record { code = c.args.kind; bytes = c.args.bytes.now } in
    let told1 = c.in-Ok.ensures.told ∙ told in
    let t = g.E.Blocks.told c.put.new.edits in
    let old = g.E.Blocks.changed c.check_inode.new.under in
    let new = g.E.Blocks.changed c.put.new.edits in
    let put = c.in-Ok-put.ensures.put m told1 in
    let inode = inode_told s v m tree lists loose id n work is in
    let before = c.in-Ok.ensures.words m told inode in
    let after = c.in-Ok-check_inode.ensures.words put.now_are.map put.now_are.is put.now_are.holds.inode in
    let size = g.E.Blocks.size c.args.edits.now in
    let one = told_long size m id (sized_at size size (g.E.Blocks.told c.args.edits.now) m refl told (g.met.E.Blocks.sized c.args.edits.now)) inode in
    let two = told_long size put.now_are.map id (sized_at size (g.E.Blocks.size c.put.new.edits) t put.now_are.map (c.in-Ok-put.ensures.size ∙ c.in-Ok.ensures.size) put.now_are.is (g.met.E.Blocks.sized c.put.new.edits)) put.now_are.holds.inode in
    let good = good_name name c.requires.good in
    let left =
    put_left s v m tree lists loose id n c.requires.valid work is now name attribute t old new clear c.in-Ok-put.ensures.rest c.in-Ok-put.ensures.standing c.in-Ok-put.ensures.stays put before after (two ∙ sym one)
    (good_short name good) (other_name name c.requires.good) (c.in-Ok-put.ensures.clear m told1) (c.in-Ok-put.ensures.items m told1) in
    subst (λ (f : ℕ → Bool). IsLeft (geometry_of s) v now m tree (with_attributes tree id n (insert n.attributes name attribute)) lists loose (g.E.Blocks.told c.check_inode-2.new.under) f (g.E.Blocks.changed c.check_inode-2.new.under)) c.in-Ok.ensures.changed
    (subst (λ (f : ℕ → Bool). IsLeft (geometry_of s) v now m tree (with_attributes tree id n (insert n.attributes name attribute)) lists loose (g.E.Blocks.told c.check_inode-2.new.under) old f) (sym c.in-Ok-check_inode.ensures.changed)
    (subst (λ (o : Option (ℕ → Option (List ℕ))). IsLeft (geometry_of s) v now m tree (with_attributes tree id n (insert n.attributes name attribute)) lists loose o old new) (sym c.in-Ok-check_inode.ensures.told) left))
