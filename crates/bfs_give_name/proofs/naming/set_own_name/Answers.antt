use Rattle.std.proofs.Common.{[], sym, subst, max}
use Rattle.bfs_super.specs.Conditions.{ceil}
use Rattle.bfs_stream.proofs.Writes.{later_none}
use Rattle.bfs_attr.specs.Bearers.{bearer_of}
use Rattle.bfs_attr_put.specs.Done.{IsUnanswered}
use Rattle.bfs_attr_put.specs.Written.{HasWriteCause}
use Rattle.bfs_attr_put.proofs.Holding.{node_holds}
use Rattle.bfs_attr_put.proofs.Faulting.{put_write}
use Rattle.bfs_set_name.proofs.Rows.{can_be_named}
use Rattle.bfs_give_name.proofs.Faulting.{name_unanswered}
use Rattle.bfs_give_name.proofs.Joined.{moved_named}
use Rattle.bfs_give_name.proofs.naming.set_own_name.Goals as goal

pub set_name-requires-clause-can : goal.set_name-requires-clause-can
set_name-requires-clause-can g c m told =
    let s = c.args.site.sup in
    let v = c.args.bitmap.now in
    let id = c.args.id in
    let h = c.requires.node m told in
    can_be_named (bearer_of id s) v m h.n c.args.name.now (node_holds s v m h.tree h.lists [] id h.n c.requires.valid h.work h.there) (h.work.stocked.nodes id h.n h.there) h.apart

pub returns-in-Ok-clause-named : goal.returns-in-Ok-clause-named
returns-in-Ok-clause-named g c m told =
    moved_named (bearer_of c.args.id c.args.site.sup) c.args.bitmap.now c.set_name.new.bitmap m c.args.name.now (g.E.Blocks.told c.set_name.new.edits) (g.E.Blocks.changed c.args.edits.now) (g.E.Blocks.changed c.set_name.new.edits)
    (c.in-Ok.ensures.named m told) (c.in-Ok.ensures.keeps m told)

pub returns-in-Err-clause-unanswered : goal.returns-in-Err-clause-unanswered
returns-in-Err-clause-unanswered g c m told =
    subst IsUnanswered (sym c.not_put.ensures) (name_unanswered (bearer_of c.args.id c.args.site.sup) c.args.bitmap.now m c.args.name.now c.args.id c.in-Err.fault (c.in-Err.ensures.faults m told))

pub returns-in-Err-clause-cause : goal.returns-in-Err-clause-cause
returns-in-Err-clause-cause g c =
    let n = max 1 (ceil 2048 c.args.site.sup.block_size) in
    let old = g.E.Blocks.counts c.args.edits.now in
    let new = g.E.Blocks.counts c.set_name.new.edits in
    subst (HasWriteCause n old new) (sym c.not_put.ensures) (put_write n old old new c.args.id c.in-Err.fault (later_none old) c.in-Err.ensures.cause)
