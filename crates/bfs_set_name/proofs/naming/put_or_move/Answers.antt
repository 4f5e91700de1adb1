use Rattle.std.proofs.Common.{◌∙◌, ℕ, List, Option, Bool, ap, subst, arith, max}
use Rattle.std.specs.Prelude.{Err}
use Rattle.bfs_super.specs.Conditions.{ceil}
use Rattle.bfs_make.proofs.Pieces.{sized_at}
use Rattle.bfs_make.proofs.Telling.{told_back, one_map}
use Rattle.bfs_attr.specs.Bearers.{bearer_of}
use Rattle.bfs_attr.specs.Changed.{IsNamePut}
use Rattle.bfs_attrs.proofs.Begins.{add_wider_kept}
use Rattle.bfs_attrs.proofs.Fresh.{read_added}
use Rattle.bfs_attrs.proofs.Replaces.{all_same}
use Rattle.bfs_set_name.specs.Renamed.{IsNext}
use Rattle.bfs_set_name.proofs.Steps.{has_gone, none_left, item, more, order, next, undone_step, not_gone, moved_older}
use Rattle.bfs_set_name.proofs.naming.put_or_move.Goals as goal

pub returns-in-Err-clause-faults : goal.returns-in-Err-clause-faults
returns-in-Err-clause-faults g c m told =
    let can = c.requires.can m told in
    undone_step (bearer_of c.args.inode c.args.site.sup) c.args.bitmap.now m c.args.name.now c.in-Err.fault (c.in-Err.ensures.put c.args.bitmap.now m told can.holds can.own)

pub returns-in-Err-clause-cause : goal.returns-in-Err-clause-cause
returns-in-Err-clause-cause g c =
    read_added (max 1 (ceil 2048 c.args.site.sup.block_size)) (g.E.Blocks.counts c.args.edits.now) (g.E.Blocks.counts c.put_own_name.new.edits) c.in-Err.fault c.in-Err.ensures.cause

pub returns-then-put-clause-stepped : goal.returns-then-put-clause-stepped
returns-then-put-clause-stepped g c m told =
    let b = bearer_of c.args.inode c.args.site.sup in
    let v = c.args.bitmap.now in
    let name = c.args.name.now in
    let size = c.args.site.sup.block_size in
    let can = c.requires.can m told in
    let sized = sized_at size (g.E.Blocks.size c.args.edits.now) (g.E.Blocks.told c.args.edits.now) m c.requires.size told (g.met.E.Blocks.sized c.args.edits.now) in
    let put =
    subst (λ (t : Bool). IsNamePut b v m name (g.E.Blocks.told c.put_own_name.new.edits) (g.E.Blocks.changed c.args.edits.now) (g.E.Blocks.changed c.put_own_name.new.edits) t) c.if-put.true
    (c.in-Ok.ensures.put v m told can.holds can.own) in
    (none_left b v m name can size sized c.has_long_blocks.ensures put.0, put.1)

pub returns-then-put-clause-keeps : goal.returns-then-put-clause-keeps
returns-then-put-clause-keeps g c m told =
    let can = c.requires.can m told in
    all_same (bearer_of c.args.inode c.args.site.sup) m (g.E.Blocks.told c.put_own_name.new.edits) (c.in-Ok.ensures.blocks c.args.bitmap.now m told can.holds)

pub move_longest-requires-clause-next : goal.move_longest-requires-clause-next
move_longest-requires-clause-next g c map told =
    let b = bearer_of c.args.inode c.args.site.sup in
    let v = c.args.bitmap.now in
    let name = c.args.name.now in
    let size = c.args.site.sup.block_size in
    let told1 = g.E.Blocks.told c.put_own_name.new.edits in
    let before =
    told_back (g.E.Blocks.told c.args.edits.now) told1 (g.E.Blocks.frame c.args.edits.now).below (g.E.Blocks.frame c.put_own_name.new.edits).below
    (g.met.E.Edits.tells c.args.edits.now) (g.met.E.Edits.tells c.put_own_name.new.edits) (ap (λ f. f.below) c.in-Ok.ensures.frame) map told in
    let m = before.0 in
    let can = c.requires.can m before.1 in
    let sized = sized_at size (g.E.Blocks.size c.args.edits.now) (g.E.Blocks.told c.args.edits.now) m c.requires.size before.1 (g.met.E.Blocks.sized c.args.edits.now) in
    let put =
    subst (λ (t : Bool). IsNamePut b v m name told1 (g.E.Blocks.changed c.args.edits.now) (g.E.Blocks.changed c.put_own_name.new.edits) t) c.if-put.false
    (c.in-Ok.ensures.put v m before.1 can.holds can.own) in (
      item b v m name can size sized c.has_long_blocks.ensures c.longest_can_move.ensures c.requires.short put.0,
      subst (λ (x : ℕ → Option (List ℕ)). IsNext b v x (item b v m name can size sized c.has_long_blocks.ensures c.longest_can_move.ensures c.requires.short put.0)) (one_map told1 m map put.1 told)
          (next b v m name can size sized c.has_long_blocks.ensures c.longest_can_move.ensures c.requires.short put.0),
    )

pub returns-in-Ok-move_longest-clause-stepped : goal.returns-in-Ok-move_longest-clause-stepped
returns-in-Ok-move_longest-clause-stepped g c m told =
    let b = bearer_of c.args.inode c.args.site.sup in
    let v = c.args.bitmap.now in
    let name = c.args.name.now in
    let size = c.args.site.sup.block_size in
    let old = g.E.Blocks.changed c.args.edits.now in
    let half = g.E.Blocks.changed c.put_own_name.new.edits in
    let new = g.E.Blocks.changed c.move_longest.new.edits in
    let now = c.move_longest.new.bitmap in
    let told2 = g.E.Blocks.told c.move_longest.new.edits in
    let can = c.requires.can m told in
    let sized = sized_at size (g.E.Blocks.size c.args.edits.now) (g.E.Blocks.told c.args.edits.now) m c.requires.size told (g.met.E.Blocks.sized c.args.edits.now) in
    let put =
    subst (λ (t : Bool). IsNamePut b v m name (g.E.Blocks.told c.put_own_name.new.edits) old half t) c.if-put.false (c.in-Ok.ensures.put v m told can.holds can.own) in
    let first = item b v m name can size sized c.has_long_blocks.ensures c.longest_can_move.ensures c.requires.short put.0 in
    let is = next b v m name can size sized c.has_long_blocks.ensures c.longest_can_move.ensures c.requires.short put.0 in
    let moved = moved_older b v now m first.name told2 old half new c.put_own_name.ensures.changed (c.in-Ok-move_longest.ensures.moved m first put.1 is) in
    let same = c.in-Ok-move_longest.ensures.size ∙ c.in-Ok.ensures.size ∙ c.requires.size in
    let sized1 = sized_at size (g.E.Blocks.size c.move_longest.new.edits) told2 moved.now_are.map same moved.now_are.is (g.met.E.Blocks.sized c.move_longest.new.edits) in
    has_gone b v m name can size sized c.has_long_blocks.ensures c.longest_can_move.ensures c.requires.short put.0 now told2 old new moved sized1

pub returns-in-Ok-move_longest-clause-keeps : goal.returns-in-Ok-move_longest-clause-keeps
returns-in-Ok-move_longest-clause-keeps g c m told =
    let b = bearer_of c.args.inode c.args.site.sup in
    let v = c.args.bitmap.now in
    let can = c.requires.can m told in
    let put =
    subst (λ (t : Bool). IsNamePut b v m c.args.name.now (g.E.Blocks.told c.put_own_name.new.edits) (g.E.Blocks.changed c.args.edits.now) (g.E.Blocks.changed c.put_own_name.new.edits) t) c.if-put.false
    (c.in-Ok.ensures.put v m told can.holds can.own) in
    c.in-Ok-move_longest.ensures.keeps m put.1

pub returns-in-Ok-move_longest-clause-stays : goal.returns-in-Ok-move_longest-clause-stays
returns-in-Ok-move_longest-clause-stays g c k changed = c.move_longest.ensures.stays k (c.put_own_name.ensures.stays k changed)

pub returns-in-Err-move_longest-clause-faults : goal.returns-in-Err-move_longest-clause-faults
returns-in-Err-move_longest-clause-faults g c m told =
    let b = bearer_of c.args.inode c.args.site.sup in
    let v = c.args.bitmap.now in
    let name = c.args.name.now in
    let size = c.args.site.sup.block_size in
    let can = c.requires.can m told in
    let sized = sized_at size (g.E.Blocks.size c.args.edits.now) (g.E.Blocks.told c.args.edits.now) m c.requires.size told (g.met.E.Blocks.sized c.args.edits.now) in
    let put =
    subst (λ (t : Bool). IsNamePut b v m name (g.E.Blocks.told c.put_own_name.new.edits) (g.E.Blocks.changed c.args.edits.now) (g.E.Blocks.changed c.put_own_name.new.edits) t) c.if-put.false
    (c.in-Ok.ensures.put v m told can.holds can.own) in
    let first = item b v m name can size sized c.has_long_blocks.ensures c.longest_can_move.ensures c.requires.short put.0 in
    let is = next b v m name can size sized c.has_long_blocks.ensures c.longest_can_move.ensures c.requires.short put.0 in
    not_gone b v m name first (more b v m name can size sized c.has_long_blocks.ensures c.longest_can_move.ensures c.requires.short put.0)
    (order b v m name can size sized c.has_long_blocks.ensures c.longest_can_move.ensures c.requires.short put.0)
    c.in-Err-move_longest.fault (c.in-Err-move_longest.ensures.faults m first put.1 is)

pub returns-in-Err-move_longest-clause-stays : goal.returns-in-Err-move_longest-clause-stays
returns-in-Err-move_longest-clause-stays g c k changed = c.move_longest.ensures.stays k (c.put_own_name.ensures.stays k changed)

pub returns-in-Err-move_longest-clause-cause : goal.returns-in-Err-move_longest-clause-cause
returns-in-Err-move_longest-clause-cause g c =
    let n = max 1 (ceil 2048 c.args.site.sup.block_size) in
    add_wider_kept {T = Bool} n n (g.E.Blocks.counts c.args.edits.now) (g.E.Blocks.counts c.put_own_name.new.edits) (g.E.Blocks.counts c.move_longest.new.edits) (Err c.in-Err-move_longest.fault) (omega arith) c.in-Ok.ensures.later
    c.in-Err-move_longest.ensures.cause
