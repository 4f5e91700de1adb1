use Rattle.std.proofs.Common.{◌≡◌, ◌∙◌, ◌*◌, ◌%◌, ℕ, List, sym, subst, arith}
use Rattle.std.proofs.lemmas.Bool.{cond-false, ne_eqb}
use Rattle.bfs_base.specs.Moments.{Elapses}
use Rattle.bfs_disk.specs.Disk.{MayLeave, told_written}
use Rattle.bfs_log.specs.Replay.{log_from}
use Rattle.bfs_device.specs.Layouts.{layout_of, log_block, slot}
use Rattle.bfs_device.proofs.Sizes.{ring_low}
use Rattle.bfs_device.proofs.calls.write_log.Goals as goal

pub make_array-requires-clause-few : goal.make_array-requires-clause-few
make_array-requires-clause-few g c = omega (arith, c.requires.sealed.room, ring_low c.args.sup.now c.requires.valid)

pub returns-else-inside-eq0-clause-time : goal.returns-else-inside-eq0-clause-time
returns-else-inside-eq0-clause-time g c =
    let s = c.args.sup.now in
    let disk = c.args.disk.now in
    let w = c.write_block-else-inside-eq0 in
    let ps = c.args.group.now.blocks in
    let bytes : c.bytes.result.now ≡ log_block s ps c.args.at = c.bytes.ensures ∙ sym (cond-false _ _ _ (ne_eqb (c.args.at % 127) 0 c.if-inside-eq0.false)) in
    subst (λ (b : List ℕ). Elapses (g.D.Disk.state disk) w.result (g.D.Disk.clock disk) (g.D.Disk.clock w.new.disk) (g.D.Disk.since disk) (g.D.Disk.since w.new.disk) (MayLeave (told_written (g.D.Disk.state disk) ((layout_of s).sectors * slot (layout_of s) (log_from s) c.args.at) b))) bytes
    (subst (λ (n : ℕ). Elapses (g.D.Disk.state disk) w.result (g.D.Disk.clock disk) (g.D.Disk.clock w.new.disk) (g.D.Disk.since disk) (g.D.Disk.since w.new.disk) (MayLeave (told_written (g.D.Disk.state disk) ((layout_of s).sectors * n) c.bytes.result.now))) c.log_place-place.ensures.value w.ensures.time)
