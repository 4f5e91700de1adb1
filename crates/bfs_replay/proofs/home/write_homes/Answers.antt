use Rattle.std.proofs.Common.{true, ◌∙◌, refl, sym, subst, arith}
use Rattle.std.specs.Prelude.{All}
use Rattle.bfs_base.proofs.Moments.{passed_none, passed_then, passed_on}
use Rattle.bfs_disk.specs.Disk.{MayLeave, HasSectors}
use Rattle.bfs_super.specs.Geometry.{geometry_of}
use Rattle.bfs_log.specs.Entry.{HasPlace}
use Rattle.bfs_log.specs.Replay.{AgreeBut, block_sectors, homes_of}
use Rattle.bfs_replay.specs.Steps.{sectors_of}
use Rattle.bfs_replay.proofs.Homes.{homing_image}
use Rattle.bfs_replay.proofs.Walking.{named_is}
use Rattle.bfs_replay.proofs.Going.{between_start, between_end, are_homes, goes_on, no_fault}
use Rattle.bfs_replay.proofs.home.write_homes.Goals as goal

pub loop-at-init : goal.loop-at-init
loop-at-init g c = record {
  low = c.log_start-at.ensures.inside;
  array = c.requires.array;
  long = c.requires.long;
  later = omega arith;
  stops = omega arith;
  clock = omega arith;
  size = refl;
  silent = λ none. none;
  way = λ quiet image log is_log known. between_start image c.args.sup.now c.log_start-at.result (g.D.Disk.state c.args.disk.now) log c.log_start-at.ensures.value known;
  time = λ image log is_log known. passed_none _ _ _;
}

pub returns-in-Err-clause-time : goal.returns-in-Err-clause-time
returns-in-Err-clause-time g c image log is_log known =
    let s = c.args.sup.now in
    let l = c.loop-at in
    let b = l.invariant.way true image log is_log known in
    passed_then (AgreeBut (block_sectors s) (homes_of log.0) image) (l.invariant.time image log is_log known) c.in-Err.ensures.time (λ i r. r)
    (λ i left. homing_image refl (block_sectors s) (homes_of log.0) (homes_of b.front) image i b.known.0 b.known.2 (subst (λ o. MayLeave o i) b.known.1 left))

pub returns-in-Err-clause-good : goal.returns-in-Err-clause-good
returns-in-Err-clause-good g c quiet image log is_log known =
    let s = c.args.sup.now in
    let l = c.loop-at in
    let b = l.invariant.way quiet image log is_log known in
    no_fault image s log.0 is_log c.requires.valid l.at l.invariant.low (λ e. c.loop-at-test.true (e ∙ sym c.log_end-end.ensures.value)) (g.D.Disk.state l.disk) (g.D.Disk.size l.disk) (g.met.D.Disk.filled l.disk) (g.met.D.Disk.sized l.disk)
    (subst (λ z. HasSectors z (sectors_of s)) (sym l.invariant.size) c.requires.on_disk) b c.read_entry.new.buffer c.in-Err.halt c.in-Err.ensures.fault

pub write_runs-requires-clause-places : goal.write_runs-requires-clause-places
write_runs-requires-clause-places g c =
    subst (All (HasPlace (geometry_of c.args.sup.now))) (sym (named_is c.args.sup.now c.requires.valid c.loop-at.at c.loop-at.invariant.low c.read_entry.new.buffer c.in-Ok.ensures.entry.0 c.in-Ok.found c.in-Ok.ensures.entry.1)) c.in-Ok.ensures.entry.0.places

pub returns-in-Err-write_runs-clause-time : goal.returns-in-Err-write_runs-clause-time
returns-in-Err-write_runs-clause-time g c image log is_log known =
    let s = c.args.sup.now in
    let l = c.loop-at in
    let b = l.invariant.way true image log is_log known in
    passed_on
    (passed_then (AgreeBut (block_sectors s) (homes_of log.0) image) (l.invariant.time image log is_log known) c.in-Ok.ensures.time (λ i r. r)
    (λ i left. homing_image refl (block_sectors s) (homes_of log.0) (homes_of b.front) image i b.known.0 b.known.2 (subst (λ o. MayLeave o i) b.known.1 left)))
    (c.in-Err-write_runs.ensures.time image (homes_of log.0) (homes_of b.front) is_log
    (are_homes image s log.0 is_log c.requires.valid l.at l.invariant.low (λ e. c.loop-at-test.true (e ∙ sym c.log_end-end.ensures.value)) (g.D.Disk.state l.disk) (g.D.Disk.size l.disk) (g.met.D.Disk.filled l.disk) (g.met.D.Disk.sized l.disk)
    (subst (λ z. HasSectors z (sectors_of s)) (sym l.invariant.size) c.requires.on_disk) b c.read_entry.new.buffer c.in-Ok.ensures.read c.in-Ok.ensures.entry.0 c.in-Ok.found c.in-Ok.ensures.entry.1)
    (b.known.0, (c.in-Ok.ensures.state ∙ b.known.1), b.known.2))

pub loop-at-preserved : goal.loop-at-preserved
loop-at-preserved g c = record {
  low = c.place_behind-at.ensures.inside;
  array = c.read_entry.auto.buffer ∙ c.loop-at.invariant.array;
  long = c.in-Ok-write_runs.ensures.long;
  later = omega (arith, c.loop-at.invariant.later, c.in-Ok.ensures.later, c.in-Ok-write_runs.ensures.cause.later);
  stops = omega (arith, c.loop-at.invariant.stops, c.in-Ok.ensures.stops, c.in-Ok-write_runs.ensures.stops);
  clock = omega (arith, c.loop-at.invariant.clock, c.in-Ok.ensures.time.later, c.in-Ok-write_runs.ensures.clock);
  size = c.in-Ok-write_runs.ensures.size ∙ c.in-Ok.ensures.size ∙ c.loop-at.invariant.size;
  silent = λ none. c.in-Ok-write_runs.ensures.silent (c.in-Ok.ensures.state ∙ c.loop-at.invariant.silent none);
  way = λ quiet image log is_log known.
      let s = c.args.sup.now in
      let l = c.loop-at in
      let b = l.invariant.way quiet image log is_log known in
      goes_on image s log.0 is_log c.requires.valid l.at l.invariant.low (λ e. c.loop-at-test.true (e ∙ sym c.log_end-end.ensures.value)) (g.D.Disk.state l.disk) (g.D.Disk.size l.disk) (g.met.D.Disk.filled l.disk) (g.met.D.Disk.sized l.disk)
      (subst (λ z. HasSectors z (sectors_of s)) (sym l.invariant.size) c.requires.on_disk) b c.read_entry.new.buffer c.in-Ok.ensures.read c.in-Ok.ensures.entry.0 c.in-Ok.found c.in-Ok.ensures.entry.1
      c.place_on.result c.place_behind-at.result (g.D.Disk.state c.write_runs.new.disk) c.place_on.ensures.value c.place_behind-at.ensures.value
      (c.in-Ok-write_runs.ensures.next quiet image (homes_of log.0) (homes_of b.front) is_log
      (are_homes image s log.0 is_log c.requires.valid l.at l.invariant.low (λ e. c.loop-at-test.true (e ∙ sym c.log_end-end.ensures.value)) (g.D.Disk.state l.disk) (g.D.Disk.size l.disk) (g.met.D.Disk.filled l.disk) (g.met.D.Disk.sized l.disk)
      (subst (λ z. HasSectors z (sectors_of s)) (sym l.invariant.size) c.requires.on_disk) b c.read_entry.new.buffer c.in-Ok.ensures.read c.in-Ok.ensures.entry.0 c.in-Ok.found c.in-Ok.ensures.entry.1)
      (b.known.0, (c.in-Ok.ensures.state ∙ b.known.1), b.known.2));
  time = λ image log is_log known.
      let s = c.args.sup.now in
      let l = c.loop-at in
      let b = l.invariant.way true image log is_log known in
      passed_on
      (passed_then (AgreeBut (block_sectors s) (homes_of log.0) image) (l.invariant.time image log is_log known) c.in-Ok.ensures.time (λ i r. r)
      (λ i left. homing_image refl (block_sectors s) (homes_of log.0) (homes_of b.front) image i b.known.0 b.known.2 (subst (λ o. MayLeave o i) b.known.1 left)))
      (c.in-Ok-write_runs.ensures.time image (homes_of log.0) (homes_of b.front) is_log
      (are_homes image s log.0 is_log c.requires.valid l.at l.invariant.low (λ e. c.loop-at-test.true (e ∙ sym c.log_end-end.ensures.value)) (g.D.Disk.state l.disk) (g.D.Disk.size l.disk) (g.met.D.Disk.filled l.disk) (g.met.D.Disk.sized l.disk)
      (subst (λ z. HasSectors z (sectors_of s)) (sym l.invariant.size) c.requires.on_disk) b c.read_entry.new.buffer c.in-Ok.ensures.read c.in-Ok.ensures.entry.0 c.in-Ok.found c.in-Ok.ensures.entry.1)
      (b.known.0, (c.in-Ok.ensures.state ∙ b.known.1), b.known.2));
}

pub returns-clause-next : goal.returns-clause-next
returns-clause-next g c quiet image log is_log known =
    between_end image c.args.sup.now log.0 c.loop-at.at (g.D.Disk.state c.loop-at.disk) (c.loop-at-test.false ∙ c.log_end-end.ensures.value) (c.loop-at.invariant.way quiet image log is_log known)
