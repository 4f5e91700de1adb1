use Rattle.std.proofs.Common.{◌<◌, ℕ, List, [], ◌∙◌, refl, sym, subst, arith}
use Rattle.bfs_base.specs.Moments.{Passed}
use Rattle.bfs_base.proofs.Moments.{passed_none, passed_on}
use Rattle.bfs_disk.specs.Disk.{MayLeave, HasSectors}
use Rattle.bfs_super.specs.Geometry.{geometry_of}
use Rattle.bfs_log.specs.Ring.{in_use}
use Rattle.bfs_log.specs.Replay.{Home, blocks_of, log_from, log_to}
use Rattle.bfs_log.specs.Walk.{Reaches}
use Rattle.bfs_replay.specs.Steps.{sectors_of}
use Rattle.bfs_replay.proofs.Walking.{named_low, named_less, walked, stopped_by, all_walked}
use Rattle.bfs_replay.proofs.log.check_log.Goals as goal

pub loop-at-init : goal.loop-at-init
loop-at-init g c = record {
  low = c.log_start-at.ensures.inside;
  long = c.requires.long;
  later = omega arith;
  stops = omega arith;
  state = refl;
  size = refl;
  time = passed_none _ _ _;
  way = λ image is reads. ([], sym c.log_start-at.ensures.value);
}

pub returns-in-Err-clause-fault : goal.returns-in-Err-clause-fault
returns-in-Err-clause-fault g c image is reads =
    let s = c.args.sup.now in
    let l = c.loop-at in
    let disk = l.disk in
    stopped_by s c.requires.valid l.at l.invariant.low c.read_entry.new.buffer image is (g.D.Disk.state disk) (g.D.Disk.size disk) (g.met.D.Disk.sized disk)
    (subst (λ z. HasSectors z (sectors_of s)) (sym l.invariant.size) c.requires.on_disk) (reads.0, (l.invariant.state ∙ reads.1), reads.2)
    c.in-Err.halt (λ e. c.loop-at-test.true (e ∙ sym c.log_end-end.ensures.value)) (l.invariant.way image is reads) c.in-Err.ensures.fault

pub returns-in-Err-clause-time : goal.returns-in-Err-clause-time
returns-in-Err-clause-time g c =
    let old = c.args.disk.now in
    let mid = c.loop-at.disk in
    let new = c.read_entry.new.disk in
    passed_on c.loop-at.invariant.time
    (subst (λ st. Passed (g.D.Disk.clock mid) (g.D.Disk.clock new) (g.D.Disk.since mid) (g.D.Disk.since new) (MayLeave st)) c.loop-at.invariant.state c.in-Err.ensures.time)

pub place_behind-at-requires-clause-inside : goal.place_behind-at-requires-clause-inside
place_behind-at-requires-clause-inside g c = named_low c.args.sup.now c.requires.valid c.loop-at.at c.loop-at.invariant.low c.read_entry.new.buffer c.in-Ok.ensures.entry.0 c.in-Ok.found c.in-Ok.ensures.entry.1

pub loop-at-smaller : goal.loop-at-smaller
loop-at-smaller g c =
    let s = c.args.sup.now in
    subst (λ (n : ℕ). in_use n (log_to s) s.log_blocks.len < in_use c.loop-at.at (log_to s) s.log_blocks.len) (sym c.place_behind-at.ensures.value)
    (named_less s c.requires.valid c.loop-at.at c.loop-at.invariant.low c.read_entry.new.buffer c.in-Ok.ensures.entry.0 c.in-Ok.found c.in-Ok.ensures.entry.1)

pub loop-at-preserved : goal.loop-at-preserved
loop-at-preserved g c =
    let s = c.args.sup.now in
    let l = c.loop-at in
    let disk = l.disk in
    let new = c.read_entry.new.disk in
    record {
      low = c.place_behind-at.ensures.inside;
      long = c.read_entry.auto.buffer ∙ l.invariant.long;
      later = omega (arith, l.invariant.later, c.in-Ok.ensures.later);
      stops = omega (arith, l.invariant.stops, c.in-Ok.ensures.stops);
      state = c.in-Ok.ensures.state ∙ l.invariant.state;
      size = c.in-Ok.ensures.size ∙ l.invariant.size;
      time = passed_on l.invariant.time
          (subst (λ st. Passed (g.D.Disk.clock disk) (g.D.Disk.clock new) (g.D.Disk.since disk) (g.D.Disk.since new) (MayLeave st)) l.invariant.state c.in-Ok.ensures.time);
      way = λ image is reads.
          subst (λ (n : ℕ). (entries : List (List Home)) × Reaches (geometry_of s) (blocks_of image) (log_to s) (log_from s) n entries) (sym c.place_behind-at.ensures.value)
          (walked s c.requires.valid l.at l.invariant.low c.read_entry.new.buffer image is (g.D.Disk.state disk) (g.D.Disk.size disk) (g.met.D.Disk.sized disk)
          (subst (λ z. HasSectors z (sectors_of s)) (sym l.invariant.size) c.requires.on_disk) (reads.0, (l.invariant.state ∙ reads.1), reads.2) c.in-Ok.ensures.read
          c.in-Ok.ensures.entry.0 c.in-Ok.found c.in-Ok.ensures.entry.1 (l.invariant.way image is reads));
    }

pub returns-clause-entries : goal.returns-clause-entries
returns-clause-entries g c image is reads = all_walked c.args.sup.now image c.loop-at.at is (c.loop-at-test.false ∙ c.log_end-end.ensures.value) (c.loop-at.invariant.way image is reads)
