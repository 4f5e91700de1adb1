use Rattle.std.proofs.Common.{◌∙◌, true, sym}
use Rattle.std.proofs.Math.Logic.{∥∥₁_map}
use Rattle.bfs_replay.specs.Recover.{GoesOn}
use Rattle.bfs_mount.proofs.Mounting.{reads, now_reads, summed, found, cause_from, held_whole, unshort, passed_read}
use Rattle.bfs_mount.proofs.mount.replay_and_check.Goals as goal

pub returns-in-Err-clause-refused : goal.returns-in-Err-clause-refused
returns-in-Err-clause-refused g c image held = c.in-Err.ensures.fault image (reads (g.D.Disk.state c.args.disk.now) image held)

pub returns-in-Ok-Yes-clause-whole : goal.returns-in-Ok-Yes-clause-whole
returns-in-Ok-Yes-clause-whole g c st is =
    held_whole (g.D.Disk.state c.args.disk.now) (g.D.Disk.state c.recover.new.disk) c.in-Ok.sup c.requires.held c.in-Ok.ensures.silent (λ image held. c.in-Ok.ensures.recovered true image held) c.in-Ok-Yes.summary.nodes
    (λ image held. let w = summed image c.in-Ok-Yes.field-0 c.in-Ok-Yes.summary c.in-Ok-Yes.field-0-is (c.in-Ok-Yes.ensures.verdict image (reads (g.D.Disk.state c.recover.new.disk) image held)) in (w.tree, w.whole, w.nodes))
    st (sym c.in-Ok-Yes.ensures.state ∙ is)

pub returns-in-Ok-Yes-clause-recovers : goal.returns-in-Ok-Yes-clause-recovers
returns-in-Ok-Yes-clause-recovers g c image held =
    let got = c.in-Ok.ensures.recovered true image held in
    let w = summed got.0 c.in-Ok-Yes.field-0 c.in-Ok-Yes.summary c.in-Ok-Yes.field-0-is (c.in-Ok-Yes.ensures.verdict got.0 (reads (g.D.Disk.state c.recover.new.disk) got.0 got.2)) in
    (w.tree, record { result = got.0; replayed = got.1; whole = w.whole })

pub returns-in-Ok-Yes-clause-replayed : goal.returns-in-Ok-Yes-clause-replayed
returns-in-Ok-Yes-clause-replayed g c image held =
    let got = c.in-Ok.ensures.recovered true image held in
    (got.0, got.1, now_reads (g.D.Disk.state c.recover.new.disk) (g.D.Disk.state c.check.new.disk) got.0 c.in-Ok-Yes.ensures.state got.2)

pub returns-in-Ok-No-clause-refused : goal.returns-in-Ok-No-clause-refused
returns-in-Ok-No-clause-refused g c image held =
    let got = c.in-Ok.ensures.recovered true image held in
    (got.0, got.1, found got.0 c.in-Ok-No.field-0 c.in-Ok-No.finding c.in-Ok-No.field-0-is (c.in-Ok-No.ensures.verdict got.0 (reads (g.D.Disk.state c.recover.new.disk) got.0 got.2)))

pub returns-in-Err-check-clause-refused : goal.returns-in-Err-check-clause-refused
returns-in-Err-check-clause-refused g c image held =
    let got = c.in-Ok.ensures.recovered true image held in
    let told = g.D.Disk.state c.recover.new.disk in
    let sound = c.in-Ok.ensures.sound in
    c.unchecked.ensures.told image
    (unshort got.0 told (g.D.Disk.size c.recover.new.disk) c.in-Ok.sup got.2 (g.met.D.Disk.sized c.recover.new.disk) sound.0 sound.2 got.3 c.in-Err-check.fault (c.in-Err-check.ensures.fault got.0 (reads told got.0 got.2)))

pub returns-in-Err-check-clause-cause : goal.returns-in-Err-check-clause-cause
returns-in-Err-check-clause-cause g c = c.unchecked.ensures.cause (g.D.Disk.faults c.args.disk.now) (g.D.Disk.faults c.check.new.disk)
    (cause_from (g.D.Disk.faults c.args.disk.now) (g.D.Disk.faults c.recover.new.disk) (g.D.Disk.faults c.check.new.disk) c.in-Err-check.fault c.in-Ok.ensures.later c.in-Err-check.ensures.cause)

pub returns-in-Err-clause-time : goal.returns-in-Err-clause-time
returns-in-Err-clause-time g c image held = ∣ c.in-Err.ensures.time image held ∣₁

pub returns-in-Ok-Yes-clause-time : goal.returns-in-Ok-Yes-clause-time
returns-in-Ok-Yes-clause-time g c image held =
    let mid = c.recover.new.disk in
    let start = g.D.Disk.clock c.args.disk.now in
    ∥∥₁_map c.in-Ok-Yes.ensures.time (λ then. passed_read start (g.D.Disk.clock mid) (g.D.Disk.clock c.check.new.disk) (g.D.Disk.since c.args.disk.now) (g.D.Disk.since mid) (g.D.Disk.since c.check.new.disk) (g.D.Disk.state mid) (GoesOn image) (c.in-Ok.ensures.time image held) then
    (λ i may. c.in-Ok.ensures.moments image held i (g.met.D.Disk.counts_now mid start i c.in-Ok.ensures.clock may)))

pub returns-in-Ok-No-clause-time : goal.returns-in-Ok-No-clause-time
returns-in-Ok-No-clause-time g c image held =
    let mid = c.recover.new.disk in
    let start = g.D.Disk.clock c.args.disk.now in
    ∥∥₁_map c.in-Ok-No.ensures.time (λ then. passed_read start (g.D.Disk.clock mid) (g.D.Disk.clock c.check.new.disk) (g.D.Disk.since c.args.disk.now) (g.D.Disk.since mid) (g.D.Disk.since c.check.new.disk) (g.D.Disk.state mid) (GoesOn image) (c.in-Ok.ensures.time image held) then
    (λ i may. c.in-Ok.ensures.moments image held i (g.met.D.Disk.counts_now mid start i c.in-Ok.ensures.clock may)))

pub returns-in-Err-check-clause-time : goal.returns-in-Err-check-clause-time
returns-in-Err-check-clause-time g c image held =
    let mid = c.recover.new.disk in
    let start = g.D.Disk.clock c.args.disk.now in
    ∥∥₁_map c.in-Err-check.ensures.time (λ then. passed_read start (g.D.Disk.clock mid) (g.D.Disk.clock c.check.new.disk) (g.D.Disk.since c.args.disk.now) (g.D.Disk.since mid) (g.D.Disk.since c.check.new.disk) (g.D.Disk.state mid) (GoesOn image) (c.in-Ok.ensures.time image held) then
    (λ i may. c.in-Ok.ensures.moments image held i (g.met.D.Disk.counts_now mid start i c.in-Ok.ensures.clock may)))
