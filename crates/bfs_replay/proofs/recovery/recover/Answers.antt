use Rattle.std.proofs.Common.{inl, ⊎_elim, arith, false}
use Rattle.bfs_replay.proofs.Recovering.{held_image}
use Rattle.bfs_replay.proofs.recovery.recover.Goals as goal

pub returns-in_default-clause-moments : goal.returns-in_default-clause-moments
returns-in_default-clause-moments g c image held i left =
    inl (held_image (g.D.Disk.state c.args.disk.now) image i held (g.met.D.Disk.only_now c.args.disk.now i left))

pub returns-in_default-zeros-clause-moments : goal.returns-in_default-zeros-clause-moments
returns-in_default-zeros-clause-moments g c image held i left =
    inl (held_image (g.D.Disk.state c.args.disk.now) image i held (g.met.D.Disk.only_now c.args.disk.now i left))

pub returns-in-Done-clause-moments : goal.returns-in-Done-clause-moments
returns-in-Done-clause-moments g c image held i left =
    let disk = c.args.disk.now in
    ⊎_elim (λ was. inl (held_image (g.D.Disk.state disk) image i held (g.met.D.Disk.only_now disk i was))) (λ now. now) ((c.replay.ensures.time image held).nothing_else (g.D.Disk.clock disk) i (omega arith) left)

pub returns-in-Short-clause-moments : goal.returns-in-Short-clause-moments
returns-in-Short-clause-moments g c image held i left =
    let disk = c.args.disk.now in
    ⊎_elim (λ was. inl (held_image (g.D.Disk.state disk) image i held (g.met.D.Disk.only_now disk i was))) (λ now. now) ((c.replay.ensures.time image held).nothing_else (g.D.Disk.clock disk) i (omega arith) left)

pub returns-in-Refused-clause-moments : goal.returns-in-Refused-clause-moments
returns-in-Refused-clause-moments g c image held i left =
    let disk = c.args.disk.now in
    ⊎_elim (λ was. inl (held_image (g.D.Disk.state disk) image i held (g.met.D.Disk.only_now disk i was))) (λ now. now) ((c.replay.ensures.time image held).nothing_else (g.D.Disk.clock disk) i (omega arith) left)

pub returns-in-Malformed-clause-moments : goal.returns-in-Malformed-clause-moments
returns-in-Malformed-clause-moments g c image held i left =
    let disk = c.args.disk.now in
    ⊎_elim (λ was. inl (held_image (g.D.Disk.state disk) image i held (g.met.D.Disk.only_now disk i was))) (λ now. now) ((c.replay.ensures.time image held).nothing_else (g.D.Disk.clock disk) i (omega arith) left)

pub returns-clause-moments : goal.returns-clause-moments
returns-clause-moments g c image held i left =
    let disk = c.args.disk.now in
    ⊎_elim (λ was. inl (held_image (g.D.Disk.state disk) image i held (g.met.D.Disk.only_now disk i was))) (λ now. now) ((c.replay.ensures.time image held).nothing_else (g.D.Disk.clock disk) i (omega arith) left)

pub returns-in-Malformed-clause-fault : goal.returns-in-Malformed-clause-fault
returns-in-Malformed-clause-fault g c image reads = (c.in-Malformed.ensures.ends false image reads).0

pub returns-in-Malformed-clause-kept : goal.returns-in-Malformed-clause-kept
returns-in-Malformed-clause-kept g c image reads leaves = (c.in-Malformed.ensures.ends false image reads).1

pub returns-in-Short-clause-fault : goal.returns-in-Short-clause-fault
returns-in-Short-clause-fault g c image reads = (c.in-Short.ensures.ends false image reads).0

pub returns-in-Short-clause-kept : goal.returns-in-Short-clause-kept
returns-in-Short-clause-kept g c image reads leaves = (c.in-Short.ensures.ends false image reads).1

pub returns-in-Refused-clause-fault : goal.returns-in-Refused-clause-fault
returns-in-Refused-clause-fault g c image reads =
    let ends = c.in-Refused.ensures.ends false image reads in
    (ends.0, ends.1)

pub returns-in-Refused-clause-kept : goal.returns-in-Refused-clause-kept
returns-in-Refused-clause-kept g c image reads leaves = (c.in-Refused.ensures.ends false image reads).2
