use Rattle.std.proofs.Common.{◌∙◌, sym, arith}
use Rattle.bfs_commit.proofs.Failed.{counts_twice}
use Rattle.bfs_commit.proofs.settling.rest.Goals as goal

pub loop-fault-preserved : goal.loop-fault-preserved
loop-fault-preserved g c =
    let e = c.push_on-pushed.ensures in
    let i = c.loop-fault.invariant in
    let went = c.in-Ok-false.ensures.stop in
    record {
      joined = e.joined;
      history = e.history ∙ i.history;
      promised = e.promised ∙ i.promised;
      stop = went.1 ∙ sym went.0 ∙ i.stop;
      faults = let first = i.faults in let then_on = e.faults in omega (arith, first, then_on);
      disk_clock = let first = i.disk_clock in let then_on = e.disk_clock in omega (arith, first, then_on);
      spare = e.spare ∙ i.spare;
      sealed = e.sealed ∙ i.sealed;
      durable = let first = i.durable in let then_on = e.durable in omega (arith, first, then_on);
      counts = counts_twice c.args.device.now.books.stop c.loop-fault.device.books.stop c.push_on-pushed.new.device.books.stop (g.D.Disk.faults c.args.device.now.disk) (g.D.Disk.faults c.loop-fault.device.disk) (g.D.Disk.faults c.push_on-pushed.new.device.disk) (g.D.Disk.stops c.args.device.now.disk) (g.D.Disk.stops c.loop-fault.device.disk) (g.D.Disk.stops c.push_on-pushed.new.device.disk) i.counts e.counts;
      kept = λ p o. e.open p (i.kept p o);
      core = λ t0 adopted core. e.core t0 adopted (i.core t0 adopted core);
    }

pub returns-in-Err-clause-open : goal.returns-in-Err-clause-open
returns-in-Err-clause-open g c = λ p o. c.push_on-pushed.ensures.open p (c.loop-fault.invariant.kept p o)

pub returns-in-Err-clause-core : goal.returns-in-Err-clause-core
returns-in-Err-clause-core g c = λ t0 adopted core. c.push_on-pushed.ensures.core t0 adopted (c.loop-fault.invariant.core t0 adopted core)
