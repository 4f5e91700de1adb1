use Rattle.std.proofs.Common.{◌∙◌, arith}
use Rattle.bfs_volume.proofs.Drawn.{drawn_both}
use Rattle.bfs_volume.proofs.Failed.{failed_both}
use Rattle.bfs_run.proofs.lines.run_script.Goals as goal

pub lines-preserved : goal.lines-preserved
lines-preserved g c = record {
  spelled = c.in-Ok.ensures.spelled;
  core = λ t0 adopted core. c.in-Ok.ensures.core t0 adopted (c.lines.invariant.core t0 adopted core);
  clock = c.in-Ok.ensures.clock ∙ c.lines.invariant.clock;
  stamps = λ s is. drawn_both c.args.volume.now.space.view.history c.lines.volume.space.view.history c.run_next.new.volume.space.view.history s (c.lines.invariant.stamps s is) (c.in-Ok.ensures.stamps s (c.lines.invariant.clock ∙ is));
  failures = failed_both c.args.volume.now.space.view.history c.lines.volume.space.view.history c.run_next.new.volume.space.view.history c.args.volume.now.device.books.stop c.lines.volume.device.books.stop c.run_next.new.volume.device.books.stop (g.D.Disk.faults c.args.volume.now.device.disk) (g.D.Disk.faults c.lines.volume.device.disk) (g.D.Disk.faults c.run_next.new.volume.device.disk) (g.D.Disk.stops c.args.volume.now.device.disk) (g.D.Disk.stops c.lines.volume.device.disk) (g.D.Disk.stops c.run_next.new.volume.device.disk) c.lines.invariant.failures c.in-Ok.ensures.failures;
  later = (let a = c.lines.invariant.later in let b = c.in-Ok.ensures.later in omega (arith, a, b));
  disk_clock = (let a = c.lines.invariant.disk_clock in let b = c.in-Ok.ensures.disk_clock in omega (arith, a, b));
}

pub returns-in-Err-clause-stamps : goal.returns-in-Err-clause-stamps
returns-in-Err-clause-stamps g c = λ s is.
    drawn_both c.args.volume.now.space.view.history c.lines.volume.space.view.history c.run_next.new.volume.space.view.history s (c.lines.invariant.stamps s is) (c.in-Err.ensures.stamps s (c.lines.invariant.clock ∙ is))

pub returns-in-Err-clause-core : goal.returns-in-Err-clause-core
returns-in-Err-clause-core g c = λ t0 adopted core. c.in-Err.ensures.core t0 adopted (c.lines.invariant.core t0 adopted core)

pub returns-in-Err-clause-failures : goal.returns-in-Err-clause-failures
returns-in-Err-clause-failures g c =
    failed_both c.args.volume.now.space.view.history c.lines.volume.space.view.history c.run_next.new.volume.space.view.history c.args.volume.now.device.books.stop c.lines.volume.device.books.stop c.run_next.new.volume.device.books.stop (g.D.Disk.faults c.args.volume.now.device.disk) (g.D.Disk.faults c.lines.volume.device.disk) (g.D.Disk.faults c.run_next.new.volume.device.disk) (g.D.Disk.stops c.args.volume.now.device.disk) (g.D.Disk.stops c.lines.volume.device.disk) (g.D.Disk.stops c.run_next.new.volume.device.disk) c.lines.invariant.failures c.in-Err.ensures.failures
