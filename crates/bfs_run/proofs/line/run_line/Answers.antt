use Rattle.std.proofs.Common.{◌∙◌, sym, subst, refl, arith}
use Rattle.bfs_command.specs.Forms.{InForm}
use Rattle.bfs_command.specs.Left.{Rest}
use Rattle.bfs_volume.proofs.Drawn.{drawn_both, drawn_none}
use Rattle.bfs_volume.proofs.Failed.{failed_both}
use Rattle.bfs_run.proofs.Failed.{unfailed}
use Rattle.bfs_run.proofs.Gone.{gone_none, gone_twice, line_done, line_begun}
use Rattle.bfs_run.proofs.line.run_line.Goals as goal

pub turns-init : goal.turns-init
turns-init g c = record {
  form = subst (λ (r : Rest). InForm r.command) (sym c.of-calls.ensures.begun) c.requires.line.2;
  gone = gone_none c.args.line.now c.of-calls.result c.args.volume.now.space.view.history c.args.volume.now.space.view.history refl;
  core = λ t0 adopted core. core;
  clock = refl;
  stamps = λ s is. drawn_none c.args.volume.now.space.view.history c.args.volume.now.space.view.history s refl;
  later = omega arith;
  disk_clock = omega arith;
  failures = unfailed c.args.volume.now.space.view.history c.args.volume.now.device.books.stop (g.D.Disk.faults c.args.volume.now.device.disk) (g.D.Disk.stops c.args.volume.now.device.disk);
}

pub turn-ended-requires-clause-form : goal.turn-ended-requires-clause-form
turn-ended-requires-clause-form g c = c.turns.invariant.form

pub returns-in-Ok-true-clause-done : goal.returns-in-Ok-true-clause-done
returns-in-Ok-true-clause-done g c =
    line_done c.args.root c.args.line.now c.of-calls.result c.turn-ended.new.calls c.args.volume.now.space.view.history c.turn-ended.new.volume.space.view.history
    (gone_twice c.args.line.now c.of-calls.result c.turns.calls c.turn-ended.new.calls c.args.volume.now.space.view.history c.turns.volume.space.view.history c.turn-ended.new.volume.space.view.history c.turns.invariant.gone c.in-Ok-true.ensures.gone)
    (c.in-Ok-true.ensures.ended c.in-Ok-true.field-0-test) c.of-calls.ensures.spelled

pub returns-in-Ok-true-clause-core : goal.returns-in-Ok-true-clause-core
returns-in-Ok-true-clause-core g c = λ t0 adopted core. c.in-Ok-true.ensures.core t0 adopted (c.turns.invariant.core t0 adopted core)

pub turns-smaller : goal.turns-smaller
turns-smaller g c = c.in-Ok-false.ensures.less c.in-Ok-false.field-0-test

pub turns-preserved : goal.turns-preserved
turns-preserved g c = record {
  form = subst InForm (sym c.in-Ok-false.ensures.command) c.turns.invariant.form;
  gone = gone_twice c.args.line.now c.of-calls.result c.turns.calls c.turn-ended.new.calls c.args.volume.now.space.view.history c.turns.volume.space.view.history c.turn-ended.new.volume.space.view.history c.turns.invariant.gone c.in-Ok-false.ensures.gone;
  core = λ t0 adopted core. c.in-Ok-false.ensures.core t0 adopted (c.turns.invariant.core t0 adopted core);
  clock = c.in-Ok-false.ensures.clock ∙ c.turns.invariant.clock;
  stamps = λ s is. drawn_both c.args.volume.now.space.view.history c.turns.volume.space.view.history c.turn-ended.new.volume.space.view.history s (c.turns.invariant.stamps s is) (c.in-Ok-false.ensures.stamps s (c.turns.invariant.clock ∙ is));
  failures = failed_both c.args.volume.now.space.view.history c.turns.volume.space.view.history c.turn-ended.new.volume.space.view.history c.args.volume.now.device.books.stop c.turns.volume.device.books.stop c.turn-ended.new.volume.device.books.stop (g.D.Disk.faults c.args.volume.now.device.disk) (g.D.Disk.faults c.turns.volume.device.disk) (g.D.Disk.faults c.turn-ended.new.volume.device.disk) (g.D.Disk.stops c.args.volume.now.device.disk) (g.D.Disk.stops c.turns.volume.device.disk) (g.D.Disk.stops c.turn-ended.new.volume.device.disk) c.turns.invariant.failures c.in-Ok-false.ensures.failures;
  later = (let a = c.turns.invariant.later in let b = c.in-Ok-false.ensures.later in omega (arith, a, b));
  disk_clock = (let a = c.turns.invariant.disk_clock in let b = c.in-Ok-false.ensures.disk_clock in omega (arith, a, b));
}

pub returns-in-Err-clause-begun : goal.returns-in-Err-clause-begun
returns-in-Err-clause-begun g c =
    line_begun c.args.root c.args.line.now c.of-calls.result c.turn-ended.new.calls c.args.volume.now.space.view.history c.turn-ended.new.volume.space.view.history
    (gone_twice c.args.line.now c.of-calls.result c.turns.calls c.turn-ended.new.calls c.args.volume.now.space.view.history c.turns.volume.space.view.history c.turn-ended.new.volume.space.view.history c.turns.invariant.gone c.in-Err.ensures.gone)
    c.of-calls.ensures.spelled

pub returns-in-Err-clause-core : goal.returns-in-Err-clause-core
returns-in-Err-clause-core g c = λ t0 adopted core. c.in-Err.ensures.core t0 adopted (c.turns.invariant.core t0 adopted core)

pub returns-in-Ok-true-clause-stamps : goal.returns-in-Ok-true-clause-stamps
returns-in-Ok-true-clause-stamps g c = λ s is.
    drawn_both c.args.volume.now.space.view.history c.turns.volume.space.view.history c.turn-ended.new.volume.space.view.history s (c.turns.invariant.stamps s is) (c.in-Ok-true.ensures.stamps s (c.turns.invariant.clock ∙ is))

pub returns-in-Ok-true-clause-clock : goal.returns-in-Ok-true-clause-clock
returns-in-Ok-true-clause-clock g c = c.in-Ok-true.ensures.clock ∙ c.turns.invariant.clock

pub returns-in-Err-clause-stamps : goal.returns-in-Err-clause-stamps
returns-in-Err-clause-stamps g c = λ s is.
    drawn_both c.args.volume.now.space.view.history c.turns.volume.space.view.history c.turn-ended.new.volume.space.view.history s (c.turns.invariant.stamps s is) (c.in-Err.ensures.stamps s (c.turns.invariant.clock ∙ is))

pub returns-in-Err-clause-clock : goal.returns-in-Err-clause-clock
returns-in-Err-clause-clock g c = c.in-Err.ensures.clock ∙ c.turns.invariant.clock

pub returns-in-Ok-true-clause-failures : goal.returns-in-Ok-true-clause-failures
returns-in-Ok-true-clause-failures g c =
    failed_both c.args.volume.now.space.view.history c.turns.volume.space.view.history c.turn-ended.new.volume.space.view.history c.args.volume.now.device.books.stop c.turns.volume.device.books.stop c.turn-ended.new.volume.device.books.stop (g.D.Disk.faults c.args.volume.now.device.disk) (g.D.Disk.faults c.turns.volume.device.disk) (g.D.Disk.faults c.turn-ended.new.volume.device.disk) (g.D.Disk.stops c.args.volume.now.device.disk) (g.D.Disk.stops c.turns.volume.device.disk) (g.D.Disk.stops c.turn-ended.new.volume.device.disk) c.turns.invariant.failures c.in-Ok-true.ensures.failures

pub returns-in-Err-clause-failures : goal.returns-in-Err-clause-failures
returns-in-Err-clause-failures g c =
    failed_both c.args.volume.now.space.view.history c.turns.volume.space.view.history c.turn-ended.new.volume.space.view.history c.args.volume.now.device.books.stop c.turns.volume.device.books.stop c.turn-ended.new.volume.device.books.stop (g.D.Disk.faults c.args.volume.now.device.disk) (g.D.Disk.faults c.turns.volume.device.disk) (g.D.Disk.faults c.turn-ended.new.volume.device.disk) (g.D.Disk.stops c.args.volume.now.device.disk) (g.D.Disk.stops c.turns.volume.device.disk) (g.D.Disk.stops c.turn-ended.new.volume.device.disk) c.turns.invariant.failures c.in-Err.ensures.failures
