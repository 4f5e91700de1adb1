use Rattle.std.proofs.Common.{inr, refl, ℕ, Option, List, ap, subst, sym}
use Rattle.std.specs.List.{All}
use Rattle.bfs_command.specs.Forms.{IsLineInForm}
use Rattle.bfs_soak.specs.Workload.{workload}
use Rattle.bfs_command.specs.declared.line.Line.{Line}
use Rattle.bfs_volume.specs.Mounts.{IsUnmounted, mounted_image}
use Rattle.bfs_run.specs.Runs.{HasRun}
use Rattle.bfs_run.proofs.Failed.{failures_since, run_since}
use Rattle.bfs_run.proofs.Ends.{same_why}
use Rattle.bfs_run.proofs.run.run_workload.Goals as goal

pub returns-in-Err-clause-unmounted : goal.returns-in-Err-clause-unmounted
returns-in-Err-clause-unmounted g c image held why is = subst (IsUnmounted image) (same_why c.in-Err.why why is) (c.in-Err.ensures.refused image held)

pub returns-in-Err-clause-unmounted_moments : goal.returns-in-Err-clause-unmounted_moments
returns-in-Err-clause-unmounted_moments g c image held not i left = c.in-Err.ensures.moments image held i left

pub returns-in-Ok-make_workload-clause-run : goal.returns-in-Ok-make_workload-clause-run
returns-in-Ok-make_workload-clause-run g c t0 image held from =
    let core = c.in-Ok.ensures.core t0 image held from in
    let out = c.run_lines.result in
    let begun = g.D.Disk.clock c.args.disk in
    inr (subst (λ (ls : List Line). HasRun t0 (mounted_image from) out.0 ls (g.D.Disk.state out.1) begun (g.D.Disk.since out.1) (g.C.Clock.stands c.args.clock) (g.D.Disk.faults c.args.disk) (g.D.Disk.faults out.1) (g.D.Disk.stops c.args.disk) (g.D.Disk.stops out.1)) c.in-Ok-make_workload.ensures
    (run_since t0 (mounted_image from) out.0 c.in-Ok-make_workload.script (g.D.Disk.state out.1) begun (g.D.Disk.since out.1) (g.C.Clock.stands c.args.clock) (g.D.Disk.faults c.args.disk) (g.D.Disk.faults c.in-Ok.volume.device.disk) (g.D.Disk.faults c.run_lines.result.1) (g.D.Disk.stops c.args.disk) (g.D.Disk.stops c.in-Ok.volume.device.disk) (g.D.Disk.stops c.run_lines.result.1) c.in-Ok.ensures.later c.in-Ok.ensures.stops
    (subst (λ (k : Option ℕ). HasRun t0 (mounted_image from) out.0 c.in-Ok-make_workload.script (g.D.Disk.state out.1) begun (g.D.Disk.since out.1) k (g.D.Disk.faults c.in-Ok.volume.device.disk) (g.D.Disk.faults c.run_lines.result.1) (g.D.Disk.stops c.in-Ok.volume.device.disk) (g.D.Disk.stops c.run_lines.result.1)) (ap g.C.Clock.stands c.in-Ok.ensures.clock) (c.run_lines.ensures.run t0 _ (mounted_image from) refl core c.in-Ok.ensures.going))))

pub run_lines-requires-clause-form : goal.run_lines-requires-clause-form
run_lines-requires-clause-form g c = subst (λ (ls : List Line). All IsLineInForm ls) (sym c.in-Ok-make_workload.ensures) (c.workload_is_in_form.ensures c.args.seed c.args.count)

pub returns-in-Err-make_workload-clause-run : goal.returns-in-Err-make_workload-clause-run
returns-in-Err-make_workload-clause-run g c t0 image held from =
    let core = c.in-Ok.ensures.core t0 image held from in
    let out = c.give_up.result in
    inr (run_since t0 (mounted_image from) out.0 (workload c.args.seed c.args.count) (g.D.Disk.state out.1) (g.D.Disk.clock c.args.disk) (g.D.Disk.since out.1) (g.C.Clock.stands c.args.clock) (g.D.Disk.faults c.args.disk) (g.D.Disk.faults c.in-Ok.volume.device.disk) (g.D.Disk.faults c.give_up.result.1) (g.D.Disk.stops c.args.disk) (g.D.Disk.stops c.in-Ok.volume.device.disk) (g.D.Disk.stops c.give_up.result.1) c.in-Ok.ensures.later c.in-Ok.ensures.stops
    (subst (λ (k : Option ℕ). HasRun t0 (mounted_image from) out.0 (workload c.args.seed c.args.count) (g.D.Disk.state out.1) (g.D.Disk.clock c.args.disk) (g.D.Disk.since out.1) k (g.D.Disk.faults c.in-Ok.volume.device.disk) (g.D.Disk.faults c.give_up.result.1) (g.D.Disk.stops c.in-Ok.volume.device.disk) (g.D.Disk.stops c.give_up.result.1)) (ap g.C.Clock.stands c.in-Ok.ensures.clock) (c.give_up.ensures.run t0 _ (mounted_image from) (workload c.args.seed c.args.count) refl core c.in-Ok.ensures.going)))

pub returns-in-Ok-make_workload-clause-failures : goal.returns-in-Ok-make_workload-clause-failures
returns-in-Ok-make_workload-clause-failures g c = inr (failures_since c.run_lines.result.0 (g.D.Disk.faults c.args.disk) (g.D.Disk.faults c.in-Ok.volume.device.disk) (g.D.Disk.faults c.run_lines.result.1) (g.D.Disk.stops c.args.disk) (g.D.Disk.stops c.in-Ok.volume.device.disk) (g.D.Disk.stops c.run_lines.result.1) c.in-Ok.ensures.later c.in-Ok.ensures.stops (c.run_lines.ensures.failures c.in-Ok.ensures.going))

pub returns-in-Err-make_workload-clause-failures : goal.returns-in-Err-make_workload-clause-failures
returns-in-Err-make_workload-clause-failures g c = inr (failures_since c.give_up.result.0 (g.D.Disk.faults c.args.disk) (g.D.Disk.faults c.in-Ok.volume.device.disk) (g.D.Disk.faults c.give_up.result.1) (g.D.Disk.stops c.args.disk) (g.D.Disk.stops c.in-Ok.volume.device.disk) (g.D.Disk.stops c.give_up.result.1) c.in-Ok.ensures.later c.in-Ok.ensures.stops (c.give_up.ensures.failures c.in-Ok.ensures.going))
