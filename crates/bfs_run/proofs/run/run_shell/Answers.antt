use Rattle.std.proofs.Common.{inr, refl, ℕ, Option, sym, ap, subst}
use Rattle.bfs_volume.specs.Mounts.{IsUnmounted, mounted_image}
use Rattle.bfs_run.specs.declared.run.Run.{Run}
use Rattle.bfs_run.specs.Runs.{AreLinesOf, HasRun, IsUnmountedRun}
use Rattle.bfs_run.proofs.Failed.{failures_since, run_since}
use Rattle.bfs_run.proofs.Ends.{early_lines, early_mounted, same_why}
use Rattle.bfs_run.proofs.run.run_shell.Goals as goal

pub returns-in-Err-clause-unmounted : goal.returns-in-Err-clause-unmounted
returns-in-Err-clause-unmounted g c image held why is = subst (IsUnmounted image) (same_why c.in-Err.why why is) (c.in-Err.ensures.refused image held)

pub returns-in-Err-clause-unmounted_moments : goal.returns-in-Err-clause-unmounted_moments
returns-in-Err-clause-unmounted_moments g c image held not i left = c.in-Err.ensures.moments image held i left

pub returns-in-Ok-read_script-clause-run : goal.returns-in-Ok-read_script-clause-run
returns-in-Ok-read_script-clause-run g c t0 image held from =
    let core = c.in-Ok.ensures.core t0 image held from in
    let out = c.run_lines.result in
    let run = subst (λ (k : Option ℕ). HasRun t0 (mounted_image from) out.0 c.in-Ok-read_script.script (g.D.Disk.state out.1) (g.D.Disk.clock c.args.disk) (g.D.Disk.since out.1) k (g.D.Disk.faults c.in-Ok.volume.device.disk) (g.D.Disk.faults c.run_lines.result.1) (g.D.Disk.stops c.in-Ok.volume.device.disk) (g.D.Disk.stops c.run_lines.result.1)) (ap g.C.Clock.stands c.in-Ok.ensures.clock) (c.run_lines.ensures.run t0 _ (mounted_image from) refl core c.in-Ok.ensures.going) in
    let run2 = run_since t0 (mounted_image from) out.0 c.in-Ok-read_script.script (g.D.Disk.state out.1) (g.D.Disk.clock c.args.disk) (g.D.Disk.since out.1) (g.C.Clock.stands c.args.clock) (g.D.Disk.faults c.args.disk) (g.D.Disk.faults c.in-Ok.volume.device.disk) (g.D.Disk.faults c.run_lines.result.1) (g.D.Disk.stops c.args.disk) (g.D.Disk.stops c.in-Ok.volume.device.disk) (g.D.Disk.stops c.run_lines.result.1) c.in-Ok.ensures.later c.in-Ok.ensures.stops run in
    inr (c.in-Ok-read_script.script, run2, λ left told. (let r = c.in-Ok-read_script.ensures.script left told in inr (r.0, r.1, r.2, c.run_lines.ensures.script r.0 r.3)))

pub returns-in-Ok-read_script-clause-script : goal.returns-in-Ok-read_script-clause-script
returns-in-Ok-read_script-clause-script g c left told =
    let r = c.in-Ok-read_script.ensures.script left told in
    inr (r.0, r.1, c.run_lines.ensures.script r.0 r.3)

pub returns-in-Err-read_script-clause-run : goal.returns-in-Err-read_script-clause-run
returns-in-Err-read_script-clause-run g c t0 image held from =
    let core = c.in-Ok.ensures.core t0 image held from in
    let lines = early_lines (g.R.Source.left c.args.source.now) c.in-Err-read_script.end c.in-Err-read_script.ensures.refused in
    let out = c.give_up.result in
    let run = subst (λ (k : Option ℕ). HasRun t0 (mounted_image from) out.0 lines.0 (g.D.Disk.state out.1) (g.D.Disk.clock c.args.disk) (g.D.Disk.since out.1) k (g.D.Disk.faults c.in-Ok.volume.device.disk) (g.D.Disk.faults c.give_up.result.1) (g.D.Disk.stops c.in-Ok.volume.device.disk) (g.D.Disk.stops c.give_up.result.1)) (ap g.C.Clock.stands c.in-Ok.ensures.clock) (c.give_up.ensures.run t0 _ (mounted_image from) lines.0 refl core c.in-Ok.ensures.going) in
    let run2 = run_since t0 (mounted_image from) out.0 lines.0 (g.D.Disk.state out.1) (g.D.Disk.clock c.args.disk) (g.D.Disk.since out.1) (g.C.Clock.stands c.args.clock) (g.D.Disk.faults c.args.disk) (g.D.Disk.faults c.in-Ok.volume.device.disk) (g.D.Disk.faults c.give_up.result.1) (g.D.Disk.stops c.args.disk) (g.D.Disk.stops c.in-Ok.volume.device.disk) (g.D.Disk.stops c.give_up.result.1) c.in-Ok.ensures.later c.in-Ok.ensures.stops run in
    inr (lines.0, run2, subst (λ (r : Run). AreLinesOf (g.R.Source.left c.args.source.now) r lines.0) (sym c.give_up.ensures.end) lines.1)

pub returns-in-Ok-read_script-clause-unmounted_moments : goal.returns-in-Ok-read_script-clause-unmounted_moments
returns-in-Ok-read_script-clause-unmounted_moments g c image held not = absurd (c.run_lines.ensures.ended not)

pub returns-in-Err-read_script-clause-unmounted_moments : goal.returns-in-Err-read_script-clause-unmounted_moments
returns-in-Err-read_script-clause-unmounted_moments g c image held not =
    absurd (early_mounted c.in-Err-read_script.end c.in-Err-read_script.ensures.early (subst IsUnmountedRun c.give_up.ensures.end not))

pub returns-in-Ok-read_script-clause-failures : goal.returns-in-Ok-read_script-clause-failures
returns-in-Ok-read_script-clause-failures g c = inr (failures_since c.run_lines.result.0 (g.D.Disk.faults c.args.disk) (g.D.Disk.faults c.in-Ok.volume.device.disk) (g.D.Disk.faults c.run_lines.result.1) (g.D.Disk.stops c.args.disk) (g.D.Disk.stops c.in-Ok.volume.device.disk) (g.D.Disk.stops c.run_lines.result.1) c.in-Ok.ensures.later c.in-Ok.ensures.stops (c.run_lines.ensures.failures c.in-Ok.ensures.going))

pub returns-in-Err-read_script-clause-failures : goal.returns-in-Err-read_script-clause-failures
returns-in-Err-read_script-clause-failures g c = inr (failures_since c.give_up.result.0 (g.D.Disk.faults c.args.disk) (g.D.Disk.faults c.in-Ok.volume.device.disk) (g.D.Disk.faults c.give_up.result.1) (g.D.Disk.stops c.args.disk) (g.D.Disk.stops c.in-Ok.volume.device.disk) (g.D.Disk.stops c.give_up.result.1) c.in-Ok.ensures.later c.in-Ok.ensures.stops (c.give_up.ensures.failures c.in-Ok.ensures.going))
