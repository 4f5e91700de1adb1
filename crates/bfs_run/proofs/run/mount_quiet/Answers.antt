use Rattle.std.proofs.Common.{inl, ⊎_elim}
use Rattle.std.proofs.Math.Logic.{∥∥₁_map}
use Rattle.bfs_volume.proofs.Mounting.{kept_quiet}
use Rattle.bfs_run.proofs.run.mount_quiet.Goals as goal

pub returns-in-Ok-mount-clause-core : goal.returns-in-Ok-mount-clause-core
returns-in-Ok-mount-clause-core g c t0 image held from =
    let begun = g.D.Disk.clock c.args.disk in
    let quiet = c.make_quiet.new.disk in
    let kept = kept_quiet image t0 begun (g.D.Disk.clock quiet) (g.D.Disk.since quiet) from (λ i was. c.in-Ok.ensures.moments image held i was) (g.met.D.Disk.fewer quiet) in
    c.in-Ok-mount.ensures.core t0 image begun c.in-Ok.ensures.clock ∣ kept ∣₁ (c.in-Ok.ensures.same image held) from

pub returns-in-Err-clause-moments : goal.returns-in-Err-clause-moments
returns-in-Err-clause-moments g c image held i left = ∣ inl (c.in-Err.ensures.moments image held i left) ∣₁

pub returns-in-Err-mount-clause-refused : goal.returns-in-Err-mount-clause-refused
returns-in-Err-mount-clause-refused g c image held = c.in-Err-mount.ensures.refused image (c.in-Ok.ensures.same image held)

pub returns-in-Err-mount-clause-moments : goal.returns-in-Err-mount-clause-moments
returns-in-Err-mount-clause-moments g c image held i left =
    ∥∥₁_map (c.in-Err-mount.ensures.time image (c.in-Ok.ensures.same image held))
    (λ time. ⊎_elim (λ was. inl (c.in-Ok.ensures.moments image held i was)) (λ goes. goes) (time.nothing_else (g.D.Disk.clock c.args.disk) i c.in-Ok.ensures.clock left))
