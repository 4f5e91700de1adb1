use Rattle.std.proofs.Common.{◌≡◌, ℕ, List, Some, sym, subst, arith}
use Rattle.bfs_log.proofs.Replays.{replayed_one}
use Rattle.bfs_core.specs.Chains.{image_in}
use Rattle.bfs_core.specs.Moments.{adopted_from}
use Rattle.bfs_device_blocks.specs.Lent.{HasCore}
use Rattle.std.proofs.Props.{props}
use Rattle.std.proofs.Math.Logic.{∥∥₁_elim, ∥∥₁_map}
use Rattle.bfs_base.specs.Moments.{Passed}
use Rattle.bfs_replay.specs.Recover.{GoesOn}
use Rattle.bfs_mount.proofs.Mounting.{kept_mounting, mounted_again}
use Rattle.bfs_volume.proofs.volume.Volume.mount.Goals as goal

pub returns-in-Ok-open_replayed-clause-core : goal.returns-in-Ok-open_replayed-clause-core
returns-in-Ok-open_replayed-clause-core g c t0 image begun early kept held from =
    let got = c.in-Ok.ensures.replayed image held in
    let disk = c.args.disk in
    let mid = c.replay_and_check.new.disk in
    let v = c.in-Ok-open_replayed.volume in
    let one : got.0 ≡ from.next = replayed_one image got.0 from.next got.1 from.replayed in
    subst (λ (x : List ℕ). HasCore t0 (adopted_from begun (g.D.Disk.clock v.device.disk) (Some (image_in x))) v.space.view v.device.books (g.D.Disk.state v.device.disk) (g.D.Disk.clock v.device.disk) (g.D.Disk.since v.device.disk)) one
    (c.in-Ok-open_replayed.ensures.core t0 got.0 begun (let later = c.in-Ok.ensures.clock in omega (arith, early, later))
    (∥∥₁_elim kept (Prim.hlevel props) (λ k. ∥∥₁_map (c.in-Ok.ensures.time image held) (λ time. kept_mounting image t0 begun (g.D.Disk.clock disk) (g.D.Disk.clock mid) (g.D.Disk.since disk) (g.D.Disk.since mid) from early k (g.met.D.Disk.fewer mid) time)))
    got.2 (mounted_again image got.0 t0 from got.1))

pub returns-in-Err-open_replayed-clause-time : goal.returns-in-Err-open_replayed-clause-time
returns-in-Err-open_replayed-clause-time g c image held =
    let disk = c.args.disk in
    subst (λ k. ∥ Passed (g.D.Disk.clock disk) (g.D.Disk.clock k) (g.D.Disk.since disk) (g.D.Disk.since k) (GoesOn image) ∥₁) (sym c.in-Err-open_replayed.ensures.back) (c.in-Ok.ensures.time image held)
