use Rattle.std.proofs.Common.{refl, ◌≡◌, ◌∙◌, ◌+◌, ◌*◌, ◌/◌, ◌<◌, ◌≤◌, ◌++◌, [], ◌∷◌, ℕ, List, sym, ap, subst, arith, Bool, true}
use Rattle.std.proofs.lemmas.Result.{on_ok_weaker}
use Rattle.bfs_base.proofs.Moments.{passed_on}
use Rattle.bfs_base.specs.Lists.{Has}
use Rattle.bfs_base.specs.Moments.{Elapses}
use Rattle.bfs_disk.specs.State.{Tells, written}
use Rattle.bfs_disk.specs.Disk.{InRange, MayLeave, told_written}
use Rattle.bfs_disk.proofs.Calls.{passed_write, passed_quiet}
use Rattle.bfs_super.specs.Conditions.{natural}
use Rattle.bfs_super.specs.Geometry.{geometry_of}
use Rattle.bfs_log.specs.Entry.{log_first}
use Rattle.bfs_log.specs.Replay.{Home, AgreeBut, block_sectors, blocks_of, home_places}
use Rattle.bfs_replay.specs.Homing.{Homing, IsLogOf}
use Rattle.bfs_replay.specs.Steps.{AreRead}
use Rattle.bfs_replay.proofs.Sizes.{sizes, place_small, in_range, log_inside}
use Rattle.bfs_replay.proofs.Homes.{homing_image, home_written}
use Rattle.bfs_replay.proofs.calls.write_home.Goals as goal
use Rattle.bfs_replay.proofs.calls.write_home.Given.{Over}

pub read_block-requires-clause-place : goal.read_block-requires-clause-place
read_block-requires-clause-place g c = subst (λ (n : ℕ). n + c.args.at < natural c.args.sup.now.num_blocks) (sym c.block_of.ensures) (log_inside c.args.sup.now c.requires.valid c.args.at c.requires.at)

pub returns-in-Err-clause-time : goal.returns-in-Err-clause-time
returns-in-Err-clause-time g c image all done log has known =
    passed_quiet _ (AgreeBut (block_sectors c.args.sup.now) all image) c.read_block.ensures.time known.0 known.1 (λ i left. homing_image refl (block_sectors c.args.sup.now) all done image i known.0 known.2 left)

pub overflow_mul-sectors : goal.overflow_mul-sectors
overflow_mul-sectors g c =
    let s = c.args.sup.now in
    let small : block_sectors s * c.args.home ≤ 67108864 = place_small s c.requires.valid c.args.home c.requires.home in
    let same : c.from-sectors.result * c.args.home ≡ block_sectors s * c.args.home = ap (λ (n : ℕ). n * c.args.home) c.from-sectors.ensures in
    omega (arith, small, same)

pub write-requires-clause-whole : goal.write-requires-clause-whole
write-requires-clause-whole g c = subst (λ (n : ℕ). n ≡ 512 * (n / 512)) (sym (c.read_block.auto.into ∙ c.requires.long)) (sizes c.args.sup.now c.requires.valid).0

pub write-requires-clause-range : goal.write-requires-clause-range
write-requires-clause-range g c =
    let buffer = c.read_block.new.into in
    let size = g.D.Disk.size c.read_block.new.disk in
    subst (λ (n : ℕ). InRange size (n * c.args.home) buffer) (sym c.from-sectors.ensures)
    (subst (λ z. InRange z (block_sectors c.args.sup.now * c.args.home) buffer) (sym c.in-Ok.ensures.size)
    (in_range c.args.sup.now c.requires.valid (g.D.Disk.size c.args.disk.now) c.args.home buffer c.requires.on_disk c.requires.home (c.read_block.auto.into ∙ c.requires.long)))

-- the home as it was written
step : (g : Over) (c : goal.After-write g) (quiet : Bool) (image : List ℕ) (all done : List Home) → IsLogOf image c.args.sup.now all → Has (home_places all) c.args.home
    → (known : Tells (g.D.Disk.state c.args.disk.now) (Homing quiet (block_sectors c.args.sup.now) all done image))
    → Homing quiet (block_sectors c.args.sup.now) all (done ++ record { place = c.args.home; bytes = blocks_of image (log_first (geometry_of c.args.sup.now) + c.args.at) } ∷ []) image
    (written known.0 (block_sectors c.args.sup.now * c.args.home) c.read_block.new.into)
step g c quiet image all done log has known =
    let s = c.args.sup.now in
    let disk = c.args.disk.now in
    home_written s c.requires.valid (g.D.Disk.state disk) (g.D.Disk.size disk) (g.met.D.Disk.filled disk) (g.met.D.Disk.sized disk) c.requires.on_disk c.args.at c.args.home c.requires.at c.requires.home c.read_block.new.into
    (subst (λ (n : ℕ). AreRead (g.D.Disk.state disk) (block_sectors s) (n + c.args.at) c.read_block.new.into) c.block_of.ensures c.in-Ok.ensures.bytes) image all done log has known

-- the write, at its place
place_is : (g : Over) (c : goal.After-write g) → c.from-sectors.result * c.args.home ≡ block_sectors c.args.sup.now * c.args.home
place_is g c = ap (λ (n : ℕ). n * c.args.home) c.from-sectors.ensures

pub returns-clause-next : goal.returns-clause-next
returns-clause-next g c quiet image all done log has known =
    let s = c.args.sup.now in
    let disk = c.args.disk.now in
    let r = block_sectors s in
    let new = g.D.Disk.state c.write.new.self in
    let buffer = c.read_block.new.into in
    on_ok_weaker c.write.result
    (λ is. (
      written known.0 (r * c.args.home) buffer,
      is ∙ ap (λ (n : ℕ). told_written (g.D.Disk.state c.read_block.new.disk) n buffer) (place_is g c) ∙ ap (λ o. told_written o (r * c.args.home) buffer) (c.in-Ok.ensures.state ∙ known.1),
      step g c quiet image all done log has known,
    ))
    c.write.ensures.written

pub returns-clause-time : goal.returns-clause-time
returns-clause-time g c image all done log has known =
    let s = c.args.sup.now in
    let r = block_sectors s in
    let disk = c.args.disk.now in
    let mid = c.read_block.new.disk in
    let buffer = c.read_block.new.into in
    passed_on
    (passed_quiet (g.D.Disk.state disk) (AgreeBut r all image) c.in-Ok.ensures.time known.0 known.1 (λ i left. homing_image refl r all done image i known.0 known.2 left))
    (passed_write (g.D.Disk.state mid) (r * c.args.home) buffer (AgreeBut r all image)
    (subst (λ (n : ℕ). Elapses (g.D.Disk.state mid) c.write.result (g.D.Disk.clock mid) (g.D.Disk.clock c.write.new.self) (g.D.Disk.since mid) (g.D.Disk.since c.write.new.self) (MayLeave (told_written (g.D.Disk.state mid) n buffer))) (place_is g c) c.write.ensures.time)
    known.0 (c.in-Ok.ensures.state ∙ known.1)
    (λ i left. homing_image refl r all (done ++ record { place = c.args.home; bytes = blocks_of image (log_first (geometry_of s) + c.args.at) } ∷ []) image i (written known.0 (r * c.args.home) buffer) (step g c true image all done log has known) left))
