use Rattle.std.proofs.Common.{◌≡◌, ◌*◌, ◌/◌, ◌≤◌, ℕ, sym, ap, subst, arith}
use Rattle.bfs_disk.specs.Disk.{InRange}
use Rattle.bfs_device.specs.Layouts.{layout_of}
use Rattle.bfs_device.proofs.Sizes.{sizes, place_small, in_range}
use Rattle.bfs_device.proofs.calls.write_block.Goals as goal

pub overflow_mul-sectors : goal.overflow_mul-sectors
overflow_mul-sectors g c =
    let s = c.args.sup.now in
    let small : (layout_of s).sectors * c.args.place ≤ 67108864 = place_small s c.requires.valid c.args.place c.requires.place in
    let same : c.from-sectors.result * c.args.place ≡ (layout_of s).sectors * c.args.place = ap (λ (n : ℕ). n * c.args.place) c.from-sectors.ensures in
    omega (arith, small, same)

pub write-requires-clause-whole : goal.write-requires-clause-whole
write-requires-clause-whole g c = subst (λ (n : ℕ). n ≡ 512 * (n / 512)) (sym c.requires.long) (sizes c.args.sup.now c.requires.valid).0

pub write-requires-clause-range : goal.write-requires-clause-range
write-requires-clause-range g c =
    subst (λ (n : ℕ). InRange (g.D.Disk.size c.args.disk.now) (n * c.args.place) c.args.bytes.now) (sym c.from-sectors.ensures)
    (in_range c.args.sup.now c.requires.valid (g.D.Disk.size c.args.disk.now) c.args.place c.args.bytes.now c.requires.on_disk c.requires.place c.requires.long)
