use Rattle.std.proofs.Common.{◌≡◌, ◌∙◌, ◌*◌, ◌/◌, ◌≤◌, ℕ, sym, ap, subst, arith}
use Rattle.std.proofs.lemmas.Result.{on_ok_weaker}
use Rattle.bfs_disk.specs.Disk.{InRange, ReadsSectors}
use Rattle.bfs_log.specs.Replay.{block_sectors}
use Rattle.bfs_replay.proofs.Sizes.{sizes, place_small, in_range}
use Rattle.bfs_replay.proofs.Homes.{are_read}
use Rattle.bfs_replay.proofs.calls.read_block.Goals as goal

pub overflow_mul-sectors : goal.overflow_mul-sectors
overflow_mul-sectors g c =
    let s = c.args.sup.now in
    let small : block_sectors s * c.args.place ≤ 67108864 = place_small s c.requires.valid c.args.place c.requires.place in
    let same : c.from-sectors.result * c.args.place ≡ block_sectors s * c.args.place = ap (λ (n : ℕ). n * c.args.place) c.from-sectors.ensures in
    omega (arith, small, same)

pub read-requires-clause-whole : goal.read-requires-clause-whole
read-requires-clause-whole g c = subst (λ (n : ℕ). n ≡ 512 * (n / 512)) (sym c.requires.long) (sizes c.args.sup.now c.requires.valid).0

pub read-requires-clause-range : goal.read-requires-clause-range
read-requires-clause-range g c =
    subst (λ (n : ℕ). InRange (g.D.Disk.size c.args.disk.now) (n * c.args.place) c.args.into.now) (sym c.from-sectors.ensures)
    (in_range c.args.sup.now c.requires.valid (g.D.Disk.size c.args.disk.now) c.args.place c.args.into.now c.requires.on_disk c.requires.place c.requires.long)

pub returns-clause-bytes : goal.returns-clause-bytes
returns-clause-bytes g c =
    let disk = c.args.disk.now in
    let s = c.args.sup.now in
    on_ok_weaker c.read.result
    (λ reads. are_read (g.D.Disk.state disk) (block_sectors s) c.args.place c.read.new.into (c.read.auto.into ∙ c.requires.long ∙ (sizes s c.requires.valid).0)
    (subst (λ (n : ℕ). ReadsSectors (g.D.Disk.state disk) (n * c.args.place) c.read.new.into) c.from-sectors.ensures reads))
    c.read.ensures.bytes
