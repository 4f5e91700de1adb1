use Rattle.std.proofs.Common.{◌≡◌, ◌∙◌, ◌*◌, ◌/◌, ◌≤◌, ◌<◌, ◌^◌, ℕ, length, sym, ap, subst, arith, Option}
use Rattle.std.proofs.lemmas.Result.{on_ok_weaker}
use Rattle.bfs_disk.specs.State.{State}
use Rattle.bfs_disk.specs.Disk.{InRange, ReadsSectors}
use Rattle.bfs_cache.specs.Agreement.{Agrees}
use Rattle.bfs_device.specs.Layouts.{layout_of}
use Rattle.bfs_device.proofs.Sizes.{sizes, place_small, in_range}
use Rattle.bfs_device.proofs.Reading.{reads_as}
use Rattle.bfs_device.proofs.data.read_cached.Goals as goal

pub read-requires-clause-whole : goal.read-requires-clause-whole
read-requires-clause-whole g c = subst (λ (n : ℕ). n ≡ 512 * (n / 512)) (sym c.requires.long) (sizes c.args.sup.now c.requires.valid).0

pub read-requires-clause-small : goal.read-requires-clause-small
read-requires-clause-small g c =
    let s = c.args.sup.now in
    let small : (layout_of s).sectors * c.args.place ≤ 67108864 = place_small s c.requires.valid c.args.place c.requires.place in
    subst (λ (n : ℕ). n * c.args.place < 2 ^ 64) (sym (ap (λ (n : ℕ). n / 512) c.requires.long)) (omega (arith, small))

pub read-requires-clause-range : goal.read-requires-clause-range
read-requires-clause-range g c =
    subst (λ (n : ℕ). InRange (g.D.Disk.size c.args.disk.now) (n * c.args.place) c.args.into.now) (sym (ap (λ (n : ℕ). n / 512) c.requires.long))
    (in_range c.args.sup.now c.requires.valid (g.D.Disk.size c.args.disk.now) c.args.place c.args.into.now c.requires.on_disk c.requires.place c.requires.long)

pub read-requires-clause-agrees : goal.read-requires-clause-agrees
read-requires-clause-agrees g c = subst (λ (n : ℕ). Agrees (g.D.Disk.state c.args.disk.now) n c.args.cache.now.kept) (sym (ap (λ (n : ℕ). n / 512) c.requires.long)) c.requires.agrees

pub returns-clause-bytes : goal.returns-clause-bytes
returns-clause-bytes g c =
    let disk = c.args.disk.now in
    let s = c.args.sup.now in
    on_ok_weaker c.read.result
    (λ reads. reads_as s (g.D.Disk.state disk) (g.D.Disk.size disk) c.args.place c.read.new.into c.requires.valid (g.met.D.Disk.filled disk) (g.met.D.Disk.sized disk) c.requires.on_disk c.requires.place (c.read.auto.into ∙ c.requires.long)
    (subst (λ (n : ℕ). ReadsSectors (g.D.Disk.state disk) (n * c.args.place) c.read.new.into) (ap (λ (n : ℕ). n / 512) c.requires.long) reads))
    c.read.ensures.bytes

pub returns-clause-agrees : goal.returns-clause-agrees
returns-clause-agrees g c =
    let disk = c.args.disk.now in
    subst (λ (n : ℕ). Agrees (g.D.Disk.state disk) n c.read.new.self.kept) (ap (λ (n : ℕ). n / 512) c.requires.long)
    (subst (λ (told : Option State). Agrees told (length c.args.into.now / 512) c.read.new.self.kept) c.read.ensures.state c.read.ensures.agrees)
