use Rattle.std.proofs.Common.{◌≡◌, ◌⊎◌, inl, ⊎_elim, ◌+◌, ◌*◌, ◌/◌, ℕ, List, length, arith, ap, subst, sym, ◌∙◌}
use Rattle.std.proofs.lemmas.Int.{to_z-of_z}
use Rattle.std.specs.Int.{w64}
use Rattle.bfs_base.specs.Moments.{Passed}
use Rattle.bfs_base.proofs.Moments.{passed_none}
use Rattle.bfs_disk.specs.State.{Tells, Holds}
use Rattle.bfs_disk.specs.Disk.{HasSectors}
use Rattle.bfs_super.specs.Layout.{sector_of}
use Rattle.bfs_mkfs.specs.Laid.{HasTrees}
use Rattle.bfs_mkfs.specs.Format.{IsNew, IsRefused}
use Rattle.bfs_mkfs.specs.Written.{IsBlank, IsWritten, area}
use Rattle.bfs_mkfs.proofs.Wider.{passed_wider}
use Rattle.bfs_mkfs.proofs.Meets.{held_image, has_fewer, told_size}
use Rattle.bfs_mkfs.proofs.Prepared.{Prepared, sectors_in, places, at_order, at_range, left_new, reads_new}
use Rattle.bfs_mkfs.proofs.mkfs.format.Goals as goal
use Rattle.bfs_mkfs.proofs.mkfs.format.Goals.{After-deref-2, After-write_volume}
use Rattle.bfs_mkfs.proofs.mkfs.format.Given.{Over}

pub returns-in_default-clause-moments : goal.returns-in_default-clause-moments
returns-in_default-clause-moments g c = λ image held i left. inl (held_image _ image i held (g.met.D.Disk.only_now c.args.disk.now i left))

pub returns-in_default-trees-clause-moments : goal.returns-in_default-trees-clause-moments
returns-in_default-trees-clause-moments g c = λ image held i left. inl (held_image _ image i held (g.met.D.Disk.only_now c.args.disk.now i left))

pub returns-in_default-clause-time : goal.returns-in_default-clause-time
returns-in_default-clause-time g c = λ image held. passed_none _ _ _

pub returns-in_default-trees-clause-time : goal.returns-in_default-trees-clause-time
returns-in_default-trees-clause-time g c = λ image held. passed_none _ _ _

-- what is in memory before the disk is touched
ready : (g : Over) (c : After-deref-2 g) → Prepared c.args.geometry.now c.args.label.now c.args.stamp c.print-block.result c.deref.result.now c.deref-2.result.now
ready g c = record {
  planned = c.requires.plan;
  block_is = c.print-block.ensures.sector ∙ ap sector_of c.superblock.ensures;
  again = c.print-block.ensures.again ∙ c.superblock.ensures;
  bits_are = c.deref.ensures.value ∙ c.in-Ok.ensures;
  leaves_are = subst (HasTrees c.args.geometry.now c.args.stamp) (sym c.deref-2.ensures.value)
      (subst (λ z. HasTrees c.args.geometry.now z c.in-Ok-trees.trees.items) (to_z-of_z w64 c.args.stamp c.ranges.stamp) c.in-Ok-trees.ensures);
}

pub write_volume-requires-clause-whole : goal.write_volume-requires-clause-whole
write_volume-requires-clause-whole g c = let p = places _ _ _ _ _ _ (ready g c) in omega (arith, p.long_bitmap)

pub write_volume-requires-clause-whole_second : goal.write_volume-requires-clause-whole_second
write_volume-requires-clause-whole_second g c = let p = places _ _ _ _ _ _ (ready g c) in omega (arith, p.long_trees)

pub write_volume-requires-clause-order : goal.write_volume-requires-clause-order
write_volume-requires-clause-order g c = at_order _ _ _ _ _ _ (ready g c) c.from-at.result c.from-at.ensures

pub write_volume-requires-clause-range : goal.write_volume-requires-clause-range
write_volume-requires-clause-range g c =
    has_fewer (g.D.Disk.size c.args.disk.now) (sectors_in c.args.geometry.now) (c.from-at.result * c.args.geometry.now.root + length c.deref-2.result.now / 512) c.requires.room (at_range _ _ _ _ _ _ (ready g c) c.from-at.result c.from-at.ensures)

-- it, as the later goals see it
abbrev IsReady : (g : Over) (c : After-write_volume g) → Type 0
IsReady g c = Prepared c.args.geometry.now c.args.label.now c.args.stamp c.print-block.result c.deref.result.now c.deref-2.result.now

-- what a crash may leave since entry, by what is written and by what it means
abbrev Half : (g : Over) (c : After-write_volume g) (image i : List ℕ) → Type 0
Half g c image i =
    (i ≡ image) ⊎ (IsBlank i ⊎ IsWritten c.print-block.result (area c.from-at.result c.deref.result.now) (area (c.from-at.result * c.args.geometry.now.root) c.deref-2.result.now) (sectors_in c.args.geometry.now) i)

abbrev Left : (g : Over) (c : After-write_volume g) (image i : List ℕ) → Type 0
Left g c image i = (i ≡ image) ⊎ (IsRefused i ⊎ IsNew c.args.geometry.now c.args.label.now c.args.stamp i)

time : (g : Over) (c : After-write_volume g) → IsReady g c → (image : List ℕ) → Tells (g.D.Disk.state c.args.disk.now) (Holds image)
    → Passed (g.D.Disk.clock c.args.disk.now) (g.D.Disk.clock c.write_volume.new.disk) (g.D.Disk.since c.args.disk.now) (g.D.Disk.since c.write_volume.new.disk) (Left g c image)
time g c r image held =
    let range = at_range _ _ _ _ _ _ r c.from-at.result c.from-at.ensures in
    passed_wider {first = Half g c image} (Left g c image) (c.write_volume.ensures.time (sectors_in c.args.geometry.now) image range c.requires.room held) (left_new _ _ _ _ _ _ r c.from-at.result c.from-at.ensures image)

moments : (g : Over) (c : After-write_volume g) → IsReady g c → (image : List ℕ) → Tells (g.D.Disk.state c.args.disk.now) (Holds image)
    → (i : List ℕ) → g.D.Disk.since c.write_volume.new.disk (g.D.Disk.clock c.args.disk.now) i → Left g c image i
moments g c r image held i left =
    ⊎_elim (λ was. inl (held_image _ image i held (g.met.D.Disk.only_now c.args.disk.now i was))) (λ now. now) ((time g c r image held).nothing_else (g.D.Disk.clock c.args.disk.now) i (omega arith) left)

pub returns-in-Ok-write_volume-clause-moments : goal.returns-in-Ok-write_volume-clause-moments
returns-in-Ok-write_volume-clause-moments g c = moments g (goal.at.returns-in-Ok-write_volume-clause-moments g c).After-write_volume (ready g (goal.at.returns-in-Ok-write_volume-clause-moments g c).After-deref-2)

pub returns-in-Ok-write_volume-clause-time : goal.returns-in-Ok-write_volume-clause-time
returns-in-Ok-write_volume-clause-time g c = time g (goal.at.returns-in-Ok-write_volume-clause-time g c).After-write_volume (ready g (goal.at.returns-in-Ok-write_volume-clause-time g c).After-deref-2)

pub returns-clause-moments : goal.returns-clause-moments
returns-clause-moments g c = moments g (goal.at.returns-clause-moments g c).After-write_volume (ready g (goal.at.returns-clause-moments g c).After-deref-2)

pub returns-clause-time : goal.returns-clause-time
returns-clause-time g c = time g (goal.at.returns-clause-time g c).After-write_volume (ready g (goal.at.returns-clause-time g c).After-deref-2)

pub returns-in-Ok-write_volume-clause-made : goal.returns-in-Ok-write_volume-clause-made
returns-in-Ok-write_volume-clause-made g c = λ image held.
    let r = ready g (goal.at.returns-in-Ok-write_volume-clause-made g c).After-deref-2 in
    let n = sectors_in c.args.geometry.now in
    let done = c.in-Ok-write_volume.ensures.done image held in
    let has : HasSectors (g.D.Disk.size c.write_volume.new.disk) n = subst (λ z. HasSectors z n) (sym c.write_volume.ensures.size) c.requires.room in
    let room = told_size _ (g.D.Disk.size c.write_volume.new.disk) done.0 n done.1 (g.met.D.Disk.sized c.write_volume.new.disk) has in
    (done.0, done.1, (done.2.0, λ k reads. reads_new _ _ _ _ _ _ r c.from-at.result c.from-at.ensures done.0 k room done.2.1 reads))
