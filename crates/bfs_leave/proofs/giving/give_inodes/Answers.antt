use Rattle.std.proofs.Common.{◌≡◌, ◌∙◌, take, refl, sym, ap, subst, arith}
use Rattle.std.specs.List.{flat_map}
use Rattle.std.proofs.lemmas.List.{take_all}
use Rattle.bfs_super.specs.Geometry.{geometry_of}
use Rattle.bfs_bitmap.specs.Runs.{Room}
use Rattle.bfs_stream.specs.Grown.{IsOfVolume}
use Rattle.bfs_stream.specs.Sizes.{sizes_of}
use Rattle.bfs_stream.proofs.Arrays.{later_twice}
use Rattle.bfs_stream.proofs.Writes.{later_none}
use Rattle.bfs_sound.specs.Inodes.{inode_blocks}
use Rattle.bfs_shift.specs.Shifts.{volume_in}
use Rattle.bfs_shift.proofs.Basics.{some_bytes}
use Rattle.bfs_leave.proofs.Inodes.{given_as, so_far_none, owns_here, so_far_more}
use Rattle.bfs_leave.proofs.giving.give_inodes.Goals as goal

pub loop-i-init : goal.loop-i-init
loop-i-init g c = record {
  size = refl;
  frame = refl;
  rest = refl;
  kept = refl;
  stands = refl;
  volume = c.requires.volume;
  later = later_none (g.E.Blocks.counts c.args.edits.now);
  stays = λ k t. t;
  gave = λ m is fits loose. so_far_none (geometry_of c.args.site.sup) c.args.bitmap.now m c.args.ids.now (g.E.Blocks.told c.args.edits.now) (g.E.Blocks.changed c.args.edits.now) is fits loose;
}

pub loop-i-preserved : goal.loop-i-preserved
loop-i-preserved g c =
    let s = c.args.site.sup in
    let room = geometry_of s in
    let v = c.args.bitmap.now in
    let now = c.loop-i.bitmap in
    let later = c.give_inode.new.bitmap in
    let rest = c.in-Ok.ensures.rest ∙ ap (λ (x : Room). record x { given = later.given; tally = later.tally }) c.loop-i.invariant.rest in
    record {
      size = c.in-Ok.ensures.size ∙ c.loop-i.invariant.size;
      frame = c.in-Ok.ensures.frame ∙ c.loop-i.invariant.frame;
      rest = rest;
      kept = c.in-Ok.ensures.kept ∙ c.loop-i.invariant.kept;
      stands = c.in-Ok.ensures.standing ∙ c.loop-i.invariant.stands;
      volume = subst (IsOfVolume (sizes_of s)) (sym rest) (record { block_size = c.requires.volume.block_size; blocks = c.requires.volume.blocks; group_blocks = c.requires.volume.group_blocks });
      later = later_twice (g.E.Blocks.counts c.args.edits.now) (g.E.Blocks.counts c.loop-i.edits) (g.E.Blocks.counts c.give_inode.new.edits) c.loop-i.invariant.later c.in-Ok.ensures.later;
      stays = λ k t. c.in-Ok.ensures.stays k (c.loop-i.invariant.stays k t);
      gave = λ m is fits loose.
          let far = c.loop-i.invariant.gave m is fits loose in
          let low = c.loop-i-test.true in
          let owns = owns_here room v now m c.args.ids.now c.loop-i.i (g.E.Blocks.told c.loop-i.edits) (g.E.Blocks.changed c.args.edits.now) (g.E.Blocks.changed c.loop-i.edits) (some_bytes s c.requires.valid) c.loop-i.invariant.volume low far in
          so_far_more room v now m c.args.ids.now c.loop-i.i (g.E.Blocks.told c.loop-i.edits) (g.E.Blocks.changed c.args.edits.now) (g.E.Blocks.changed c.loop-i.edits) (some_bytes s c.requires.valid) c.loop-i.invariant.volume low far
          later (g.E.Blocks.told c.give_inode.new.edits) (g.E.Blocks.changed c.give_inode.new.edits) c.loop-i.invariant.rest c.in-Ok.ensures.rest
          (c.in-Ok.ensures.given far.gave.map far.gave.is owns);
    }

pub returns-clause-given : goal.returns-clause-given
returns-clause-given g c m is fits loose =
    let high = c.loop-i.auto.i-end in
    let low = c.loop-i-test.false in
    let far = c.loop-i.invariant.gave m is fits loose in
    let all : take c.loop-i.i c.args.ids.now ≡ c.args.ids.now = take_all c.loop-i.i c.args.ids.now (omega (arith, low)) in
    given_as c.args.bitmap.now c.loop-i.bitmap _ _ m (g.E.Blocks.told c.loop-i.edits) (g.E.Blocks.changed c.args.edits.now) (g.E.Blocks.changed c.loop-i.edits)
    (ap (flat_map (inode_blocks (volume_in (geometry_of c.args.site.sup) m))) all) far.gave

pub returns-in-Err-clause-sound : goal.returns-in-Err-clause-sound
returns-in-Err-clause-sound g c m is fits loose =
    let s = c.args.site.sup in
    let far = c.loop-i.invariant.gave m is fits loose in
    c.in-Err.ensures.sound far.gave.map far.gave.is
    (owns_here (geometry_of s) c.args.bitmap.now c.loop-i.bitmap m c.args.ids.now c.loop-i.i (g.E.Blocks.told c.loop-i.edits) (g.E.Blocks.changed c.args.edits.now) (g.E.Blocks.changed c.loop-i.edits) (some_bytes s c.requires.valid) c.loop-i.invariant.volume c.loop-i-test.true far)
