use Rattle.std.proofs.Common.{◌∙◌, inl, ap, sym, subst, arith, refl}
use Rattle.bfs_bitmap.specs.Runs.{Room}
use Rattle.bfs_stream.specs.Grown.{IsOfVolume}
use Rattle.bfs_growth.proofs.Twice.{grown_so_none, grown_so_more, grown_so_far}
use Rattle.bfs_stream.proofs.Arrays.{later_twice}
use Rattle.bfs_stream.proofs.Writes.{changed_twice, later_none}
use Rattle.bfs_growth.proofs.Stops.{stop_so_far}
use Rattle.bfs_growth.proofs.next.add_all.Goals as goal

pub loop-left-preserved : goal.loop-left-preserved
loop-left-preserved g c =
    let rest = c.in-Ok.ensures.rest ∙ ap (λ (x : Room). record x { tally = c.add.new.bitmap.tally }) c.loop-left.invariant.rest in
    record {
      long = c.in-Ok.ensures.length;
      size = c.in-Ok.ensures.size ∙ c.loop-left.invariant.size;
      frame = c.in-Ok.ensures.frame ∙ c.loop-left.invariant.frame;
      rest = rest;
      volume = subst (IsOfVolume c.args.stream.now.sizes) (sym rest) (record { block_size = c.requires.volume.block_size; blocks = c.requires.volume.blocks; group_blocks = c.requires.volume.group_blocks });
      grown = λ m is owns.
          let so_far = c.loop-left.invariant.grown m is owns in
          let step = c.in-Ok.ensures.grown so_far.grown.2.map so_far.grown.2.is so_far.grown.2.owns in
          grown_so_more c.args.stream.now c.args.bitmap.now c.loop-left.bitmap c.add.new.bitmap m c.args.blocks c.loop-left.left c.less-left.result c.in-Ok.added c.at_most.result (g.E.Blocks.told c.loop-left.edits) (g.E.Blocks.told c.add.new.edits) (g.E.Blocks.changed c.args.edits.now) (g.E.Blocks.changed c.loop-left.edits) (g.E.Blocks.changed c.add.new.edits) so_far c.loop-left.invariant.rest
          step (let t = c.loop-left-test.true in omega (arith, t)) c.less-left.ensures c.at_most.ensures.few c.in-Ok.ensures.most (c.in-Ok.ensures.exact so_far.grown.2.map so_far.grown.2.is so_far.grown.2.owns step.2.map step.2.is);
      left = let e = c.less-left.ensures in let le = c.loop-left.invariant.left in omega (arith, e, le);
      later = later_twice (g.E.Blocks.counts c.args.edits.now) (g.E.Blocks.counts c.loop-left.edits) (g.E.Blocks.counts c.add.new.edits) c.loop-left.invariant.later c.in-Ok.ensures.later;
      changed = changed_twice c.args.stream.now.sizes c.args.bitmap.now c.loop-left.bitmap (g.E.Blocks.changed c.args.edits.now) (g.E.Blocks.changed c.loop-left.edits) (g.E.Blocks.changed c.add.new.edits) c.loop-left.invariant.rest c.loop-left.invariant.changed c.in-Ok.ensures.changed;
      stays = λ k t. c.in-Ok.ensures.stays k (c.loop-left.invariant.stays k t);
    }

pub loop-left-init : goal.loop-left-init
loop-left-init g c = record {
  long = c.requires.length;
  size = refl;
  frame = refl;
  rest = refl;
  volume = c.requires.volume;
  grown = λ m is owns. grown_so_none c.args.stream.now c.args.bitmap.now m c.args.blocks (g.E.Blocks.told c.args.edits.now) (g.E.Blocks.changed c.args.edits.now) owns is;
  left = omega arith;
  later = later_none (g.E.Blocks.counts c.args.edits.now);
  changed = λ k e. inl e;
  stays = λ k t. t;
}

pub returns-clause-grown : goal.returns-clause-grown
returns-clause-grown g c m is owns =
    let done = c.loop-left-test.false in
    grown_so_far c.args.stream.now c.args.bitmap.now c.loop-left.bitmap m c.args.blocks c.loop-left.left (g.E.Blocks.told c.loop-left.edits) (g.E.Blocks.changed c.args.edits.now) (g.E.Blocks.changed c.loop-left.edits) (omega (arith, done)) (c.loop-left.invariant.grown m is owns)

pub returns-in-Err-clause-faults : goal.returns-in-Err-clause-faults
returns-in-Err-clause-faults g c m is owns has =
    let so_far = c.loop-left.invariant.grown m is owns in
    stop_so_far c.args.stream.now c.args.bitmap.now c.loop-left.bitmap m c.args.blocks c.loop-left.left (g.E.Blocks.told c.loop-left.edits) (g.E.Blocks.changed c.args.edits.now) (g.E.Blocks.changed c.loop-left.edits) so_far c.loop-left.invariant.rest
    (let t = c.loop-left-test.true in omega (arith, t)) has c.in-Err.fault (c.in-Err.ensures.faults so_far.grown.2.map so_far.grown.2.is so_far.grown.2.owns)

pub returns-clause-stays : goal.returns-clause-stays
returns-clause-stays g c = c.loop-left.invariant.stays

pub returns-in-Err-clause-stays : goal.returns-in-Err-clause-stays
returns-in-Err-clause-stays g c k t = c.in-Err.ensures.stays k (c.loop-left.invariant.stays k t)
