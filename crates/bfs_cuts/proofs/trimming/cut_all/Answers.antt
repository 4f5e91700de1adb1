use Rattle.std.proofs.Common.{◌≡◌, ◌∙◌, inl, ℕ, ap, sym, subst, refl}
use Rattle.bfs_bitmap.specs.Runs.{Room}
use Rattle.bfs_stream.specs.Grown.{IsOfVolume}
use Rattle.bfs_stream.specs.Trimmed.{HasCut}
use Rattle.bfs_stream.proofs.Arrays.{later_twice}
use Rattle.bfs_stream.proofs.Writes.{later_none}
use Rattle.bfs_cuts.proofs.CutTwice.{trimmed_so_none, trimmed_so_more, trimmed_so_far, changed_again}
use Rattle.bfs_cuts.proofs.trimming.cut_all.Goals as goal

pub loop-gone-init : goal.loop-gone-init
loop-gone-init g c = record {
  long = c.requires.length;
  size = refl;
  frame = refl;
  rest = refl;
  kept = refl;
  stands = refl;
  volume = c.requires.volume;
  trimmed = λ m is owns may spare. trimmed_so_none c.args.stream.now c.args.bitmap.now m c.args.blocks (g.E.Blocks.told c.args.edits.now) (g.E.Blocks.changed c.args.edits.now) owns is may spare;
  later = later_none (g.E.Blocks.counts c.args.edits.now);
  changed = λ k e. inl e;
  stays = λ k t. t;
}

pub loop-gone-preserved : goal.loop-gone-preserved
loop-gone-preserved g c =
    let rest = c.in-Ok.ensures.rest ∙ ap (λ (x : Room). record x { given = c.cut.new.bitmap.given; tally = c.cut.new.bitmap.tally }) c.loop-gone.invariant.rest in
    record {
      long = c.in-Ok.ensures.length;
      size = c.in-Ok.ensures.size ∙ c.loop-gone.invariant.size;
      frame = c.in-Ok.ensures.frame ∙ c.loop-gone.invariant.frame;
      rest = rest;
      kept = c.in-Ok.ensures.kept ∙ c.loop-gone.invariant.kept;
      stands = c.in-Ok.ensures.standing ∙ c.loop-gone.invariant.stands;
      volume = subst (IsOfVolume c.args.stream.now.sizes) (sym rest) (record { block_size = c.requires.volume.block_size; blocks = c.requires.volume.blocks; group_blocks = c.requires.volume.group_blocks });
      trimmed = λ m is owns may spare.
          let so_far = c.loop-gone.invariant.trimmed m is owns may spare in
          let step = c.in-Ok.ensures.trimmed so_far.trimmed.2.map so_far.trimmed.2.is so_far.trimmed.2.owns so_far.may in
          trimmed_so_more c.args.stream.now c.args.bitmap.now c.loop-gone.bitmap c.cut.new.bitmap m c.args.blocks c.loop-gone.left c.less-left.result c.in-Ok.gone (g.E.Blocks.told c.loop-gone.edits) (g.E.Blocks.told c.cut.new.edits) (g.E.Blocks.changed c.args.edits.now) (g.E.Blocks.changed c.loop-gone.edits) (g.E.Blocks.changed c.cut.new.edits) so_far c.loop-gone.invariant.rest
          step c.less-left.ensures c.in-Ok.ensures.most;
      later = later_twice (g.E.Blocks.counts c.args.edits.now) (g.E.Blocks.counts c.loop-gone.edits) (g.E.Blocks.counts c.cut.new.edits) c.loop-gone.invariant.later c.in-Ok.ensures.later;
      changed = changed_again c.args.stream.now.sizes c.args.bitmap.now c.loop-gone.bitmap (g.E.Blocks.changed c.args.edits.now) (g.E.Blocks.changed c.loop-gone.edits) (g.E.Blocks.changed c.cut.new.edits) c.loop-gone.invariant.rest c.loop-gone.invariant.changed c.in-Ok.ensures.changed;
      stays = λ k t. c.in-Ok.ensures.stays k (c.loop-gone.invariant.stays k t);
    }

pub returns-then-gone-eq0-clause-trimmed : goal.returns-then-gone-eq0-clause-trimmed
returns-then-gone-eq0-clause-trimmed g c m is owns may spare le =
    let o = c.args.stream.now in
    let so_far = c.loop-gone.invariant.trimmed m is owns may spare in
    let zero : c.in-Ok.gone ≡ 0 = c.if-gone-eq0.true in
    let step = subst (λ (n : ℕ). HasCut o c.loop-gone.bitmap c.cut.new.bitmap so_far.trimmed.2.map n (g.E.Blocks.told c.cut.new.edits) (g.E.Blocks.changed c.loop-gone.edits) (g.E.Blocks.changed c.cut.new.edits)) zero
    (c.in-Ok.ensures.trimmed so_far.trimmed.2.map so_far.trimmed.2.is so_far.trimmed.2.owns so_far.may) in
    let end = c.in-Ok.ensures.done so_far.trimmed.2.map so_far.trimmed.2.is so_far.trimmed.2.owns so_far.spare step.0.2.map step.0.2.is zero in
    trimmed_so_far o c.args.bitmap.now c.loop-gone.bitmap c.cut.new.bitmap m c.args.blocks c.loop-gone.left (g.E.Blocks.told c.loop-gone.edits) (g.E.Blocks.told c.cut.new.edits) (g.E.Blocks.changed c.args.edits.now) (g.E.Blocks.changed c.loop-gone.edits) (g.E.Blocks.changed c.cut.new.edits) so_far c.loop-gone.invariant.rest step end le

pub returns-in-Err-clause-sound : goal.returns-in-Err-clause-sound
returns-in-Err-clause-sound g c m is owns may spare =
    let so_far = c.loop-gone.invariant.trimmed m is owns may spare in
    c.in-Err.ensures.sound so_far.trimmed.2.map so_far.trimmed.2.is so_far.trimmed.2.owns

pub returns-then-gone-eq0-clause-stays : goal.returns-then-gone-eq0-clause-stays
returns-then-gone-eq0-clause-stays g c k t = c.in-Ok.ensures.stays k (c.loop-gone.invariant.stays k t)

pub returns-in-Err-clause-stays : goal.returns-in-Err-clause-stays
returns-in-Err-clause-stays g c k t = c.in-Err.ensures.stays k (c.loop-gone.invariant.stays k t)
