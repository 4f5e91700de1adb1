use Rattle.std.proofs.Common.{◌≡◌, ◌∙◌, ap, arith, subst}
use Rattle.bfs_bitmap.specs.Runs.{Room}
use Rattle.bfs_bitmap.specs.Counted.{IsStretch}
use Rattle.bfs_bitmap.proofs.Looks.{later_twice}
use Rattle.bfs_bitmap.proofs.Counting.{counted_over, counted_with, counted_runs, counted_all}
use Rattle.bfs_bitmap.proofs.bitmap.Bitmap.free_runs.Goals as goal

pub returns-then-runs-most-clause-runs : goal.returns-then-runs-most-clause-runs
returns-then-runs-most-clause-runs g c m is has = counted_runs c.args.self.now m c.args.len c.loop-at.at c.loop-at.runs (c.loop-at.invariant.10 m is has)

pub returns-clause-runs : goal.returns-clause-runs
returns-clause-runs g c m is has = counted_runs c.args.self.now m c.args.len c.loop-at.at c.loop-at.runs (c.loop-at.invariant.10 m is has)

pub returns-clause-no_more : goal.returns-clause-no_more
returns-clause-no_more g c m is has less =
    let blocks_is : c.self.inside.blocks ≡ c.args.self.now.blocks = ap (λ (v : Room). v.blocks) c.self.view_is in
    counted_all c.args.self.now m c.args.len c.loop-at.at c.loop-at.runs c.requires.some (omega arith) (c.loop-at.invariant.10 m is has)

pub loop-at-preserved-then-stretch : goal.loop-at-preserved-then-stretch
loop-at-preserved-then-stretch g c =
    let blocks_is : c.self.inside.blocks ≡ c.args.self.now.blocks = ap (λ (v : Room). v.blocks) c.self.view_is in
    let bounds = c.in-Ok-stretch.ensures.bounds in (
      omega arith,
      omega arith,
      omega arith,
      c.in-Ok-stretch.ensures.length,
      c.in-Ok-stretch.ensures.told ∙ c.loop-at.invariant.4,
      c.in-Ok-stretch.ensures.size ∙ c.loop-at.invariant.5,
      c.in-Ok-stretch.ensures.frame ∙ c.loop-at.invariant.6,
      c.in-Ok-stretch.ensures.changed ∙ c.loop-at.invariant.7,
      later_twice (g.B.Blocks.counts c.args.under.now) (g.B.Blocks.counts c.loop-at.under) (g.B.Blocks.counts c.stretch.new.under) c.loop-at.invariant.8 c.in-Ok-stretch.ensures.cause.later,
      λ m is has. c.in-Ok-stretch.ensures.shown m (c.loop-at.invariant.4 ∙ is) has (c.loop-at.invariant.9 m is has),
      λ m is has.
          counted_with c.args.self.now m c.args.len c.loop-at.at c.in-Ok-stretch.stretch.end c.loop-at.runs
          (subst (IsStretch c.args.self.now m c.args.len c.loop-at.at c.in-Ok-stretch.stretch.end) c.if-stretch.true
          (c.in-Ok-stretch.ensures.stretch m (c.loop-at.invariant.4 ∙ is) has (c.loop-at.invariant.9 m is has))) (c.loop-at.invariant.10 m is has),
    )

pub loop-at-preserved : goal.loop-at-preserved
loop-at-preserved g c =
    let blocks_is : c.self.inside.blocks ≡ c.args.self.now.blocks = ap (λ (v : Room). v.blocks) c.self.view_is in
    let bounds = c.in-Ok-stretch.ensures.bounds in (
      omega arith,
      omega arith,
      omega arith,
      c.in-Ok-stretch.ensures.length,
      c.in-Ok-stretch.ensures.told ∙ c.loop-at.invariant.4,
      c.in-Ok-stretch.ensures.size ∙ c.loop-at.invariant.5,
      c.in-Ok-stretch.ensures.frame ∙ c.loop-at.invariant.6,
      c.in-Ok-stretch.ensures.changed ∙ c.loop-at.invariant.7,
      later_twice (g.B.Blocks.counts c.args.under.now) (g.B.Blocks.counts c.loop-at.under) (g.B.Blocks.counts c.stretch.new.under) c.loop-at.invariant.8 c.in-Ok-stretch.ensures.cause.later,
      λ m is has. c.in-Ok-stretch.ensures.shown m (c.loop-at.invariant.4 ∙ is) has (c.loop-at.invariant.9 m is has),
      λ m is has.
          counted_over c.args.self.now m c.args.len c.loop-at.at c.in-Ok-stretch.stretch.end c.loop-at.runs (omega arith)
          (subst (IsStretch c.args.self.now m c.args.len c.loop-at.at c.in-Ok-stretch.stretch.end) c.if-stretch.false
          (c.in-Ok-stretch.ensures.stretch m (c.loop-at.invariant.4 ∙ is) has (c.loop-at.invariant.9 m is has))) (c.loop-at.invariant.10 m is has),
    )
