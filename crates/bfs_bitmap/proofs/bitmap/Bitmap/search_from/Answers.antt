use Rattle.std.proofs.Common.{◌≡◌, ◌∙◌, ap, refl, arith, true}
use Rattle.bfs_bitmap.specs.Runs.{Room}
use Rattle.bfs_bitmap.proofs.Looks.{later_twice}
use Rattle.bfs_bitmap.proofs.Searches.{next_at, up_to_first, up_to_next, long_enough}
use Rattle.bfs_bitmap.proofs.bitmap.Bitmap.search_from.Goals as goal

pub loop-at-init : goal.loop-at-init
loop-at-init g c =
    let blocks_is : c.self.inside.blocks ≡ c.args.self.now.blocks = ap (λ (v : Room). v.blocks) c.self.view_is in (
      omega arith,
      c.in-Ok.ensures.bounds.1,
      omega arith,
      c.in-Ok.ensures.length,
      c.in-Ok.ensures.told,
      c.in-Ok.ensures.size,
      c.in-Ok.ensures.frame,
      c.in-Ok.ensures.changed,
      c.in-Ok.ensures.cause.later,
      λ m is has shown. c.in-Ok.ensures.shown m is has shown,
      λ m is has below shown.
          up_to_first c.args.self.now m c.args.start c.args.wanted c.in-Ok.low c.requires.some below (let le = c.in-Ok.ensures.bounds.0 in omega arith)
          (next_at c.args.self.now m c.args.start c.self.inside.blocks c.args.start c.args.self.now.blocks true c.in-Ok.low refl blocks_is (c.in-Ok.ensures.next m is has shown)),
    )

pub loop-at-preserved : goal.loop-at-preserved
loop-at-preserved g c =
    let blocks_is : c.self.inside.blocks ≡ c.args.self.now.blocks = ap (λ (v : Room). v.blocks) c.self.view_is in
    let group_is : c.self.inside.group_blocks ≡ c.args.self.now.group_blocks = ap (λ (v : Room). v.group_blocks) c.self.view_is in
    let one = c.in-Ok-next.ensures.bounds in
    let two = c.in-Ok-next-2.ensures.bounds in (
      omega arith,
      omega arith,
      omega arith,
      c.in-Ok-next-2.ensures.length,
      c.in-Ok-next-2.ensures.told ∙ (c.in-Ok-next.ensures.told ∙ c.loop-at.invariant.4),
      c.in-Ok-next-2.ensures.size ∙ (c.in-Ok-next.ensures.size ∙ c.loop-at.invariant.5),
      c.in-Ok-next-2.ensures.frame ∙ (c.in-Ok-next.ensures.frame ∙ c.loop-at.invariant.6),
      c.in-Ok-next-2.ensures.changed ∙ (c.in-Ok-next.ensures.changed ∙ c.loop-at.invariant.7),
      later_twice (g.B.Blocks.counts c.args.under.now) (g.B.Blocks.counts c.next-in-loop-at.new.under) (g.B.Blocks.counts c.next-in-loop-at-2.new.under)
          (later_twice (g.B.Blocks.counts c.args.under.now) (g.B.Blocks.counts c.loop-at.under) (g.B.Blocks.counts c.next-in-loop-at.new.under) c.loop-at.invariant.8 c.in-Ok-next.ensures.cause.later) c.in-Ok-next-2.ensures.cause.later,
      λ m is has shown.
          let told_1 = c.loop-at.invariant.4 ∙ is in
          c.in-Ok-next-2.ensures.shown m (c.in-Ok-next.ensures.told ∙ told_1) has (c.in-Ok-next.ensures.shown m told_1 has (c.loop-at.invariant.9 m is has shown)),
      λ m is has below shown.
          let now = c.loop-at.invariant.9 m is has shown in
          let so_far = c.loop-at.invariant.10 m is has below shown in
          let told_1 = c.loop-at.invariant.4 ∙ is in
          let told_2 = c.in-Ok-next.ensures.told ∙ told_1 in
          let shown_1 = c.in-Ok-next.ensures.shown m told_1 has now in
          up_to_next c.args.self.now m c.args.start c.args.wanted c.args.longest c.in-Ok.low c.loop-at.at c.loop-at.free c.limit-limit.result c.in-Ok-next.end c.in-Ok-next-2.next (let some = c.self.invariant.0.some_group in omega arith) c.requires.some c.requires.order
          (omega arith) c.limit-limit.ensures one.0 one.1 two.0 (grind arith) so_far (c.in-Ok-next.ensures.next m told_1 has now)
          (next_at c.args.self.now m c.in-Ok-next.end c.self.inside.blocks c.in-Ok-next.end c.args.self.now.blocks true c.in-Ok-next-2.next refl blocks_is (c.in-Ok-next-2.ensures.next m told_2 has shown_1)),
    )

pub returns-then-len-from-clause-answer : goal.returns-then-len-from-clause-answer
returns-then-len-from-clause-answer g c m is has below shown =
    let blocks_is : c.self.inside.blocks ≡ c.args.self.now.blocks = ap (λ (v : Room). v.blocks) c.self.view_is in
    let group_is : c.self.inside.group_blocks ≡ c.args.self.now.group_blocks = ap (λ (v : Room). v.group_blocks) c.self.view_is in
    let now = c.loop-at.invariant.9 m is has shown in
    let so_far = c.loop-at.invariant.10 m is has below shown in
    let told_1 = c.loop-at.invariant.4 ∙ is in
    let one = c.in-Ok-next.ensures.bounds in (
      long_enough c.args.self.now m c.args.wanted c.args.longest c.loop-at.at c.limit-limit.result c.in-Ok-next.end (let some = c.self.invariant.0.some_group in omega arith) c.limit-limit.ensures one.0 one.1 (so_far.here (omega arith))
          (c.in-Ok-next.ensures.next m told_1 has now) so_far.none,
      so_far.nothing,
    )
