use Rattle.std.proofs.Common.{◌<◌, ◌∙◌, arith}
use Rattle.bfs_bitmap.proofs.Looks.{look_on, at_base, later_twice}
use Rattle.bfs_bitmap.proofs.bitmap.Bitmap.next.Goals as goal
use Rattle.bfs_bitmap.proofs.bitmap.Bitmap.next.Goals.{Else-bit-end, Then-bit-end}

pub loop-at-preserved : goal.loop-at-preserved
loop-at-preserved g c =
    let some : 0 < c.per_block-bits.result = let p = c.per_block-bits.ensures.value in let q = c.per_block-bits.ensures.sizes.some_bytes in omega arith in
    let base = at_base c.per_block-bits.result c.loop-at.at some in
    let low = c.first_bit-bit.ensures.from_on in
    let high = c.first_bit-bit.ensures.up_to in
    let end = c.min-end.ensures in
    let small = base.2 in (
      omega arith,
      omega arith,
      c.in-Ok.ensures.length,
      c.in-Ok.ensures.told ∙ c.loop-at.invariant.3,
      c.in-Ok.ensures.size ∙ c.loop-at.invariant.4,
      c.in-Ok.ensures.frame ∙ c.loop-at.invariant.5,
      c.in-Ok.ensures.changed ∙ c.loop-at.invariant.6,
      later_twice (g.B.Blocks.counts c.args.under.now) (g.B.Blocks.counts c.loop-at.under) (g.B.Blocks.counts c.show.new.under) c.loop-at.invariant.7 c.in-Ok.ensures.cause.later,
      λ m is has shown.
          let so_far = c.loop-at.invariant.8 m is has shown in (
            c.in-Ok.ensures.shown m (c.loop-at.invariant.3 ∙ is) has so_far.0,
            (look_on c.args.self.now m c.args.from c.loop-at.at c.per_block-bits.result c.min-end.result c.first_bit-bit.result c.args.clear c.deref.result.now c.show.new.window.bytes.items c.per_block-bits.ensures.value some (omega arith)
                c.loop-at.invariant.0 c.deref.ensures.value (c.in-Ok.ensures.shows m (c.loop-at.invariant.3 ∙ is) has so_far.0) c.first_bit-bit.ensures so_far.1).0,
          ),
    )

pub returns-then-bit-end-clause-next : goal.returns-then-bit-end-clause-next
returns-then-bit-end-clause-next g c m is has shown =
    let some : 0 < c.per_block-bits.result = let p = c.per_block-bits.ensures.value in let q = c.per_block-bits.ensures.sizes.some_bytes in omega arith in
    let end = c.min-end.ensures in
    let so_far = c.loop-at.invariant.8 m is has shown in
    let look =
    look_on c.args.self.now m c.args.from c.loop-at.at c.per_block-bits.result c.min-end.result c.first_bit-bit.result c.args.clear c.deref.result.now c.show.new.window.bytes.items c.per_block-bits.ensures.value some (omega arith)
    c.loop-at.invariant.0 c.deref.ensures.value (c.in-Ok.ensures.shows m (c.loop-at.invariant.3 ∙ is) has so_far.0) c.first_bit-bit.ensures so_far.1 in
    record { before = look.0; here = λ h. look.1 c.if-bit-end.true }
