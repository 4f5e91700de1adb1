use Rattle.std.proofs.Common.{◌≡◌, ◌<◌, ◌+◌, ◌-◌, ◌*◌, ◌/◌, ◌%◌, ◌∙◌, ap, sym, subst, ℕ, arith, cond, refl, inl}
use Rattle.std.proofs.Math.Nat.{div-add-mod}
use Rattle.bfs_bitmap.specs.Runs.{per_block, Marks}
use Rattle.bfs_bitmap.specs.Fills.{IsTold, HasBitOf}
use Rattle.bfs_bitmap.proofs.Looks.{at_base, later_twice}
use Rattle.bfs_bitmap.proofs.Marked.{marks_none, told_then, changed_twice, changed_as, bit_here}
use Rattle.bfs_bitmap.proofs.bitmap.Bitmap.fill.Goals as goal

pub loop-at-init : goal.loop-at-init
loop-at-init g c = (
  omega arith,
  omega arith,
  c.requires.length,
  refl,
  refl,
  record { faults = omega arith; stops = refl; stop = refl },
  λ k t. inl t,
  λ m is has. (m, is, marks_none c.args.self.now m c.args.first (cond c.args.used 1 0) (c.args.first - c.args.first) (omega arith) has),
  λ k t. t,
)

pub loop-at-preserved : goal.loop-at-preserved
loop-at-preserved g c =
    let some : 0 < c.per_block-bits.result = let p = c.per_block-bits.ensures.value in let q = c.per_block-bits.ensures.sizes.some_bytes in omega arith in
    let base = at_base c.per_block-bits.result c.loop-at.at some in
    let end = c.min-to.ensures in
    let small = base.2 in
    let place : per_block c.args.self.now * (c.loop-at.at / c.per_block-bits.result) + c.loop-at.at % c.per_block-bits.result ≡ c.loop-at.at =
    ap (λ (n : ℕ). n * (c.loop-at.at / c.per_block-bits.result) + c.loop-at.at % c.per_block-bits.result) (sym c.per_block-bits.ensures.value) ∙ div-add-mod c.loop-at.at c.per_block-bits.result in (
      omega arith,
      omega arith,
      c.in-Ok.ensures.length,
      c.in-Ok.ensures.size ∙ c.loop-at.invariant.3,
      c.in-Ok.ensures.frame ∙ c.loop-at.invariant.4,
      later_twice (g.E.Blocks.counts c.args.edits.now) (g.E.Blocks.counts c.loop-at.edits) (g.E.Blocks.counts c.fill_part.new.edits) c.loop-at.invariant.5 c.in-Ok.ensures.cause.later,
      changed_twice (HasBitOf c.args.self.now c.args.first c.args.len) (g.E.Blocks.changed c.args.edits.now) (g.E.Blocks.changed c.loop-at.edits) (g.E.Blocks.changed c.fill_part.new.edits) c.loop-at.invariant.6
          (changed_as (λ k. k ≡ 1 + c.loop-at.at / c.per_block-bits.result) (HasBitOf c.args.self.now c.args.first c.args.len) (g.E.Blocks.changed c.loop-at.edits) (g.E.Blocks.changed c.fill_part.new.edits)
          (bit_here c.args.self.now c.args.first c.args.len c.loop-at.at c.per_block-bits.result c.per_block-bits.ensures.value c.loop-at.invariant.0 (omega arith)) c.in-Ok.ensures.changed),
      λ m is has.
          told_then c.args.self.now (g.E.Blocks.told c.loop-at.edits) (g.E.Blocks.told c.fill_part.new.edits) m c.args.first (c.loop-at.at - c.args.first) c.loop-at.at (c.min-to.result - c.loop-at.at % c.per_block-bits.result)
          (c.loop-at.at - c.loop-at.at % c.per_block-bits.result + c.min-to.result - c.args.first) (cond c.args.used 1 0) (omega arith) (omega arith) (c.loop-at.invariant.7 m is has)
          (λ l e h.
          subst (λ (n : ℕ). IsTold (Marks c.args.self.now n (c.min-to.result - c.loop-at.at % c.per_block-bits.result) (cond c.args.used 1 0) l) (g.E.Blocks.told c.fill_part.new.edits)) place (c.in-Ok.ensures.marks l e h)),
      λ k t. c.in-Ok.ensures.stays k (c.loop-at.invariant.8 k t),
    )

pub returns-in-Err-clause-stays : goal.returns-in-Err-clause-stays
returns-in-Err-clause-stays g c = λ k t. c.in-Err.ensures.stays k (c.loop-at.invariant.8 k t)

pub returns-clause-stays : goal.returns-clause-stays
returns-clause-stays g c = c.loop-at.invariant.8
