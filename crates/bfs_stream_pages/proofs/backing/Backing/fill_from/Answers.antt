use Rattle.std.proofs.Common.{rules, ◌≡◌, ◌⊎◌, ◌<◌, ◌∙◌, inl, inr, true, false, ℕ, Bool, sym, ap, subst, arith}
use Rattle.bfs_stream.specs.Sizes.{Origin}
use Rattle.bfs_stream.specs.Told.{Stands}
use Rattle.bfs_stream_pages.specs.Steps.{HasFilled}
use Rattle.bfs_stream_pages.proofs.Filled.{still, told_more, told_end, told_all}
use Rattle.bfs_stream_pages.proofs.backing.Backing.fill_from.Goals as goal

pub returns-in-Ok-false-clause-filled : goal.returns-in-Ok-false-clause-filled
returns-in-Ok-false-clause-filled g c m is stands once told few =
    let o = c.args.self.now in
    let same = c.loop-at.invariant.self in
    let so_far = c.loop-at.invariant.told m is stands once told in
    let there : Stands c.loop-at.self so_far.map = subst (λ (x : Origin). Stands x so_far.map) (sym same) (still o m once stands c.args.index c.loop-at.at (g.E.Blocks.told c.loop-at.edits) (g.E.Blocks.changed c.args.edits.now) (g.E.Blocks.changed c.loop-at.edits) so_far) in
    let filled : HasFilled c.loop-at.self so_far.map c.loop-at.at c.deref.result.now (g.E.Blocks.told c.fill_at.new.edits) (g.E.Blocks.changed c.loop-at.edits) (g.E.Blocks.changed c.fill_at.new.edits) false =
    subst (λ (b : Bool). HasFilled c.loop-at.self so_far.map c.loop-at.at c.deref.result.now (g.E.Blocks.told c.fill_at.new.edits) (g.E.Blocks.changed c.loop-at.edits) (g.E.Blocks.changed c.fill_at.new.edits) b) c.in-Ok-false.field-0-test (c.in-Ok-false.ensures.filled so_far.map so_far.is there) in
    told_end o m once stands c.args.index c.loop-at.at (g.E.Blocks.told c.loop-at.edits) (g.E.Blocks.told c.fill_at.new.edits) (g.E.Blocks.changed c.args.edits.now) (g.E.Blocks.changed c.loop-at.edits) (g.E.Blocks.changed c.fill_at.new.edits) so_far c.deref.result.now
    (subst (λ (x : Origin). HasFilled x so_far.map c.loop-at.at c.deref.result.now (g.E.Blocks.told c.fill_at.new.edits) (g.E.Blocks.changed c.loop-at.edits) (g.E.Blocks.changed c.fill_at.new.edits) false) same filled)

pub returns-in-Err-fill_at-clause-sound : goal.returns-in-Err-fill_at-clause-sound
returns-in-Err-fill_at-clause-sound g c m is stands once told =
    let o = c.args.self.now in
    let so_far = c.loop-at.invariant.told m is stands once told in
    let there : Stands c.loop-at.self so_far.map = subst (λ (x : Origin). Stands x so_far.map) (sym c.loop-at.invariant.self) (still o m once stands c.args.index c.loop-at.at (g.E.Blocks.told c.loop-at.edits) (g.E.Blocks.changed c.args.edits.now) (g.E.Blocks.changed c.loop-at.edits) so_far) in
    c.in-Err-fill_at.ensures.sound so_far.map so_far.is there

pub loop-at-preserved : goal.loop-at-preserved
loop-at-preserved g c = record {
  zeros = c.loop-at.invariant.zeros ∙ sizes;
  self = same_now;
  size = c.in-Ok-true.ensures.size ∙ c.loop-at.invariant.size;
  frame = c.in-Ok-true.ensures.frame ∙ c.loop-at.invariant.frame;
  later = search rules;
  changed = λ k e. by_side k (c.in-Ok-true.ensures.changed k e);
  stays = λ k is. c.in-Ok-true.ensures.stays k (c.loop-at.invariant.stays k is);
  low = let low = c.loop-at.invariant.low in omega (arith, low);
  told = λ m is stands once told.
      let o = c.args.self.now in
      let same = c.loop-at.invariant.self in
      let so_far = c.loop-at.invariant.told m is stands once told in
      let there : Stands c.loop-at.self so_far.map = subst (λ (x : Origin). Stands x so_far.map) (sym same) (still o m once stands c.args.index c.loop-at.at (g.E.Blocks.told c.loop-at.edits) (g.E.Blocks.changed c.args.edits.now) (g.E.Blocks.changed c.loop-at.edits) so_far) in
      let filled : HasFilled c.loop-at.self so_far.map c.loop-at.at c.deref.result.now (g.E.Blocks.told c.fill_at.new.edits) (g.E.Blocks.changed c.loop-at.edits) (g.E.Blocks.changed c.fill_at.new.edits) true =
      subst (λ (b : Bool). HasFilled c.loop-at.self so_far.map c.loop-at.at c.deref.result.now (g.E.Blocks.told c.fill_at.new.edits) (g.E.Blocks.changed c.loop-at.edits) (g.E.Blocks.changed c.fill_at.new.edits) b) c.in-Ok-true.field-0-test (c.in-Ok-true.ensures.filled so_far.map so_far.is there) in
      told_more o m once stands c.args.index c.loop-at.at (g.E.Blocks.told c.loop-at.edits) (g.E.Blocks.told c.fill_at.new.edits) (g.E.Blocks.changed c.args.edits.now) (g.E.Blocks.changed c.loop-at.edits) (g.E.Blocks.changed c.fill_at.new.edits) so_far c.deref.result.now c.loop-at.invariant.low
      (subst (λ (x : Origin). HasFilled x so_far.map c.loop-at.at c.deref.result.now (g.E.Blocks.told c.fill_at.new.edits) (g.E.Blocks.changed c.loop-at.edits) (g.E.Blocks.changed c.fill_at.new.edits) true) same filled);
}
  where
    same_now : c.fill_at.new.self ≡ c.args.self.now
    same_now = c.in-Ok-true.ensures.same ∙ c.loop-at.invariant.self

    sizes : c.loop-at.self.sizes.block_size ≡ c.fill_at.new.self.sizes.block_size
    sizes = sym (ap (λ (x : Origin). x.sizes.block_size) c.in-Ok-true.ensures.same)

    by_side : (k : ℕ) → (g.E.Blocks.changed c.loop-at.edits k ≡ true) ⊎ (k < c.loop-at.self.sizes.blocks) → (g.E.Blocks.changed c.args.edits.now k ≡ true) ⊎ (k < c.args.self.now.sizes.blocks)
    by_side k (inl before) = c.loop-at.invariant.changed k before
    by_side k (inr low) = inr (subst (λ (x : Origin). k < x.sizes.blocks) c.loop-at.invariant.self low)

pub returns-clause-filled : goal.returns-clause-filled
returns-clause-filled g c m is stands once told few =
    let end = c.loop-at-test.false in
    told_all c.args.self.now m c.args.index c.loop-at.at (g.E.Blocks.told c.loop-at.edits) (g.E.Blocks.changed c.args.edits.now) (g.E.Blocks.changed c.loop-at.edits) (c.loop-at.invariant.told m is stands once told) (omega (arith, few, end))
