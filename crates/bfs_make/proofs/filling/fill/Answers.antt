use Rattle.std.proofs.Common.{rules, ◌≡◌, ◌⊎◌, ◌<◌, ◌≤◌, ◌∙◌, inl, inr, true, false, ℕ, List, Bool, refl, subst, arith, length}
use Rattle.bfs_super.specs.Conditions.{natural}
use Rattle.bfs_stream.specs.Told.{Stands}
use Rattle.bfs_stream_pages.specs.Steps.{HasFilled}
use Rattle.bfs_stream_pages.proofs.Filled.{places}
use Rattle.bfs_make.specs.Filled.{padded, chunk}
use Rattle.bfs_make.specs.Sites.{stream_in}
use Rattle.bfs_make.proofs.Chunks.{still_stands, filled_more, filled_end}
use Rattle.bfs_make.proofs.filling.fill.Goals as goal

pub returns-in-Ok-false-clause-filled : goal.returns-in-Ok-false-clause-filled
returns-in-Ok-false-clause-filled g c m is stands once few enough =
    let o = stream_in c.args.site c.args.id in
    let size = c.args.site.sup.block_size in
    let bytes = c.args.bytes.now in
    let so_far = c.loop-at.invariant.filled m is stands once in
    let there : Stands o so_far.blocks.map = still_stands o m once stands bytes c.loop-at.at (g.E.Blocks.told c.loop-at.edits) (g.E.Blocks.told c.fill_block.new.edits) (g.E.Blocks.changed c.args.edits.now) (g.E.Blocks.changed c.loop-at.edits) (g.E.Blocks.changed c.fill_block.new.edits) so_far in
    let filled : HasFilled o so_far.blocks.map c.loop-at.at (padded size (chunk size bytes c.loop-at.at)) (g.E.Blocks.told c.fill_block.new.edits) (g.E.Blocks.changed c.loop-at.edits) (g.E.Blocks.changed c.fill_block.new.edits) false =
    subst (λ (b : Bool). HasFilled o so_far.blocks.map c.loop-at.at (padded size (chunk size bytes c.loop-at.at)) (g.E.Blocks.told c.fill_block.new.edits) (g.E.Blocks.changed c.loop-at.edits) (g.E.Blocks.changed c.fill_block.new.edits) b) c.in-Ok-false.field-0-test (c.in-Ok-false.ensures.filled so_far.blocks.map so_far.blocks.is there) in
    filled_end o m once stands bytes c.loop-at.at (g.E.Blocks.told c.loop-at.edits) (g.E.Blocks.told c.fill_block.new.edits) (g.E.Blocks.changed c.args.edits.now) (g.E.Blocks.changed c.loop-at.edits) (g.E.Blocks.changed c.fill_block.new.edits) so_far
    (subst (λ (l : List ℕ). length l ≤ c.loop-at.at) (places o m once stands 0 c.loop-at.at (g.E.Blocks.told c.loop-at.edits) (g.E.Blocks.changed c.args.edits.now) (g.E.Blocks.changed c.loop-at.edits) so_far.blocks) filled.0)
    enough (g.E.Blocks.told c.fill_block.new.edits) (g.E.Blocks.changed c.fill_block.new.edits) filled.1 filled.2

pub returns-in-Err-clause-sound : goal.returns-in-Err-clause-sound
returns-in-Err-clause-sound g c m is stands once =
    let so_far = c.loop-at.invariant.filled m is stands once in
    c.in-Err.ensures.sound so_far.blocks.map so_far.blocks.is
    (still_stands (stream_in c.args.site c.args.id) m once stands c.args.bytes.now c.loop-at.at (g.E.Blocks.told c.loop-at.edits) (g.E.Blocks.told c.fill_block.new.edits) (g.E.Blocks.changed c.args.edits.now) (g.E.Blocks.changed c.loop-at.edits) (g.E.Blocks.changed c.fill_block.new.edits) so_far)

pub loop-at-preserved : goal.loop-at-preserved
loop-at-preserved g c = record {
  size = c.in-Ok-true.ensures.size ∙ c.loop-at.invariant.size;
  frame = c.in-Ok-true.ensures.frame ∙ c.loop-at.invariant.frame;
  later = search rules;
  changed = λ k e. by_side k (c.in-Ok-true.ensures.changed k e);
  stays = λ k h. c.in-Ok-true.ensures.stays k (c.loop-at.invariant.stays k h);
  filled = λ m is stands once.
      let o = stream_in c.args.site c.args.id in
      let size = c.args.site.sup.block_size in
      let bytes = c.args.bytes.now in
      let so_far = c.loop-at.invariant.filled m is stands once in
      let there : Stands o so_far.blocks.map = still_stands o m once stands bytes c.loop-at.at (g.E.Blocks.told c.loop-at.edits) (g.E.Blocks.told c.fill_block.new.edits) (g.E.Blocks.changed c.args.edits.now) (g.E.Blocks.changed c.loop-at.edits) (g.E.Blocks.changed c.fill_block.new.edits) so_far in
      let filled : HasFilled o so_far.blocks.map c.loop-at.at (padded size (chunk size bytes c.loop-at.at)) (g.E.Blocks.told c.fill_block.new.edits) (g.E.Blocks.changed c.loop-at.edits) (g.E.Blocks.changed c.fill_block.new.edits) true =
      subst (λ (b : Bool). HasFilled o so_far.blocks.map c.loop-at.at (padded size (chunk size bytes c.loop-at.at)) (g.E.Blocks.told c.fill_block.new.edits) (g.E.Blocks.changed c.loop-at.edits) (g.E.Blocks.changed c.fill_block.new.edits) b) c.in-Ok-true.field-0-test (c.in-Ok-true.ensures.filled so_far.blocks.map so_far.blocks.is there) in
      filled_more o m once stands bytes c.loop-at.at (g.E.Blocks.told c.loop-at.edits) (g.E.Blocks.told c.fill_block.new.edits) (g.E.Blocks.changed c.args.edits.now) (g.E.Blocks.changed c.loop-at.edits) (g.E.Blocks.changed c.fill_block.new.edits) so_far filled;
}
  where
    by_side : (k : ℕ) → (g.E.Blocks.changed c.loop-at.edits k ≡ true) ⊎ (k < natural c.args.site.sup.num_blocks) → (g.E.Blocks.changed c.args.edits.now k ≡ true) ⊎ (k < natural c.args.site.sup.num_blocks)
    by_side k (inl before) = c.loop-at.invariant.changed k before
    by_side k (inr low) = inr low

pub returns-clause-filled : goal.returns-clause-filled
returns-clause-filled g c m is stands once few enough =
    let end = c.loop-at-test.false in
    let so_far = c.loop-at.invariant.filled m is stands once in
    filled_end (stream_in c.args.site c.args.id) m once stands c.args.bytes.now c.loop-at.at (g.E.Blocks.told c.loop-at.edits) (g.E.Blocks.told c.loop-at.edits) (g.E.Blocks.changed c.args.edits.now) (g.E.Blocks.changed c.loop-at.edits) (g.E.Blocks.changed c.loop-at.edits) so_far
    (omega (arith, few, end)) enough (g.E.Blocks.told c.loop-at.edits) (g.E.Blocks.changed c.loop-at.edits) so_far.blocks.is refl
