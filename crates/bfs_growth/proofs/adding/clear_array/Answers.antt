use Rattle.std.proofs.Common.{◌+◌, ◌∙◌, ℕ, Bool, ap, sym, arith}
use Rattle.bfs_growth.proofs.Cleared.{cleared_more, is_cleared, filled_more, is_filled}
use Rattle.bfs_growth.proofs.Written.{set_stays, clear_written, written_low}
use Rattle.bfs_growth.proofs.adding.clear_array.Goals as goal

pub loop-i-preserved : goal.loop-i-preserved
loop-i-preserved g c = record {
  zeros = c.loop-i.invariant.zeros;
  size = c.in-Ok.ensures.size ∙ c.loop-i.invariant.size;
  frame = c.in-Ok.ensures.frame ∙ c.loop-i.invariant.frame;
  counts = c.in-Ok.ensures.counts ∙ c.loop-i.invariant.counts;
  written = let end = c.from-i-end.ensures in let low = c.loop-i-test.true in clear_written c.args.stream.now.sizes c.args.array c.first_block-first.result c.loop-i.i (g.E.Blocks.changed c.args.edits.now) (g.E.Blocks.changed c.loop-i.edits) (g.E.Blocks.changed c.set.new.self)
      c.first_block-first.ensures.value (omega (arith, end, low)) c.loop-i.invariant.written c.in-Ok.ensures.changed;
  cleared = λ m is.
      cleared_more c.first_block-first.result c.loop-i.i c.args.stream.now.sizes.block_size m (g.E.Blocks.told c.loop-i.edits) (g.E.Blocks.told c.set.new.self) c.fill.new.self (c.loop-i.invariant.cleared m is) c.loop-i.invariant.zeros c.in-Ok.ensures.told;
  set = filled_more c.first_block-first.result c.loop-i.i (g.E.Blocks.changed c.loop-i.edits) (g.E.Blocks.changed c.set.new.self) c.loop-i.invariant.set c.in-Ok.ensures.changed;
  stays = λ k t. set_stays (c.first_block-first.result + c.loop-i.i) (g.E.Blocks.changed c.loop-i.edits) (g.E.Blocks.changed c.set.new.self) c.in-Ok.ensures.changed k (c.loop-i.invariant.stays k t);
}

pub returns-clause-cleared : goal.returns-clause-cleared
returns-clause-cleared g c m is =
    let end = c.from-i-end.ensures in
    let high = c.loop-i.auto.i-end in
    let low = c.loop-i-test.false in
    is_cleared c.args.stream.now.sizes c.args.array c.first_block-first.result c.loop-i.i m (g.E.Blocks.told c.loop-i.edits) c.first_block-first.ensures.value (omega (arith, end, high, low)) (c.loop-i.invariant.cleared m is)

pub returns-clause-changed : goal.returns-clause-changed
returns-clause-changed g c = written_low c.args.stream.now.sizes c.args.array (g.E.Blocks.changed c.args.edits.now) (g.E.Blocks.changed c.loop-i.edits) c.requires.array c.loop-i.invariant.written

pub returns-in-Err-clause-changed : goal.returns-in-Err-clause-changed
returns-in-Err-clause-changed g c k e =
    written_low c.args.stream.now.sizes c.args.array (g.E.Blocks.changed c.args.edits.now) (g.E.Blocks.changed c.loop-i.edits) c.requires.array c.loop-i.invariant.written k (sym (ap (λ (f : ℕ → Bool). f k) c.in-Err.ensures.same) ∙ e)

pub returns-clause-written : goal.returns-clause-written
returns-clause-written g c = c.loop-i.invariant.written

pub returns-in-Err-clause-written : goal.returns-in-Err-clause-written
returns-in-Err-clause-written g c k e = c.loop-i.invariant.written k (sym (ap (λ (f : ℕ → Bool). f k) c.in-Err.ensures.same) ∙ e)

pub returns-clause-set : goal.returns-clause-set
returns-clause-set g c =
    let end = c.from-i-end.ensures in
    let high = c.loop-i.auto.i-end in
    let low = c.loop-i-test.false in
    is_filled c.args.stream.now.sizes c.args.array c.first_block-first.result c.loop-i.i (g.E.Blocks.changed c.loop-i.edits) c.first_block-first.ensures.value (omega (arith, end, high, low)) c.loop-i.invariant.set

pub returns-clause-stays : goal.returns-clause-stays
returns-clause-stays g c = c.loop-i.invariant.stays

pub returns-in-Err-clause-stays : goal.returns-in-Err-clause-stays
returns-in-Err-clause-stays g c k t = ap (λ (f : ℕ → Bool). f k) c.in-Err.ensures.same ∙ c.loop-i.invariant.stays k t
