use Rattle.std.proofs.Common.{◌+◌, ◌*◌, ◌-◌, sym, ◌∙◌, arith}
use Rattle.bfs_values.specs.Values.{numbers_from, is_ascending}
use Rattle.bfs_values.proofs.Stacked.{ascend-no, ascend-yes, ascend-short}
use Rattle.bfs_values.proofs.packed.ascends.Goals as goal

pub returns-then-number_at : goal.returns-then-number_at
returns-then-number_at c =
    ascend-no c.args.page.now c.args.at c.loop-i.i c.args.count c.number_at.result c.number_at-in-loop-i.result (is_ascending (numbers_from c.args.page.now c.args.at c.args.count)) (omega (arith, c.loop-i-test.true)) c.number_at.ensures c.number_at-in-loop-i.ensures
    (omega (arith, c.if-number_at.true)) c.loop-i.invariant.same

pub loop-i-preserved : goal.loop-i-preserved
loop-i-preserved c = record {
  within = omega (arith, c.loop-i-test.true);
  same = ascend-yes c.args.page.now c.args.at c.loop-i.i c.args.count c.number_at.result c.number_at-in-loop-i.result (is_ascending (numbers_from c.args.page.now c.args.at c.args.count)) (omega (arith, c.loop-i-test.true)) c.number_at.ensures c.number_at-in-loop-i.ensures
      (omega (arith, c.if-number_at.false)) c.loop-i.invariant.same;
}

pub returns : goal.returns
returns c = sym (ascend-short c.args.page.now (c.args.at + 8 * c.loop-i.i) (c.args.count - c.loop-i.i) (omega (arith, c.loop-i-test.false))) ∙ c.loop-i.invariant.same
