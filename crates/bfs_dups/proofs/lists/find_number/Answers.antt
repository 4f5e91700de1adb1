use Rattle.std.proofs.Common.{sym, ◌∙◌, arith}
use Rattle.bfs_dups.proofs.Ordered.{found-there, not-there, place-next, absent-next}
use Rattle.bfs_dups.proofs.lists.find_number.Goals as goal

pub returns-then-other-number-clause-absent : goal.returns-then-other-number-clause-absent
returns-then-other-number-clause-absent c a = found-there c.args.page.now c.args.at c.loop-i.i c.args.count c.args.number c.loop-i-test.true (sym c.number_at-other.ensures ∙ c.if-other-number.true) c.loop-i.invariant.absent

pub returns-then-other-number-2-clause-absent : goal.returns-then-other-number-2-clause-absent
returns-then-other-number-2-clause-absent c a =
    not-there c.args.page.now c.args.at c.loop-i.i c.args.count c.args.number c.number_at-other.result c.loop-i-test.true c.number_at-other.ensures (omega (arith, c.if-other-number-2.true)) a c.loop-i.invariant.absent

pub loop-i-preserved : goal.loop-i-preserved
loop-i-preserved c = record {
  within = omega (arith, c.loop-i-test.true);
  place = place-next c.args.page.now c.args.at c.loop-i.i c.args.count c.args.number c.number_at-other.result c.loop-i-test.true c.number_at-other.ensures (omega (arith, c.if-other-number.false, c.if-other-number-2.false)) c.loop-i.invariant.place;
  absent = absent-next c.args.page.now c.args.at c.loop-i.i c.args.count c.args.number c.number_at-other.result c.loop-i-test.true c.number_at-other.ensures (omega (arith, c.if-other-number.false, c.if-other-number-2.false)) c.loop-i.invariant.absent;
}
