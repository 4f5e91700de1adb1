use Rattle.std.proofs.Common.{◌∙◌, ◌≤◌, ◌<◌, length, subst, sym, arith}
use Rattle.bfs_txn.specs.Changed.{AreOfSize}
use Rattle.bfs_txn.proofs.Settles.{Settles, settled_more, settled_sizes, all_settled, sized_again, as_long}
use Rattle.bfs_txn.proofs.changed.Changed.merge.Goals as goal

pub loop-i-preserved : goal.loop-i-preserved
loop-i-preserved c =
    let step : Settles c.args.mark c.loop-i.own c.loop-i.i c.loop-i.self c.settle-own.result c.settle-own.new.self = record { settled = c.settle-own.ensures.settled; put = c.settle-own.ensures.put; sized = c.settle-own.ensures.sized } in
    let inside : c.loop-i.i < length c.loop-i.self = omega (arith, c.loop-i-test.true, c.len-i-end.ensures, c.loop-i.invariant.1) in (
      c.settle-own.ensures.up_to,
      c.settle-own.ensures.len ∙ c.loop-i.invariant.1,
      c.settle-own.ensures.settled,
      λ k. settled_more c.args.mark c.loop-i.own c.loop-i.i c.settle-own.result c.args.self.now c.loop-i.self c.settle-own.new.self inside c.settle-own.ensures.rest step c.loop-i.invariant.3 k,
      λ size s. settled_sizes c.args.mark c.loop-i.own c.loop-i.i c.settle-own.result size c.loop-i.self c.settle-own.new.self inside c.settle-own.ensures.rest step (c.loop-i.invariant.4 size s),
    )

pub returns-clause-sized : goal.returns-clause-sized
returns-clause-sized c =
    let end : length c.loop-i.self ≤ c.loop-i.i = omega (arith, c.loop-i-test.false, c.len-i-end.ensures, c.loop-i.invariant.1) in
    λ size s.
    sized_again size c.truncate.new.self c.merge_settled.new.self c.merge_settled.ensures.permutation
    (subst (AreOfSize size) (all_settled c.loop-i.own c.loop-i.i c.loop-i.self end ∙ sym c.truncate.ensures) (c.loop-i.invariant.4 size s))

pub returns-clause-within : goal.returns-clause-within
returns-clause-within c = (as_long c.args.mark c.loop-i.own c.loop-i.self c.truncate.new.self c.merge_settled.new.self c.loop-i.invariant.2 c.truncate.ensures c.merge_settled.ensures.permutation).0

pub returns-clause-len : goal.returns-clause-len
returns-clause-len c =
    let short = (as_long c.args.mark c.loop-i.own c.loop-i.self c.truncate.new.self c.merge_settled.new.self c.loop-i.invariant.2 c.truncate.ensures c.merge_settled.ensures.permutation).1 in
    omega (arith, short, c.loop-i.invariant.1)
