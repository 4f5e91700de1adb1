use Rattle.std.proofs.Common.{arith}
use Rattle.bfs_dups.proofs.Moved.{same-numbers}
use Rattle.bfs_dups.proofs.lists.copy_numbers.Goals as goal

pub returns-clause-numbers : goal.returns-clause-numbers
returns-clause-numbers c = same-numbers c.args.old.now c.loop-i.page c.args.from c.args.to c.args.count (λ j l. c.loop-i.invariant.numbers j (omega (arith, l, c.loop-i-test.false)))
