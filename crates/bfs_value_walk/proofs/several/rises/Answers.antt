use Rattle.std.proofs.Common.{◌∙◌, sym, arith}
use Rattle.bfs_value_walk.proofs.Turns.{ended}
use Rattle.bfs_value_walk.proofs.several.rises.Goals as goal

pub returns : goal.returns
returns c = sym (ended c.args.numbers.now c.loop-i.i (let t = c.loop-i-test.false in omega (arith, t))) ∙ c.loop-i.invariant.same
