use Rattle.std.proofs.Common.{length, ap, arith}
use Rattle.bfs_space.proofs.Stamps.{promises_fewer}
use Rattle.bfs_space.proofs.space.Space.unpromise.Goals as goal

pub invariant_of-self : goal.invariant_of-self
invariant_of-self c =
    let i = c.self.inside in
    let fewer = promises_fewer c.args.session i.promised.items in
    let is = ap length c.drop_promise.ensures in
    let room = c.self.invariant.2 in
    let few = c.self.invariant.3 in
    let places = c.self.invariant.6 in
    (c.self.invariant.0, c.self.invariant.1, omega (arith, fewer, is, room), omega (arith, fewer, is, few), c.self.invariant.4, c.self.invariant.5, omega (arith, fewer, is, places))
