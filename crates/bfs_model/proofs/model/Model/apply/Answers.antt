use Rattle.std.proofs.Common.{subst, to_z-of_z}
use Rattle.bfs_tree.specs.Steps.{ByTree, by_tree}
use Rattle.bfs_model.specs.Kept.{state_of}
use Rattle.bfs_model.proofs.model.Model.apply.Goals as goal

pub returns-clause-plain : goal.returns-clause-plain
returns-clause-plain c = λ plain.
    c.step_keeps_plain.ensures (state_of c.args.self.now) (state_of c.answer.new.self) (record { session = c.args.session; tag = 0; stamp = c.args.stamp; call = c.args.call.now; reply = c.in_ok-reply.reply }) plain
    (by_tree (subst (λ z. ByTree c.args.session z c.args.call.now c.in_ok-reply.reply (state_of c.args.self.now) (state_of c.answer.new.self)) (to_z-of_z c.ranges.stamp) c.in_ok-reply.ensures.ok))
