use Rattle.std.proofs.Common.{sym, ◌∙◌}
use Rattle.bfs_model.specs.Kept.{state_of}
use Rattle.bfs_model.proofs.Follows.{answer-same}
use Rattle.bfs_model.proofs.model.Model.is_answer.Goals as goal

pub returns-then-is_read : goal.returns-then-is_read
returns-then-is_read c =
    answer-same c.args.session c.args.call.now (state_of c.args.self.now) c.in_ok-own.own c.args.reply.now c.is_same.result (sym c.is_read.ensures ∙ c.if-is_read.true) c.requires
    (c.in_ok-own.ensures (sym c.is_read.ensures ∙ c.if-is_read.true)) c.is_same.ensures
