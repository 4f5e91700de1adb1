use Rattle.std.proofs.Common.{sym, ◌∙◌}
use Rattle.bfs_model.specs.Kept.{state_of}
use Rattle.bfs_model.proofs.Follows.{disk-step, refused-step, refused-after}
use Rattle.bfs_model.proofs.model.Model.take.Goals as goal

pub returns-then-is_by_disk-clause-step : goal.returns-then-is_by_disk-clause-step
returns-then-is_by_disk-clause-step c = disk-step (state_of c.args.self.now) c.args.entry.now (sym c.is_by_disk.ensures ∙ c.if-is_by_disk.true)

pub returns-in-Some-clause-step : goal.returns-in-Some-clause-step
returns-in-Some-clause-step c =
    refused-step (state_of c.args.self.now) c.args.entry.now c.in-Some.own c.is_same.result c.refusal_is_unique.ensures (sym c.refusal.ensures ∙ c.in-Some.is) (sym c.is_by_disk.ensures ∙ c.if-is_by_disk.false) c.is_same.ensures

pub returns-in-Some-clause-after : goal.returns-in-Some-clause-after
returns-in-Some-clause-after c =
    refused-after (state_of c.args.self.now) c.args.entry.now c.in-Some.own c.is_same.result c.state_is_determined.ensures (sym c.refusal.ensures ∙ c.in-Some.is) c.is_same.ensures.0
