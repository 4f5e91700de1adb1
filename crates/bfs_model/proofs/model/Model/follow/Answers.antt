use Rattle.std.proofs.Common.{refl}
use Rattle.bfs_model.proofs.model.Model.follow.Goals as goal

pub returns-then-branch-clause-step : goal.returns-then-branch-clause-step
returns-then-branch-clause-step c = (λ _. c.in_ok-take.ensures.step.0 c.if-branch.true, λ _. refl)
