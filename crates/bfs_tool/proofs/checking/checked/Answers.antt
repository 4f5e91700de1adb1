use Rattle.std.proofs.Common.{subst, IfOk}
use Rattle.bfs_run.specs.Checked.{IsVerdict}
use Rattle.bfs_tool.proofs.Checks.{recovers_with}
use Rattle.bfs_tool.proofs.checking.checked.Goals as goal

pub returns-in-Ok-Yes-clause-ends : goal.returns-in-Ok-Yes-clause-ends
returns-in-Ok-Yes-clause-ends c = λ image replayed done other verdict.
    recovers_with image replayed c.in-Ok-Yes.summary done
    (subst (IsVerdict replayed) c.in-Ok-Yes.field-0-is (subst (λ r. IfOk r (IsVerdict replayed)) c.in-Ok-Yes.is verdict))

pub returns-in-Ok-No-clause-ends : goal.returns-in-Ok-No-clause-ends
returns-in-Ok-No-clause-ends c = λ image replayed done other verdict. (
  replayed,
  done,
  subst (IsVerdict replayed) c.in-Ok-No.field-0-is (subst (λ r. IfOk r (IsVerdict replayed)) c.in-Ok-No.is verdict),
)
