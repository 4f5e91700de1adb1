use Rattle.std.proofs.Common.{inr, subst, IfErr}
use Rattle.bfs_check.specs.Checked.{IsPassCauseIn, IsWrongOf}
use Rattle.bfs_check.proofs.checking.verdict_of.Goals as goal

pub returns-in-Err-Wrong-clause-verdict : goal.returns-in-Err-Wrong-clause-verdict
returns-in-Err-Wrong-clause-verdict c = λ image valid whole wrong.
    inr (valid, subst (IsWrongOf image) c.in-Err-Wrong.field-0-is (subst (λ r. IfErr r (IsWrongOf image)) c.in-Err-Wrong.is wrong))

pub returns-in-Err-Block-clause-cause : goal.returns-in-Err-Block-clause-cause
returns-in-Err-Block-clause-cause c = λ old new cause.
    c.unread.ensures.cause old new (subst (IsPassCauseIn old new) c.in-Err-Block.field-0-is (subst (λ r. IfErr r (IsPassCauseIn old new)) c.in-Err-Block.is cause))
