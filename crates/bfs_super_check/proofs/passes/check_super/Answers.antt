use Rattle.std.proofs.Common.{List, ℕ, refl, sym, subst}
use Rattle.bfs_super.specs.Conditions.{IsRefusal}
use Rattle.bfs_super.specs.Layout.{super_at}
use Rattle.bfs_finding.specs.Findings.{of_super}
use Rattle.bfs_super_check.proofs.passes.check_super.Goals as goal

pub returns-in-Err-clause-wrong : goal.returns-in-Err-clause-wrong
returns-in-Err-clause-wrong c image long same =
    of_super long c.in-Err.fault refl (subst (λ (b : List ℕ). IsRefusal (super_at b) c.in-Err.fault) (sym same) c.in-Err.ensures.refused)
