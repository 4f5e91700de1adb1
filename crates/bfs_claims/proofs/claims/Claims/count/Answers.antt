use Rattle.std.proofs.Common.{◌≤◌, ℕ, List, subst, arith}
use Rattle.bfs_claims.specs.Claims.{Claimed, AreClaimed}
use Rattle.bfs_claims.proofs.Claiming.{below_few, are_listed}
use Rattle.bfs_claims.proofs.claims.Claims.count.Goals as goal

pub returns-clause-few : goal.returns-clause-few
returns-clause-few c =
    subst (λ (v : Claimed). c.self.inside.count ≤ v.blocks) c.self.view_is
    (let a = c.self.invariant.counted in let b = below_few c.self.inside.bits.items c.self.inside.blocks in omega (arith, a, b))

pub returns-clause-listed : goal.returns-clause-listed
returns-clause-listed c = subst (λ (v : Claimed). (xs : List ℕ) × AreClaimed v xs) c.self.view_is (are_listed _ c.self.invariant)
