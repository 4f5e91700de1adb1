use Rattle.std.proofs.Common.{◌≡◌, ◌∙◌, ◌+◌, ◌*◌, ◌<◌, ℕ, length, subst, arith}
use Rattle.std.specs.Prelude.{IsSome}
use Rattle.bfs_bitmap_check.proofs.Comparing.{told_at, wrong_at}
use Rattle.bfs_bitmap_check.proofs.bitmap.compare_all.Goals as goal

pub returns-in-Err-compare-clause-cause : goal.returns-in-Err-compare-clause-cause
returns-in-Err-compare-clause-cause g c = c.in-Err-compare.ensures.cause (g.B.Blocks.counts c.args.under.now) (g.B.Blocks.counts c.get.new.self)

pub returns-in-Err-compare-clause-wrong : goal.returns-in-Err-compare-clause-wrong
returns-in-Err-compare-clause-wrong g c m is all =
    let n : ℕ = length c.args.bytes.now in
    let at : ℕ = c.loop-at.at in
    let inside : at < c.args.claims.now.blocks = (let a = c.loop-at-test.true in let b = c.blocks-blocks.ensures.value in omega (arith, a, b)) in
    let place : at ≡ 8 * n * c.loop-at.j = c.loop-at.invariant.place in
    let some : IsSome (m (1 + c.loop-at.j)) = all c.loop-at.j (subst (λ (x : ℕ). x < c.args.claims.now.blocks) place inside) in
    let long : length c.get.new.into ≡ n = c.get.auto.into ∙ c.loop-at.invariant.long in
    wrong_at n at c.loop-at.j m c.args.claims.now c.get.new.into c.in-Err-compare.fault long place inside (c.loop-at.invariant.same m is all)
    (c.in-Err-compare.ensures.wrong m (told_at (g.B.Blocks.told c.loop-at.under) m (1 + c.loop-at.j) c.get.new.into (c.loop-at.invariant.told ∙ is) some c.in-Ok.ensures.bytes))
