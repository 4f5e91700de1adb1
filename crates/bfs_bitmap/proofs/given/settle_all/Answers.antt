use Rattle.std.proofs.Common.{◌≡◌, ◌-◌, ◌∙◌, ap, set, suc, arith}
use Rattle.bfs_bitmap.proofs.Settled.{step_back, stop_back}
use Rattle.bfs_bitmap.proofs.given.settle_all.Goals as goal

pub returns-then-run : goal.returns-then-run
returns-then-run c =
    let back : c.loop-at.at ≡ suc (c.loop-at.at - 1) = omega arith in
    stop_back c.args.given.now.items c.loop-at.given.items c.loop-at.at (c.loop-at.at - 1) c.index-run.result.now c.requires c.loop-at.invariant.0 back c.loop-at.invariant.1 c.index-run.ensures c.if-run.true

pub loop-at-preserved : goal.loop-at-preserved
loop-at-preserved c =
    let back : c.loop-at.at ≡ suc (c.loop-at.at - 1) = omega arith in (
      omega (arith, c.loop-at.invariant.0),
      ap (set c.loop-at.given.items (c.loop-at.at - 1)) c.as_settled.ensures
          ∙ step_back c.args.given.now.items c.loop-at.given.items c.loop-at.at (c.loop-at.at - 1) c.index-run.result.now c.loop-at.invariant.0 back c.loop-at.invariant.1 c.index-run.ensures,
    )
