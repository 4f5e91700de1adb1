use Rattle.std.proofs.Common.{◌≤◌, ◌<◌, ◌+◌, ◌∙◌, ℕ, sym, ap, arith}
use Rattle.bfs_base.specs.Lists.{times, counted_from}
use Rattle.bfs_inode_walk.proofs.Claiming.{run_once, run_below, run_past}
use Rattle.bfs_inode_walk.proofs.runs.count_of.Goals as goal

pub returns-then-block-first-clause-count : goal.returns-then-block-first-clause-count
returns-then-block-first-clause-count c =
    sym (ap (λ (f : ℕ). times c.args.block (counted_from f c.args.run.len)) (sym c.start_of-first.ensures.value) ∙ run_below c.start_of-first.result c.args.run.len c.args.block c.if-block-first.true)

pub returns-then-block-first-2-clause-count : goal.returns-then-block-first-2-clause-count
returns-then-block-first-2-clause-count c =
    let below = c.if-block-first-2.true in
    let len = c.from.ensures in
    let high : c.args.block < c.start_of-first.result + c.args.run.len = omega (arith, below, len) in
    sym (ap (λ (f : ℕ). times c.args.block (counted_from f c.args.run.len)) (sym c.start_of-first.ensures.value) ∙ run_once c.start_of-first.result c.args.run.len c.args.block c.if-block-first.false high)

pub returns-else-block-first-2-clause-count : goal.returns-else-block-first-2-clause-count
returns-else-block-first-2-clause-count c =
    let above = c.if-block-first-2.false in
    let len = c.from.ensures in
    let past : c.start_of-first.result + c.args.run.len ≤ c.args.block = omega (arith, above, len) in
    sym (ap (λ (f : ℕ). times c.args.block (counted_from f c.args.run.len)) (sym c.start_of-first.ensures.value) ∙ run_past c.start_of-first.result c.args.run.len c.args.block past)
