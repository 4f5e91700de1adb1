use Rattle.std.proofs.Common.{arith}
use Rattle.bfs_log.specs.Found.{no_run}
use Rattle.bfs_log.proofs.Listed.{length-blocks_more}
use Rattle.bfs_replay.proofs.log.count_blocks.Goals as goal

pub loop-run-preserved : goal.loop-run-preserved
loop-run-preserved c = record {
  total = λ g. omega (arith, c.loop-run.invariant.total g, length-blocks_more g c.args.runs.now c.loop-run.run-index no_run c.loop-run-test.true, c.from-total.ensures);
  bound = omega (arith, c.loop-run.invariant.bound);
}
