use Rattle.std.proofs.Common.{◌≡◌, ◌≤◌, ◌*◌, length, take}
use Rattle.bfs_super.specs.declared.geometry.Geometry.{Geometry}
use Rattle.bfs_log.specs.Entry.{blocks_in}
use Rattle.bfs_replay.proofs.log.count_blocks.Given as goal

abbrev pub invariant-loop-run : goal.invariant-loop-run
invariant-loop-run l = record {
  total : (g : Geometry) → l.total ≡ length (blocks_in g (take l.run-index l.runs));
  bound : l.total ≤ 65535 * l.run-index;
}
