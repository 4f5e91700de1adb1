use Rattle.std.proofs.Common.{◌≡◌, ◌≤◌, ◌*◌, length, take}
use Rattle.std.specs.Prelude.{All}
use Rattle.bfs_log.specs.Entry.{HasPlace, blocks_in}
use Rattle.bfs_log.proofs.read.named_blocks.Given as goal

abbrev pub invariant-loop-run : goal.invariant-loop-run
invariant-loop-run l = record {
  good : All (HasPlace l.geometry) (take l.run-index l.runs);
  total : l.total ≡ length (blocks_in l.geometry (take l.run-index l.runs));
  bound : l.total ≤ 65535 * l.run-index;
}
