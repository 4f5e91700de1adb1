use Rattle.std.proofs.Common.{◌≡◌, ◌≤◌, ◌*◌, take, length}
use Rattle.bfs_stream.specs.Sizes.{Sizes}
use Rattle.bfs_stream.specs.Places.{blocks_of}
use Rattle.bfs_stream_check.proofs.count.count_blocks.Given as goal

abbrev pub invariant-loop-i : goal.invariant-loop-i
invariant-loop-i l = record {
  value : (s : Sizes) → l.count ≡ length (blocks_of s (take l.i l.runs));
  few : l.count ≤ 65535 * l.i;
}
