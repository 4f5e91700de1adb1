use Rattle.std.proofs.Common.{◌≡◌, ◌+◌, take, length}
use Rattle.std.specs.Prelude.{All}
use Rattle.bfs_inode.specs.Inode.{runs_in}
use Rattle.bfs_stream_check.specs.Read.{sizes_in, IsRunOf}
use Rattle.bfs_stream_check.proofs.Takes.{IsOn}
use Rattle.bfs_stream_check.proofs.take.take_runs.Given as goal

abbrev pub invariant-loop-i : goal.invariant-loop-i
invariant-loop-i l = record {
  on : IsOn (take l.i (runs_in l.fn.count l.fn.bytes l.fn.at)) l.fn.into.items l.into.items;
  sound : All (IsRunOf (sizes_in l.fn.bounds) l.fn.whole) l.fn.into.items → All (IsRunOf (sizes_in l.fn.bounds) l.fn.whole) l.into.items;
  few : length l.into.items ≡ length l.fn.into.items + l.i;
}
