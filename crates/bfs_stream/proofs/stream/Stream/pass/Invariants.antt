use Rattle.std.proofs.Common.{◌*◌, take}
use Rattle.bfs_inode.specs.Inode.{runs_in}
use Rattle.bfs_stream.specs.Scans.{IsPast}
use Rattle.bfs_stream.proofs.stream.Stream.pass.Given as goal

abbrev pub invariant-loop-i : goal.invariant-loop-i
invariant-loop-i l = record {
  past : IsPast l.self.sizes (take (4 * l.i) (runs_in l.runs l.bytes l.at)) l.place l.left;
}
