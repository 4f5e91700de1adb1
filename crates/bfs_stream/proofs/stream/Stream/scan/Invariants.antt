use Rattle.std.proofs.Common.{take}
use Rattle.bfs_inode.specs.Inode.{runs_in}
use Rattle.bfs_stream.specs.Scans.{IsPast}
use Rattle.bfs_stream.proofs.Levels.{IsScanned}
use Rattle.bfs_stream.proofs.stream.Stream.scan.Given as goal

abbrev pub invariant-loop-i : goal.invariant-loop-i
invariant-loop-i l = record {
  scanned : IsScanned l.self.sizes (runs_in l.runs l.bytes l.at) l.place l.i l.left;
  past : IsPast l.self.sizes (take l.i (runs_in l.runs l.bytes l.at)) l.place l.left;
}
