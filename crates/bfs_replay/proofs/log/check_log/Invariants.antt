use Rattle.std.proofs.Common.{◌≡◌, ◌≤◌, ◌<◌, ℕ, List, length}
use Rattle.bfs_base.specs.Moments.{Passed}
use Rattle.bfs_disk.specs.State.{ReadsAs, Tells}
use Rattle.bfs_disk.specs.Disk.{MayLeave}
use Rattle.bfs_super.specs.Geometry.{geometry_of}
use Rattle.bfs_log.specs.Ring.{in_use}
use Rattle.bfs_log.specs.Replay.{Home, super_of, blocks_of, log_from, log_to}
use Rattle.bfs_log.specs.Walk.{Reaches}
use Rattle.bfs_replay.proofs.log.check_log.Given as goal

abbrev pub invariant-loop-at : goal.invariant-loop-at
invariant-loop-at g l = record {
  low : l.at < l.sup.log_blocks.len;
  long : length l.buffer ≡ l.sup.block_size;
  later : g.D.Disk.faults l.fn.disk ≤ g.D.Disk.faults l.disk;
  stops : g.D.Disk.stops l.fn.disk ≤ g.D.Disk.stops l.disk;
  state : g.D.Disk.state l.disk ≡ g.D.Disk.state l.fn.disk;
  size : g.D.Disk.size l.disk ≡ g.D.Disk.size l.fn.disk;
  time : Passed (g.D.Disk.clock l.fn.disk) (g.D.Disk.clock l.disk) (g.D.Disk.since l.fn.disk) (g.D.Disk.since l.disk) (MayLeave (g.D.Disk.state l.fn.disk));
  way : (image : List ℕ) → super_of image ≡ l.sup → Tells (g.D.Disk.state l.fn.disk) (λ s. ReadsAs s image)
      → (entries : List (List Home)) × Reaches (geometry_of l.sup) (blocks_of image) (log_to l.sup) (log_from l.sup) l.at entries;
}

abbrev pub decreases-loop-at : goal.decreases-loop-at
decreases-loop-at g l = in_use l.at (log_to l.sup) l.sup.log_blocks.len
