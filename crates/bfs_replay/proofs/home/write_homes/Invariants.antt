use Rattle.std.proofs.Common.{◌≡◌, ◌≤◌, ◌<◌, [], ℕ, List, length, Bool, true, None}
use Rattle.bfs_base.specs.Moments.{Passed}
use Rattle.bfs_disk.specs.State.{Tells}
use Rattle.bfs_log.specs.Ring.{in_use}
use Rattle.bfs_log.specs.Replay.{AgreeBut, block_sectors, homes_of, log_to}
use Rattle.bfs_replay.specs.Homing.{Homing, IsLogOf, Between}
use Rattle.bfs_replay.specs.Steps.{HasEntriesIn}
use Rattle.bfs_replay.proofs.home.write_homes.Given as goal

abbrev pub invariant-loop-at : goal.invariant-loop-at
invariant-loop-at g l = record {
  low : l.at < l.sup.log_blocks.len;
  array : length l.array ≡ l.sup.block_size;
  long : length l.buffer ≡ l.sup.block_size;
  later : g.D.Disk.faults l.fn.disk ≤ g.D.Disk.faults l.disk;
  stops : g.D.Disk.stops l.fn.disk ≤ g.D.Disk.stops l.disk;
  clock : g.D.Disk.clock l.fn.disk ≤ g.D.Disk.clock l.disk;
  size : g.D.Disk.size l.disk ≡ g.D.Disk.size l.fn.disk;
  way : (quiet : Bool) (image : List ℕ) (log : HasEntriesIn image l.sup) → IsLogOf image l.sup (homes_of log.0) → Tells (g.D.Disk.state l.fn.disk) (Homing quiet (block_sectors l.sup) (homes_of log.0) [] image)
      → Between quiet image l.sup log.0 l.at (g.D.Disk.state l.disk);
  time : (image : List ℕ) (log : HasEntriesIn image l.sup) → IsLogOf image l.sup (homes_of log.0) → Tells (g.D.Disk.state l.fn.disk) (Homing true (block_sectors l.sup) (homes_of log.0) [] image)
      → Passed (g.D.Disk.clock l.fn.disk) (g.D.Disk.clock l.disk) (g.D.Disk.since l.fn.disk) (g.D.Disk.since l.disk) (AgreeBut (block_sectors l.sup) (homes_of log.0) image);
  silent : g.D.Disk.state l.fn.disk ≡ None → g.D.Disk.state l.disk ≡ None;
}

abbrev pub decreases-loop-at : goal.decreases-loop-at
decreases-loop-at g l = in_use l.at (log_to l.sup) l.sup.log_blocks.len
