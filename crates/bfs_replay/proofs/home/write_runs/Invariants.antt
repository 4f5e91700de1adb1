use Rattle.std.proofs.Common.{◌≡◌, ◌≤◌, ◌<◌, ◌++◌, ℕ, List, length, Bool, true, None, take}
use Rattle.bfs_base.specs.Lists.{Has}
use Rattle.bfs_base.specs.Moments.{Passed}
use Rattle.bfs_disk.specs.State.{Tells}
use Rattle.bfs_super.specs.Geometry.{geometry_of}
use Rattle.bfs_log.specs.Entry.{blocks_in}
use Rattle.bfs_log.specs.Ring.{next_place}
use Rattle.bfs_log.specs.Replay.{Home, AgreeBut, block_sectors, blocks_of, home_places, homes_from}
use Rattle.bfs_replay.specs.Homing.{Homing, IsLogOf}
use Rattle.bfs_replay.proofs.home.write_runs.Given as goal

abbrev pub invariant-loop-run : goal.invariant-loop-run
invariant-loop-run g l = record {
  place : l.place ≡ next_place l.at (length (blocks_in (geometry_of l.sup) (take l.run-index l.runs))) l.sup.log_blocks.len;
  low : l.place < l.sup.log_blocks.len;
  long : length l.buffer ≡ l.sup.block_size;
  later : g.D.Disk.faults l.fn.disk ≤ g.D.Disk.faults l.disk;
  stops : g.D.Disk.stops l.fn.disk ≤ g.D.Disk.stops l.disk;
  clock : g.D.Disk.clock l.fn.disk ≤ g.D.Disk.clock l.disk;
  size : g.D.Disk.size l.disk ≡ g.D.Disk.size l.fn.disk;
  next : (quiet : Bool) (image : List ℕ) (all done : List Home) → IsLogOf image l.sup all → ((k : ℕ) → Has (blocks_in (geometry_of l.sup) l.runs) k → Has (home_places all) k)
      → Tells (g.D.Disk.state l.fn.disk) (Homing quiet (block_sectors l.sup) all done image)
      → Tells (g.D.Disk.state l.disk) (Homing quiet (block_sectors l.sup) all (done ++ homes_from (geometry_of l.sup) (blocks_of image) l.at (blocks_in (geometry_of l.sup) (take l.run-index l.runs))) image);
  time : (image : List ℕ) (all done : List Home) → IsLogOf image l.sup all → ((k : ℕ) → Has (blocks_in (geometry_of l.sup) l.runs) k → Has (home_places all) k)
      → Tells (g.D.Disk.state l.fn.disk) (Homing true (block_sectors l.sup) all done image)
      → Passed (g.D.Disk.clock l.fn.disk) (g.D.Disk.clock l.disk) (g.D.Disk.since l.fn.disk) (g.D.Disk.since l.disk) (AgreeBut (block_sectors l.sup) all image);
  silent : g.D.Disk.state l.fn.disk ≡ None → g.D.Disk.state l.disk ≡ None;
}
