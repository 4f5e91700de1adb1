use Rattle.std.proofs.Common.{length}
use Rattle.bfs_device.proofs.data.+newest_bytes.Given as goal

abbrev pub decreases-newest_bytes : goal.decreases-newest_bytes
decreases-newest_bytes l = length l.groups.now
