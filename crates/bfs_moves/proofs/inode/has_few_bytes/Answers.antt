use Rattle.bfs_shift.proofs.Basics.{least_bytes, most_bytes}
use Rattle.bfs_moves.proofs.inode.has_few_bytes.Goals as goal

pub returns : goal.returns
returns c = record { least = least_bytes c.args.sup.now c.requires; most = most_bytes c.args.sup.now c.requires }
