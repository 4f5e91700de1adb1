use Rattle.std.proofs.Common.{◌<◌, length, rules}
use Rattle.bfs_bitmap.proofs.Settled.{all_settled}
use Rattle.bfs_bitmap.proofs.given.are_settled.Goals as goal

pub returns : goal.returns
returns c last = let some : 0 < length c.args.given.now = search rules in all_settled c.args.given.now c.requires some last
