use Rattle.bfs_bitmap.proofs.Covered.{clear_either}
use Rattle.bfs_bitmap.proofs.reserved.either.Goals as goal

pub returns : goal.returns
returns c j h = clear_either c.args.a c.args.b j
