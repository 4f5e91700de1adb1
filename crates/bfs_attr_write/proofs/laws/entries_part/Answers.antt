use Rattle.bfs_attr_write.proofs.Parted.{apart_parted, map_parted}
use Rattle.bfs_attr_write.proofs.laws.entries_part.Goals as goal

pub returns : goal.returns
returns c before behind entry apart = (apart_parted before behind entry apart, map_parted before behind entry apart)
