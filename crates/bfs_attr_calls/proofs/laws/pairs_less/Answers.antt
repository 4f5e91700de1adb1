use Rattle.bfs_attr_calls.proofs.Pairs.{pairs_less}
use Rattle.bfs_attr_calls.proofs.laws.pairs_less.Goals as goal

pub returns : goal.returns
returns c tree lists id n index value key agrees is row was = pairs_less tree lists id n index value key agrees is row was
