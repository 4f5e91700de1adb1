use Rattle.bfs_value_walk.proofs.Wording.{bit_put}
use Rattle.bfs_value_walk.proofs.words.with_bit.Goals as goal

pub returns : goal.returns
returns c j h = bit_put c.args.word c.args.bit j c.requires h
