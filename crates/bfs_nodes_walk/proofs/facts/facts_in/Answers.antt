use Rattle.bfs_sound.specs.Whole.{volume_of}
use Rattle.bfs_nodes_walk.proofs.facts.facts_in.Goals as goal

pub returns : goal.returns
returns c blocks same = record { plain = λ is. c.is_plain.ensures.plain blocks same is; keys = λ n has. c.keys_in.ensures (volume_of c.args.sup blocks) c.args.id n same has }
