use Rattle.std.proofs.Common.{◌∙◌, sym}
use Rattle.bfs_stream.specs.Told.{contents}
use Rattle.bfs_sound.specs.Whole.{volume_of}
use Rattle.bfs_key_walk.proofs.inode_keys.read_keys.Goals as goal

pub returns-clause-keys : goal.returns-clause-keys
returns-clause-keys g c m n told has = c.keys_in.ensures (volume_of c.args.sup.now (contents m)) c.args.id n (sym (c.deref.ensures.value ∙ c.in-Ok.ensures.read m told)) has
