use Rattle.bfs_stream.specs.Told.{contents}
use Rattle.bfs_sound.specs.Whole.{volume_of}
use Rattle.bfs_key_walk.proofs.Bearing.{can_read, attributes_stand}
use Rattle.bfs_key_walk.proofs.key.read_attribute_key.Goals as goal

pub attribute_key-requires-clause-readable : goal.attribute_key-requires-clause-readable
attribute_key-requires-clause-readable g c m told =
    let k = c.requires.known m told in
    can_read c.args.sup.now m (c.requires.all m told) c.args.id k.0 c.requires.inside k.1

pub returns-in-Ok-clause-key : goal.returns-in-Ok-clause-key
returns-in-Ok-clause-key g c m n told known =
    let a = attributes_stand (volume_of c.args.sup.now (contents m)) c.args.id n known in
    c.in-Ok.ensures.key m n.attributes told a.0 a.1

pub returns-in-Err-clause-unread : goal.returns-in-Err-clause-unread
returns-in-Err-clause-unread g c m n told known =
    let a = attributes_stand (volume_of c.args.sup.now (contents m)) c.args.id n known in
    c.unread.ensures.unread (c.in-Err.ensures.key m n.attributes told a.0 a.1)

pub returns-in-Err-clause-cause : goal.returns-in-Err-clause-cause
returns-in-Err-clause-cause g c = c.unread.ensures.cause (g.B.Blocks.counts c.args.under.now) (g.B.Blocks.counts c.attribute_key.new.under) c.in-Err.ensures.cause
