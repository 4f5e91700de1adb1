use Rattle.bfs_stream.specs.Told.{contents}
use Rattle.bfs_sound.specs.Whole.{volume_of}
use Rattle.bfs_attrs_walk.proofs.Visiting.{taken_in}
use Rattle.bfs_attrs_walk.proofs.node.visit_found.Goals as goal

pub returns-in-Err-clause-taken : goal.returns-in-Err-clause-taken
returns-in-Err-clause-taken g c m xs told a = taken_in (volume_of c.args.sup.now (contents m)) xs c.args.found c.in-Some.directory c.in-Err.fault c.in-Some.is (c.in-Err.ensures.taken m xs told a)
