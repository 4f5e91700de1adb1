use Rattle.bfs_super.specs.Geometry.{geometry_of}
use Rattle.bfs_query.proofs.Resting.{names_read, own_index}
use Rattle.bfs_query.proofs.kind.index_at.Goals as goal

pub index_named-requires-clause-directory : goal.index_named-requires-clause-directory
index_named-requires-clause-directory g c m told =
    let h = c.requires.ready m told in
    names_read c.args.sup.now c.args.bitmap.now m m h.tree h.lists c.requires.valid h.ready c.args.name.now (own_index (geometry_of c.args.sup.now) m c.args.name.now)

pub returns-in-Ok-clause-found : goal.returns-in-Ok-clause-found
returns-in-Ok-clause-found g c m tree lists told ready =
    c.in-Ok.ensures.found c.args.bitmap.now m m tree lists told ready (own_index (geometry_of c.args.sup.now) m c.args.name.now)

pub returns-in-Err-clause-found : goal.returns-in-Err-clause-found
returns-in-Err-clause-found g c m tree lists told ready =
    c.in-Err.ensures.found c.args.bitmap.now m m tree lists told ready (own_index (geometry_of c.args.sup.now) m c.args.name.now)
