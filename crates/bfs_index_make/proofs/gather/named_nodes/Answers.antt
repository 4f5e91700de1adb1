use Rattle.std.proofs.Common.{◌∙◌, sym, subst, ap, codes}
use Rattle.bfs_remove_index.specs.Indices.{IsIndexFound}
use Rattle.bfs_index_make.specs.Gathered.{numbers_of}
use Rattle.bfs_remove_index.proofs.Indexed.{index_readable, no_index}
use Rattle.bfs_index_make.proofs.Named.{whole_tree, numbers_named, unnamed}
use Rattle.bfs_index_make.proofs.gather.named_nodes.Goals as goal

pub returns-in-Err-clause-named : goal.returns-in-Err-clause-named
returns-in-Err-clause-named g c m tree lists told ready built = c.in-Err.ensures.found m tree lists told ready

pub returns-in-None-clause-named : goal.returns-in-None-clause-named
returns-in-None-clause-named g c m tree lists told ready built =
    let none = subst (IsIndexFound lists (codes "name")) c.in-None.is (c.in-Ok.ensures.found m tree lists told ready) in
    absurd (unnamed tree built (no_index c.args.sup.now c.args.bitmap.now m tree lists c.requires.valid ready (codes "name") none))

pub rows_from-requires-clause-stream : goal.rows_from-requires-clause-stream
rows_from-requires-clause-stream g c m told =
    let before = sym c.in-Ok.ensures.told ∙ told in
    let h = c.requires.ready m before in
    let found = subst (IsIndexFound h.lists (codes "name")) c.in-Some.is (c.in-Ok.ensures.found m h.tree h.lists before h.ready) in
    index_readable c.args.sup.now c.args.bitmap.now m h.tree h.lists c.requires.valid h.ready (codes "name") c.in-Some.at.inode found.0

pub returns-in-Err-rows_from-clause-named : goal.returns-in-Err-rows_from-clause-named
returns-in-Err-rows_from-clause-named g c m tree lists told ready built =
    let found = subst (IsIndexFound lists (codes "name")) c.in-Some.is (c.in-Ok.ensures.found m tree lists told ready) in
    c.in-Err-rows_from.ensures.rows m (c.in-Ok.ensures.told ∙ told) (whole_tree c.args.sup.now c.args.bitmap.now m tree lists c.requires.valid ready c.in-Some.at found built)

pub returns-in-Ok-numbers_in-clause-named : goal.returns-in-Ok-numbers_in-clause-named
returns-in-Ok-numbers_in-clause-named g c m tree lists told ready built =
    let found = subst (IsIndexFound lists (codes "name")) c.in-Some.is (c.in-Ok.ensures.found m tree lists told ready) in
    let s = c.args.sup.now in
    let v = c.args.bitmap.now in
    c.in-Ok-numbers_in.ensures ∙ ap numbers_of (c.in-Ok-rows_from.ensures.rows m (c.in-Ok.ensures.told ∙ told) (whole_tree s v m tree lists c.requires.valid ready c.in-Some.at found built))
    ∙ numbers_named s v m tree lists c.requires.valid ready c.in-Some.at found built
