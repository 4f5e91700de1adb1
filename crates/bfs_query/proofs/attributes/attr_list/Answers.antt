use Rattle.std.proofs.Common.{◌∙◌, sym, ap, subst}
use Rattle.std.specs.FinMap.{get}
use Rattle.bfs_tree.specs.Trees.{Tree}
use Rattle.bfs_attr.specs.Bearers.{entries_at, volume_at}
use Rattle.bfs_super.specs.Geometry.{geometry_of}
use Rattle.bfs_look.specs.Ready.{IsKindOf}
use Rattle.bfs_look.proofs.Replying.{attributes_none}
use Rattle.bfs_query.proofs.Bearing.{bears, attributes_are, can_read, entries_apart}
use Rattle.bfs_query.proofs.attributes.attr_list.Goals as goal

pub returns-in-Err-clause-reads : goal.returns-in-Err-clause-reads
returns-in-Err-clause-reads g c m tree lists st told ready same = c.in-Err.ensures.found m tree lists told ready

pub returns-in-None-clause-reads : goal.returns-in-None-clause-reads
returns-in-None-clause-reads g c m tree lists st told ready same =
    attributes_none st c.args.id (ap (λ (t : Tree). get t.nodes c.args.id) same ∙ subst (IsKindOf tree c.args.id) c.in-None.is (c.in-Ok.ensures.found m tree lists told ready))

pub rows_of-requires-clause-readable : goal.rows_of-requires-clause-readable
rows_of-requires-clause-readable g c m told =
    let before = sym c.in-Ok.ensures.told ∙ told in
    let h = c.requires.ready m before in
    let n = subst (IsKindOf h.tree c.args.id) c.in-Some.is (c.in-Ok.ensures.found m h.tree h.lists before h.ready) in
    can_read c.args.sup.now c.args.bitmap.now m h.tree h.lists _ c.args.id n.0 c.requires.valid h.ready.work n.1

pub returns-in-Err-rows_of-clause-reads : goal.returns-in-Err-rows_of-clause-reads
returns-in-Err-rows_of-clause-reads g c m tree lists st told ready same =
    let s = c.args.sup.now in
    let n = subst (IsKindOf tree c.args.id) c.in-Some.is (c.in-Ok.ensures.found m tree lists told ready) in
    c.in-Err-rows_of.ensures.found m (c.in-Ok.ensures.told ∙ told) (bears s c.args.bitmap.now m tree lists _ c.args.id n.0 c.requires.valid ready.work n.1)

pub returns-in-Ok-rows_reply-clause-reads : goal.returns-in-Ok-rows_reply-clause-reads
returns-in-Ok-rows_reply-clause-reads g c m tree lists st told ready same =
    let s = c.args.sup.now in
    let id = c.args.id in
    let n = subst (IsKindOf tree id) c.in-Some.is (c.in-Ok.ensures.found m tree lists told ready) in
    let has = bears s c.args.bitmap.now m tree lists _ id n.0 c.requires.valid ready.work n.1 in
    c.in-Ok-rows_reply.ensures st id n.0 (entries_at (volume_at (geometry_of s) m) id) (ap (λ (t : Tree). get t.nodes id) same ∙ n.1)
    (entries_apart s c.args.bitmap.now m tree lists _ id n.0 c.requires.valid ready.work n.1)
    (attributes_are s c.args.bitmap.now m tree lists _ id n.0 c.requires.valid ready.work n.1)
    (c.in-Ok-rows_of.ensures.found m (c.in-Ok.ensures.told ∙ told) has)
