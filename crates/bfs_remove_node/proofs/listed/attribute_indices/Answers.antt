use Rattle.std.proofs.Common.{◌∙◌, sym, ap, refl, subst}
use Rattle.bfs_super.specs.Geometry.{geometry_of}
use Rattle.bfs_look.specs.Ready.{IsReady, HasReady}
use Rattle.bfs_bitmap.specs.Runs.{Room}
use Rattle.bfs_remove_node.specs.Counted.{listed_among}
use Rattle.bfs_remove_node.proofs.Keyed.{indices_read}
use Rattle.bfs_remove_node.proofs.Sought.{plain_of}
use Rattle.bfs_remove_node.proofs.listed.attribute_indices.Goals as goal

pub returns-in-Err-clause-counted : goal.returns-in-Err-clause-counted
returns-in-Err-clause-counted g c m tree lists n told ready is = c.in-Err.ensures.reads m tree lists (plain_of tree) told ready refl

pub listed_among-requires-clause-ready : goal.listed_among-requires-clause-ready
listed_among-requires-clause-ready g c m told =
    subst (λ (r : Room). HasReady (geometry_of c.args.sup.now) r m) (sym c.in-Ok.ensures.bitmap) (c.requires.ready m (sym c.in-Ok.ensures.told ∙ told))

pub returns-clause-counted : goal.returns-clause-counted
returns-clause-counted g c m tree lists n told ready is =
    c.in-Err-listed_among.ensures.counted m tree lists n (c.in-Ok.ensures.told ∙ told) (subst (λ (r : Room). IsReady (geometry_of c.args.sup.now) r m tree lists) (sym c.in-Ok.ensures.bitmap) ready) is

pub returns-in-Ok-listed_among-clause-counted : goal.returns-in-Ok-listed_among-clause-counted
returns-in-Ok-listed_among-clause-counted g c m tree lists n told ready is =
    c.in-Ok-listed_among.ensures.counted m tree lists n (c.in-Ok.ensures.told ∙ told) (subst (λ (r : Room). IsReady (geometry_of c.args.sup.now) r m tree lists) (sym c.in-Ok.ensures.bitmap) ready) is
    ∙ ap (listed_among tree c.args.id) (c.as_slice.ensures ∙ c.index_rows-rows.ensures ∙ indices_read (plain_of tree) c.in-Ok.found (c.in-Ok.ensures.reads m tree lists (plain_of tree) told ready refl))
