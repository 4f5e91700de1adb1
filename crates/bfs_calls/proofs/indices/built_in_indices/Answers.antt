use Rattle.std.proofs.Common.{◌∙◌, sym, subst}
use Rattle.bfs_super.specs.Geometry.{geometry_of}
use Rattle.bfs_look.specs.Ready.{IsReady, HasReady}
use Rattle.bfs_calls.proofs.indices.built_in_indices.Goals as goal

pub index_inside-requires-2-clause-ready : goal.index_inside-requires-2-clause-ready
index_inside-requires-2-clause-ready g c m told =
    subst (λ v. HasReady (geometry_of c.args.sup.now) v m) (sym c.in-Ok.ensures.bitmap) (c.requires.ready m (sym c.in-Ok.ensures.told ∙ told))

pub returns-in-Err-index_inside-clause-found : goal.returns-in-Err-index_inside-clause-found
returns-in-Err-index_inside-clause-found g c m tree lists told ready =
    c.in-Err-index_inside.ensures.found m tree lists (c.in-Ok.ensures.told ∙ told) (subst (λ v. IsReady (geometry_of c.args.sup.now) v m tree lists) (sym c.in-Ok.ensures.bitmap) ready)

pub index_inside-requires-3-clause-ready : goal.index_inside-requires-3-clause-ready
index_inside-requires-3-clause-ready g c m told =
    subst (λ v. HasReady (geometry_of c.args.sup.now) v m) (sym (c.in-Ok-index_inside.ensures.bitmap ∙ c.in-Ok.ensures.bitmap))
    (c.requires.ready m (sym (c.in-Ok-index_inside.ensures.told ∙ c.in-Ok.ensures.told) ∙ told))

pub returns-in-Ok-index_inside-2-clause-found : goal.returns-in-Ok-index_inside-2-clause-found
returns-in-Ok-index_inside-2-clause-found g c m tree lists told ready = record {
  name = c.in-Ok.ensures.found m tree lists told ready;
  size = c.in-Ok-index_inside.ensures.found m tree lists (c.in-Ok.ensures.told ∙ told) (subst (λ v. IsReady (geometry_of c.args.sup.now) v m tree lists) (sym c.in-Ok.ensures.bitmap) ready);
  last_modified =
      c.in-Ok-index_inside-2.ensures.found m tree lists (c.in-Ok-index_inside.ensures.told ∙ c.in-Ok.ensures.told ∙ told)
      (subst (λ v. IsReady (geometry_of c.args.sup.now) v m tree lists) (sym (c.in-Ok-index_inside.ensures.bitmap ∙ c.in-Ok.ensures.bitmap)) ready);
}

pub returns-in-Err-index_inside-2-clause-found : goal.returns-in-Err-index_inside-2-clause-found
returns-in-Err-index_inside-2-clause-found g c m tree lists told ready =
    c.in-Err-index_inside-2.ensures.found m tree lists (c.in-Ok-index_inside.ensures.told ∙ c.in-Ok.ensures.told ∙ told)
    (subst (λ v. IsReady (geometry_of c.args.sup.now) v m tree lists) (sym (c.in-Ok-index_inside.ensures.bitmap ∙ c.in-Ok.ensures.bitmap)) ready)
