use Rattle.std.proofs.Common.{◌≡◌, ◌∙◌, ℕ, List, true, false, Option, Some, sym, subst}
use Rattle.std.specs.Prelude.{IfSome}
use Rattle.bfs_look.specs.Climbs.{Climbs}
use Rattle.bfs_look.specs.Ready.{HasNodeAt}
use Rattle.bfs_look.proofs.node.is_node.Goals as goal

pub returns-then-not-up-clause-found : goal.returns-then-not-up-clause-found
returns-then-not-up-clause-found g c m tree lists told ready = (
  λ t. absurd (let bad : false ≡ true = t in cc),
  λ h. absurd (let up : c.in-Ok.up ≡ true = c.in-Ok.ensures.up c.args.bitmap.now m tree lists h.0 told ready h.1 in let off : c.in-Ok.up ≡ false = c.if-not-up.true in let bad : true ≡ false = sym up ∙ off in cc),
)

pub returns-in-Ok-way_down-clause-found : goal.returns-in-Ok-way_down-clause-found
returns-in-Ok-way_down-clause-found g c m tree lists told ready = (
  λ t.
      let same : c.in-Ok-way_down.found ≡ Some c.args.id = c.leads_to.ensures.0 t in
      subst (λ (o : Option ℕ). IfSome o (HasNodeAt tree)) same (c.in-Ok-way_down.ensures.node m tree lists (c.in-Ok.ensures.told ∙ told) ready),
  λ h.
      let way = c.in-Ok.ensures.way c.args.bitmap.now m tree lists h.0 told ready h.1 in
      c.leads_to.ensures.1 (c.in-Ok-way_down.ensures.back m tree lists c.args.id (c.in-Ok.ensures.told ∙ told) ready (subst (λ (l : List (List ℕ)). Climbs tree c.args.id l tree.root) (sym c.deref.ensures.value) way)),
)

pub returns-clause-found : goal.returns-clause-found
returns-clause-found g c m tree lists told ready = c.in-Err-way_down.ensures.undone m tree lists (c.in-Ok.ensures.told ∙ told) ready

pub way_down-requires-clause-ready : goal.way_down-requires-clause-ready
way_down-requires-clause-ready g c m told = c.requires.ready m (sym c.in-Ok.ensures.told ∙ told)
