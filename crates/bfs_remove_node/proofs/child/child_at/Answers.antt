use Rattle.std.proofs.Common.{◌≤◌, ◌∙◌, ℕ, refl, sym, subst}
use Rattle.bfs_remove_node.proofs.Sought.{plain_of, sought_some, child_within, found_none, found_some}
use Rattle.bfs_remove_node.proofs.child.child_at.Goals as goal

pub returns-in-Err-clause-found : goal.returns-in-Err-clause-found
returns-in-Err-clause-found g c m tree lists d e told ready is kind there = c.in-Err.ensures.reads m tree lists (plain_of tree) told ready refl

pub returns-in-None-clause-found : goal.returns-in-None-clause-found
returns-in-None-clause-found g c m tree lists d e told ready is kind there =
    absurd (found_none tree c.args.dir c.args.name.now c.in-Ok.found (c.in-Ok.ensures.reads m tree lists (plain_of tree) told ready refl) d is kind e there (sym c.child_in.ensures ∙ c.in-None.is))

pub returns-then-child-blocks_in-clause-found : goal.returns-then-child-blocks_in-clause-found
returns-then-child-blocks_in-clause-found g c m tree lists d e told ready is kind there =
    let at = sought_some tree c.args.dir c.args.name.now c.in-Ok.found (c.in-Ok.ensures.reads m tree lists (plain_of tree) told ready refl) c.in-Some.child (sym c.child_in.ensures ∙ c.in-Some.is) in
    absurd (child_within c.args.sup.now c.args.bitmap.now m tree lists ready c.args.dir c.args.name.now c.in-Some.child.id at (subst (λ (n : ℕ). n ≤ c.in-Some.child.id) c.blocks_in.ensures c.if-child-blocks_in.true))

pub returns-clause-found : goal.returns-clause-found
returns-clause-found g c m tree lists d e told ready is kind there =
    found_some tree c.args.dir c.args.name.now c.in-Ok.found (c.in-Ok.ensures.reads m tree lists (plain_of tree) told ready refl) c.in-Some.child (sym c.child_in.ensures ∙ c.in-Some.is) e there
