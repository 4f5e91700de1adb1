use Rattle.std.proofs.Common.{◌≤◌, ◌∙◌, ℕ, refl, sym, subst}
use Rattle.bfs_remove_node.proofs.Sought.{plain_of, sought_some, child_within}
use Rattle.bfs_rename.proofs.Childs.{other_none, other_same, other_some}
use Rattle.bfs_rename.proofs.child.other_at.Goals as goal

pub returns-in-Err-clause-found : goal.returns-in-Err-clause-found
returns-in-Err-clause-found g c m tree lists t told ready is kind = c.in-Err.ensures.reads m tree lists (plain_of tree) told ready refl

pub returns-in-None-clause-found : goal.returns-in-None-clause-found
returns-in-None-clause-found g c m tree lists t told ready is kind =
    other_none tree c.args.to_dir c.args.to_name.now c.in-Ok.found (c.in-Ok.ensures.reads m tree lists (plain_of tree) told ready refl) c.args.id t is kind (sym c.child_in.ensures ∙ c.in-None.is)

pub returns-then-other-blocks_in-clause-found : goal.returns-then-other-blocks_in-clause-found
returns-then-other-blocks_in-clause-found g c m tree lists t told ready is kind =
    let at = sought_some tree c.args.to_dir c.args.to_name.now c.in-Ok.found (c.in-Ok.ensures.reads m tree lists (plain_of tree) told ready refl) c.in-Some.other (sym c.child_in.ensures ∙ c.in-Some.is) in
    absurd (child_within c.args.sup.now c.args.bitmap.now m tree lists ready c.args.to_dir c.args.to_name.now c.in-Some.other.id at (subst (λ (n : ℕ). n ≤ c.in-Some.other.id) c.blocks_in.ensures c.if-other-blocks_in.true))

pub returns-then-other-id-clause-found : goal.returns-then-other-id-clause-found
returns-then-other-id-clause-found g c m tree lists t told ready is kind =
    other_same tree c.args.to_dir c.args.to_name.now c.in-Ok.found (c.in-Ok.ensures.reads m tree lists (plain_of tree) told ready refl) c.args.id c.in-Some.other (sym c.child_in.ensures ∙ c.in-Some.is) c.if-other-id.true

pub returns-clause-found : goal.returns-clause-found
returns-clause-found g c m tree lists t told ready is kind =
    other_some tree c.args.to_dir c.args.to_name.now c.in-Ok.found (c.in-Ok.ensures.reads m tree lists (plain_of tree) told ready refl) c.args.id c.in-Some.other (sym c.child_in.ensures ∙ c.in-Some.is) c.if-other-id.false
