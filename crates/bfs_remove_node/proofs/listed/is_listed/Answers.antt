use Rattle.std.proofs.Common.{ℕ, List, ◌∙◌, sym, ap, refl, subst}
use Rattle.bfs_tree.specs.Refusals.{is_built_in}
use Rattle.bfs_tree.specs.Steps.{Reads}
use Rattle.bfs_tree.specs.declared.call.Call.TheVariants as calls
use Rattle.bfs_remove_node.proofs.Keyed.{listed_by, built_not}
use Rattle.bfs_remove_node.proofs.Sought.{plain_of}
use Rattle.bfs_remove_node.proofs.listed.is_listed.Goals as goal

pub returns-then-is_built_in-clause-found : goal.returns-then-is_built_in-clause-found
returns-then-is_built_in-clause-found g c m tree lists n told ready is =
    built_not tree c.args.id c.args.row.now (ap is_built_in (sym c.as_slice-name.ensures) ∙ sym c.is_built_in.ensures ∙ c.if-is_built_in.true)

pub returns-in-Err-clause-found : goal.returns-in-Err-clause-found
returns-in-Err-clause-found g c m tree lists n told ready is = c.in-Err.ensures.reads m tree lists (plain_of tree) told ready refl

pub returns-in-Ok-has_key-clause-found : goal.returns-in-Ok-has_key-clause-found
returns-in-Ok-has_key-clause-found g c m tree lists n told ready is =
    c.in-Ok-has_key.ensures
    ∙ listed_by (plain_of tree) c.args.id n is c.args.row.now c.in-Ok.found (ap is_built_in (sym c.as_slice-name.ensures) ∙ sym c.is_built_in.ensures ∙ c.if-is_built_in.false)
    (subst (λ (name : List ℕ). Reads (calls.AttrRead c.args.id name) (plain_of tree) c.in-Ok.found) c.as_slice-name.ensures (c.in-Ok.ensures.reads m tree lists (plain_of tree) told ready refl))
