use Rattle.std.proofs.Common.{◌≡◌, ℕ, Some, sym, subst}
use Rattle.bfs_tree.specs.Trees.{child}
use Rattle.bfs_remove_node.proofs.child.child_id.Goals as goal

pub returns-in-Ok-clause-found : goal.returns-in-Ok-clause-found
returns-in-Ok-clause-found g c m tree lists told ready may =
    let of = c.in-Ok.ensures.found m tree lists may.d (may.id, may.node) told ready may.there may.dir_kind may.child_is in
    (may.node, subst (λ (k : ℕ). child tree c.args.dir c.args.name.now ≡ Some (k, may.node)) (sym of.id) may.child_is)

pub returns-in-Err-clause-undone : goal.returns-in-Err-clause-undone
returns-in-Err-clause-undone g c m tree lists told ready may = c.in-Err.ensures.found m tree lists may.d (may.id, may.node) told ready may.there may.dir_kind may.child_is
