use Rattle.std.proofs.Common.{◌∙◌, refl, sym, ap}
use Rattle.bfs_tree.specs.Trees.{is_dir}
use Rattle.bfs_remove_node.proofs.Refusing.{listed_full}
use Rattle.bfs_remove_node.proofs.Sought.{plain_of}
use Rattle.bfs_remove_node.proofs.full.is_full.Goals as goal

pub returns-in-Ok-clause-found : goal.returns-in-Ok-clause-found
returns-in-Ok-clause-found g c m tree lists n told ready is kind =
    let isdir = ap is_dir (sym kind) ∙ sym c.is_dir.ensures ∙ c.if-not-is_dir.false in
    c.has_names.ensures ∙ listed_full (plain_of tree) c.args.child.id n c.in-Ok.listed is isdir (c.in-Ok.ensures.reads m tree lists (plain_of tree) told ready refl)

pub returns-in-Err-clause-found : goal.returns-in-Err-clause-found
returns-in-Err-clause-found g c m tree lists n told ready is kind = c.in-Err.ensures.reads m tree lists (plain_of tree) told ready refl
