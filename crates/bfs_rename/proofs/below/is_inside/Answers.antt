use Rattle.std.proofs.Common.{◌∙◌, sym, ap}
use Rattle.bfs_tree.specs.Trees.{is_dir}
use Rattle.bfs_rename.proofs.Passing.{inside_by}
use Rattle.bfs_rename.proofs.below.is_inside.Goals as goal

pub returns-in-Ok-clause-inside : goal.returns-in-Ok-clause-inside
returns-in-Ok-clause-inside g c v m tree lists n d told ready kind is =
    inside_by tree c.args.child.id c.args.dir n c.in-Ok.leads (ap is_dir (sym kind) ∙ sym c.is_dir.ensures ∙ c.if-not-is_dir.false)
    (c.in-Ok.ensures.leads v m tree lists d told ready is)

pub returns-in-Err-clause-inside : goal.returns-in-Err-clause-inside
returns-in-Err-clause-inside g c v m tree lists n d told ready kind is = c.in-Err.ensures.leads v m tree lists d told ready is
