use Rattle.std.proofs.Common.{◌∙◌, ap}
use Rattle.bfs_tree.specs.Trees.{is_dir}
use Rattle.bfs_look.proofs.way.is_dir_at.Goals as goal

pub returns-in-Ok-clause-kind : goal.returns-in-Ok-clause-kind
returns-in-Ok-clause-kind g c v m tree lists n told ready is = c.is_dir.ensures ∙ ap is_dir (c.in-Ok.ensures.kind v m tree lists n told ready is)
