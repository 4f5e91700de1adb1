use Rattle.std.proofs.Common.{[], sym, subst}
use Rattle.bfs_maps.specs.Refused.{IsUndone}
use Rattle.bfs_remove_node.proofs.Faulty.{take_undone}
use Rattle.bfs_rename.proofs.rows.take_row.Goals as goal

pub returns-in-Err-clause-undone : goal.returns-in-Err-clause-undone
returns-in-Err-clause-undone g c m tree lists d value told work there isdir numbers row =
    subst IsUndone (sym c.not_taken.ensures)
    (take_undone (lists.rows c.args.dir) c.args.name.now value c.args.dir c.in-Err.fault row (c.in-Err.ensures.refused m tree lists [] d told work there isdir numbers))

pub returns-in-Ok-clause-taken : goal.returns-in-Ok-clause-taken
returns-in-Ok-clause-taken g c m tree lists d told work there isdir numbers = c.in-Ok.ensures.taken m tree lists [] d told work there isdir numbers
