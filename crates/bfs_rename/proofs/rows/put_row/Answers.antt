use Rattle.std.proofs.Common.{[], sym, subst}
use Rattle.bfs_stream.specs.Sizes.{sizes_of}
use Rattle.bfs_calls.specs.Done.{IsUnanswered}
use Rattle.bfs_calls.proofs.Faulting.{put_unanswered}
use Rattle.bfs_rename.proofs.rows.put_row.Goals as goal

pub returns-in-Err-clause-unanswered : goal.returns-in-Err-clause-unanswered
returns-in-Err-clause-unanswered g c m tree lists d told work there isdir numbers none =
    subst IsUnanswered (sym c.not_put.ensures)
    (put_unanswered (record { id = c.args.dir; sizes = sizes_of c.args.sup.now }) c.args.bitmap.now m (lists.rows c.args.dir) c.args.name.now c.args.dir c.in-Err.fault none
    (c.in-Err.ensures.refused m tree lists [] d told work there isdir numbers))

pub returns-in-Ok-clause-put : goal.returns-in-Ok-clause-put
returns-in-Ok-clause-put g c m tree lists d told work there isdir numbers = c.in-Ok.ensures.put m tree lists [] d told work there isdir numbers
