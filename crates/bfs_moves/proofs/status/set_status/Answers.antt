use Rattle.bfs_shift.proofs.AtWork.{inode_told}
use Rattle.bfs_moves.proofs.Statused.{status_step}
use Rattle.bfs_moves.proofs.status.set_status.Goals as goal

pub returns-in-Ok-write_status-clause-restated : goal.returns-in-Ok-write_status-clause-restated
returns-in-Ok-write_status-clause-restated g c v m tree lists loose n told work is =
    status_step c.args.sup.now v m tree lists loose c.args.id n c.args.status (g.E.Blocks.told c.write_status.new.edits) (g.E.Blocks.changed c.args.edits.now) (g.E.Blocks.changed c.write_status.new.edits) c.requires.valid work is
    (c.in-Ok-write_status.ensures.written m told (inode_told c.args.sup.now v m tree lists loose c.args.id n work is)) c.write_status.ensures.changed c.write_status.ensures.stays
