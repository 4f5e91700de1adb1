use Rattle.bfs_inode_walk.proofs.Claiming.{taken_own}
use Rattle.bfs_inode_walk.proofs.visit.claim_own.Goals as goal

pub returns-in-Err-clause-taken : goal.returns-in-Err-clause-taken
returns-in-Err-clause-taken c xs rest a =
    let t = c.in-Err.ensures.twice xs a in
    taken_own xs rest c.args.id c.in-Err.block t.0 t.1
