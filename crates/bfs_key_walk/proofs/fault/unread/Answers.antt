use Rattle.bfs_key_walk.proofs.fault.unread.Goals as goal

pub returns-in_default-clause-cause : goal.returns-in_default-clause-cause
returns-in_default-clause-cause c old new h = c.changed_since.ensures.cause old new
