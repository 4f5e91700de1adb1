use Rattle.bfs_volume.proofs.event.seal_open.Goals as goal

pub returns-clause-open : goal.returns-clause-open
returns-clause-open g c = λ p o. c.seal.ensures.open p (c.make_room.ensures.open p c.args.space.now.view o)

pub returns-clause-core : goal.returns-clause-core
returns-clause-core g c = λ t0 adopted core. c.seal.ensures.core t0 adopted (c.make_room.ensures.core t0 adopted c.args.space.now.view core)
