use Rattle.bfs_commit.proofs.settling.settle.Goals as goal

pub returns-clause-core : goal.returns-clause-core
returns-clause-core g c = λ t0 adopted core. c.rest.ensures.core t0 adopted (c.seal.ensures.core t0 adopted (c.make_place.ensures.core t0 adopted core))

pub returns-clause-open : goal.returns-clause-open
returns-clause-open g c = λ p o. c.rest.ensures.open p (c.seal.ensures.open p (c.make_place.ensures.open p o))
