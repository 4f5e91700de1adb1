use Rattle.bfs_file_io.proofs.pieces.rest_for.Goals as goal

pub returns-clause-open : goal.returns-clause-open
returns-clause-open g c = λ p o. c.rest.ensures.open p o

pub returns-clause-core : goal.returns-clause-core
returns-clause-core g c = λ t0 adopted core. c.rest.ensures.core t0 adopted core
