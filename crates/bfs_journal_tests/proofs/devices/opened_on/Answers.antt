use Rattle.bfs_journal_tests.proofs.devices.opened_on.Goals as goal

-- What was parsed is valid.
pub adopt-requires-clause-valid : goal.adopt-requires-clause-valid
adopt-requires-clause-valid g c = c.in-Ok.ensures.found.1

pub returns-in-Ok-adopt-clause-valid : goal.returns-in-Ok-adopt-clause-valid
returns-in-Ok-adopt-clause-valid g c = c.in-Ok.ensures.found.1
