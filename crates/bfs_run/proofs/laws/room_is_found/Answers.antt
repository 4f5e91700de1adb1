use Rattle.bfs_run.proofs.Rooms as rooms
use Rattle.bfs_run.proofs.laws.room_is_found.Goals as goal

pub returns-clause-room : goal.returns-clause-room
returns-clause-room c = rooms.room_is_found

pub returns-clause-taking : goal.returns-clause-taking
returns-clause-taking c = rooms.taking_wants_no_space
