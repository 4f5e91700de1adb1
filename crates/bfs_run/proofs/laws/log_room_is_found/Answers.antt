use Rattle.bfs_run.proofs.NewLogs as logs
use Rattle.bfs_run.proofs.Rooms as rooms
use Rattle.bfs_run.proofs.laws.log_room_is_found.Goals as goal

pub returns-clause-room : goal.returns-clause-room
returns-clause-room c = rooms.log_room_is_found

pub returns-clause-long : goal.returns-clause-long
returns-clause-long c = logs.new_log_is_long
