use Rattle.bfs_replies.proofs.Called.{face_is_ready}
use Rattle.bfs_space.proofs.laws.face_is_ready.Goals as goal

pub returns : goal.returns
returns c = λ t0 sp m v sound told of some fits used given. face_is_ready t0 sp m sound some v told of fits used given
