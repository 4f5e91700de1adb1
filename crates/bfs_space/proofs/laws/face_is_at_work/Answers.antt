use Rattle.bfs_replies.proofs.Called.{face_at_work}
use Rattle.bfs_space.proofs.laws.face_is_at_work.Goals as goal

pub returns : goal.returns
returns c = λ t0 sp m v sound told of some fits used. face_at_work t0 sp m sound some v told of fits used
