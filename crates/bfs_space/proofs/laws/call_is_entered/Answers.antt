use Rattle.bfs_replies.proofs.Called.{call_entered, call_set}
use Rattle.bfs_space.proofs.laws.call_is_entered.Goals as goal

pub returns : goal.returns
returns c = λ t0 sp m v now group e sound some given sized follows called. (
  call_entered t0 sp m sound some v now group e given sized follows called,
  call_set t0 sp m sound some v now group e given sized follows called,
)
