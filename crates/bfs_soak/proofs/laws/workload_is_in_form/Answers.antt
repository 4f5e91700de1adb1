use Rattle.bfs_soak.proofs.Formed.{workload_form}
use Rattle.bfs_soak.proofs.laws.workload_is_in_form.Goals as goal

pub returns : goal.returns
returns c = workload_form
