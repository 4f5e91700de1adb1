use Rattle.bfs_shift.proofs.Rewritten.{node_restated}
use Rattle.bfs_shift.proofs.streams.node_is_restated.Goals as goal

pub returns : goal.returns
returns c = (λ v new d n now kept bytes others same status content has. node_restated v new d kept bytes others n now same status content has)
