use Rattle.bfs_super.specs.Conditions.{natural}
use Rattle.bfs_shift.proofs.Pairs.{index_changed, index_written}
use Rattle.bfs_shift.proofs.streams.index_changes.Goals as goal

pub returns : goal.returns
returns c = (λ v tree lists loose new name value pairs stocked row shifts kept bytes stream whole written. index_changed v tree lists loose new name value pairs stocked row shifts (index_written v new (natural value) (lists.kinds name) (lists.pairs name) pairs kept bytes stream whole written (stocked.indices name value row)))
