use Rattle.std.proofs.Common.{◌≡◌, ◌+◌, length, map as each}
use Rattle.bfs_plain.proofs.Free.{first_free}
use Rattle.bfs_plain.proofs.nodes.free_id.Given as goal

abbrev pub invariant-loop-id : goal.invariant-loop-id
invariant-loop-id l = (first_free 0 (each (λ e. e.0) l.nodes.entries) ≡ first_free l.free (each (λ e. e.0) l.id-iterator)) × (l.free + length l.id-iterator ≡ length l.nodes.entries)
