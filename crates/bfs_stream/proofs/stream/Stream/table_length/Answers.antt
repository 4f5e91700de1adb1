use Rattle.std.proofs.Common.{◌≤◌, ◌*◌, ℕ, arith}
use Rattle.bfs_stream.proofs.stream.Stream.table_length.Goals as goal

some_of : (a b : ℕ) → 1 ≤ a → 128 ≤ b → 1 ≤ a * b
some_of a b h g = grind (arith, h, g)

pub returns-clause-some : goal.returns-clause-some
returns-clause-some c = some_of c.array_length.result c.runs_per_block.result c.array_length.ensures.some c.runs_per_block.ensures.some
