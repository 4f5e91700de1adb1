use Rattle.std.proofs.Common.{◌∙◌}
use Rattle.bfs_indices_check.proofs.index.rows_of.Goals as goal

pub returns-clause-wrong : goal.returns-clause-wrong
returns-clause-wrong g c m told has = c.in-Err-read_values.ensures.wrong m (c.in-Ok.ensures.told ∙ told) has
