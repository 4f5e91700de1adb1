use Rattle.std.proofs.Common.{◌∙◌, inr}
use Rattle.bfs_index_walk.proofs.index.read_tree.Goals as goal

pub returns-in-Err-read_rows-clause-wrong : goal.returns-in-Err-read_rows-clause-wrong
returns-in-Err-read_rows-clause-wrong g c m told listed = c.in-Err-read_rows.ensures.wrong m (c.in-Ok.ensures.told ∙ told) (inr (listed, c.in-Ok.ensures.kind, c.in-Ok.ensures.code m told))
