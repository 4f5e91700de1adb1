use Rattle.bfs_attr.proofs.Changes.{puts}
use Rattle.bfs_attr.proofs.area.puts_attribute.Goals as goal

pub returns : goal.returns
returns c new items more other = puts new items more other
