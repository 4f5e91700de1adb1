use Rattle.bfs_attr.proofs.Changes.{takes}
use Rattle.bfs_attr.proofs.area.takes_attribute.Goals as goal

pub returns : goal.returns
returns c name items more distinct has none = takes name items more distinct has none
