use Rattle.std.proofs.Common.{◌∙◌, List, [], Option, sym, ap}
use Rattle.std.specs.Prelude.{unwrap_or}
use Rattle.std.specs.FinMap.{from_entries}
use Rattle.bfs_smalldata.specs.Items.{Item}
use Rattle.bfs_attr.specs.Bearers.{entries_with}
use Rattle.bfs_attr.proofs.laws.nodes_bear_attributes.Goals as goal

pub returns : goal.returns
returns c v id n node inside = (
  record { items = node.items; area = node.area; distinct = node.distinct; directory = node.directory; apart = node.apart; inside = inside },
  node.attributes ∙ ap (λ (o : Option (List Item)). from_entries (entries_with v id (unwrap_or o []))) (sym node.area),
)
