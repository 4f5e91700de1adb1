use Rattle.std.proofs.Common.{sym, ◌∙◌}
use Rattle.bfs_plain.proofs.Maps.{index-seen}
use Rattle.bfs_plain.proofs.node.index_at.Goals as goal

pub returns : goal.returns
returns c = c.copied.ensures ∙ c.get.ensures.value ∙ sym (index-seen c.args.name.now c.args.indices.now.entries)
