use Rattle.std.proofs.Common.{sym, ◌∙◌}
use Rattle.bfs_known.proofs.Knowns.{known-at}
use Rattle.bfs_known.proofs.known.byte_at.Goals as goal

pub returns : goal.returns
returns c = c.copied.ensures ∙ c.get.ensures.value ∙ sym (known-at (c.args.id, c.args.place) c.args.known.now.entries)
