use Rattle.std.proofs.Common.{sym, ◌∙◌}
use Rattle.bfs_text.proofs.Skipping.{short_node, long_node}
use Rattle.bfs_text.proofs.checks.is_node.Goals as goal

pub returns-then-word-lt2 : goal.returns-then-word-lt2
returns-then-word-lt2 c = sym (short_node c.args.word.now c.if-word-lt2.true)

pub returns : goal.returns
returns c = c.is_path.ensures ∙ sym (long_node c.args.word.now c.if-word-lt2.false)
