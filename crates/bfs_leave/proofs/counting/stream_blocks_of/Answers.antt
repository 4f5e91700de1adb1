use Rattle.std.proofs.Common.{◌∙◌}
use Rattle.bfs_leave.proofs.Counted.{end_is_length}
use Rattle.bfs_leave.proofs.counting.stream_blocks_of.Goals as goal

pub returns-in-Ok-clause-counted : goal.returns-in-Ok-clause-counted
returns-in-Ok-clause-counted g c m told there stands =
    c.stream_end.ensures ∙ end_is_length c.args.site.sup m c.args.inode c.deref.result.now c.requires.valid stands (c.deref.ensures.value ∙ c.in-Ok.ensures.read m told there)
