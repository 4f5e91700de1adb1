use Rattle.std.proofs.Common.{rules, ◌-◌}
use Rattle.bfs_file_io.proofs.Counted.{blocks_sum}
use Rattle.bfs_file_io.proofs.open.count_blocks.Goals as goal

pub returns : goal.returns
returns c = blocks_sum c.args.size c.args.at c.args.done (c.args.length - c.args.done) c.requires.some (search rules)
