use Rattle.std.proofs.Common.{inl, arith}
use Rattle.bfs_dups.proofs.Linked.{same-links}
use Rattle.bfs_dups_remove.proofs.chains.take_numbers.Goals as goal

pub returns-clause-links : goal.returns-clause-links
returns-clause-links c = same-links c.args.page.now c.copy_numbers.new.page (c.copy_numbers.ensures.others 0 (inl (omega arith))) (c.copy_numbers.ensures.others 8 (inl (omega arith)))
