use Rattle.std.proofs.Common.{inr, ◌+◌, ap, ◌∙◌, arith}
use Rattle.bfs_values.specs.Values.{page_count, numbers_from}
use Rattle.bfs_dups.proofs.Linked.{left-some}
use Rattle.bfs_dups.proofs.Moved.{kept-numbers}
use Rattle.bfs_dups_remove.proofs.Righted.{right-same}
use Rattle.bfs_dups_remove.proofs.chains.set_left.Goals as goal

pub returns-clause-next : goal.returns-clause-next
returns-clause-next c = right-same c.args.page.now c.put_number.new.page (c.put_number.ensures.others 8 (inr (omega arith)))

pub returns-clause-numbers : goal.returns-clause-numbers
returns-clause-numbers c =
    ap (numbers_from c.put_number.new.page 24) (c.put_number.ensures.others 16 (inr (omega arith))) ∙ kept-numbers c.args.page.now c.put_number.new.page 0 (0 + 8) 24 (page_count c.args.page.now) c.put_number.ensures.others (inr (omega arith))

pub returns-clause-left : goal.returns-clause-left
returns-clause-left c some small = left-some c.put_number.new.page c.args.left c.put_number.ensures.here some small
