use Rattle.std.proofs.Common.{inl, inr, ◌+◌, ap, ◌∙◌, arith}
use Rattle.bfs_values.specs.Values.{page_count, numbers_from}
use Rattle.bfs_dups.proofs.Linked.{right-some, left-same}
use Rattle.bfs_dups.proofs.Moved.{kept-numbers}
use Rattle.bfs_dups_add.proofs.making.set_next.Goals as goal

pub returns-clause-next : goal.returns-clause-next
returns-clause-next c = right-some c.put_number.new.page c.args.next c.put_number.ensures.here c.requires.some c.requires.next

pub returns-clause-numbers : goal.returns-clause-numbers
returns-clause-numbers c =
    ap (numbers_from c.put_number.new.page 24) (c.put_number.ensures.others 16 (inr (omega arith))) ∙ kept-numbers c.args.page.now c.put_number.new.page 8 (8 + 8) 24 (page_count c.args.page.now) c.put_number.ensures.others (inr (omega arith))

pub returns-clause-left : goal.returns-clause-left
returns-clause-left c = left-same c.args.page.now c.put_number.new.page (c.put_number.ensures.others 0 (inl (omega arith)))
