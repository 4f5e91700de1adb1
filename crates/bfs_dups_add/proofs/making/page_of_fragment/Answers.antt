use Rattle.std.proofs.Common.{◌+◌, inl, sym, ◌∙◌, arith}
use Rattle.bfs_values.specs.Values.{fragment_count, fragment_numbers, placed}
use Rattle.bfs_dups.proofs.Linked.{right-none, left-none}
use Rattle.bfs_dups.proofs.Ordered.{placed-ascends}
use Rattle.bfs_dups.proofs.Pages.{paged}
use Rattle.bfs_dups_add.proofs.making.page_of_fragment.Goals as goal

pub returns-clause-page : goal.returns-clause-page
returns-clause-page c =
    let old = c.args.old.now in
    let p = paged c.insert_number.new.page (fragment_count old c.args.index + 1) (placed c.args.number (fragment_numbers old c.args.index)) (omega arith) (omega (arith, c.requires.fragment.fits)) c.insert_number.ensures.count
    (c.insert_number.ensures.numbers ∙ sym c.requires.place) (placed-ascends c.args.number (fragment_numbers old c.args.index) c.requires.fragment.ascend c.requires.absent) in
    record { good = p.0; next = right-none c.insert_number.new.page (c.insert_number.ensures.others 8 (inl (omega arith)) ∙ c.put_number-2.ensures.here); numbers_are = p.1 }

pub returns-clause-left : goal.returns-clause-left
returns-clause-left c = left-none c.insert_number.new.page (c.insert_number.ensures.others 0 (inl (omega arith)) ∙ c.put_number-2.ensures.others 0 (inl (omega arith)) ∙ c.put_number.ensures.here)
