use Rattle.std.proofs.Common.{◌≡◌, ◌+◌, ◌*◌, ◌-◌, ◌++◌, ◌∷◌, ℕ, List, inl, ap, subst, sym, ◌∙◌, arith}
use Rattle.bfs_values.specs.Values.{page_count, page_numbers, numbers_from, placed}
use Rattle.bfs_dups.proofs.Linked.{same-links}
use Rattle.bfs_dups.proofs.Ordered.{placed-ascends}
use Rattle.bfs_dups.proofs.Pages.{paged}
use Rattle.bfs_dups.proofs.making.widen_page.Goals as goal

pub returns-clause-good : goal.returns-clause-good
returns-clause-good c =
    let old = c.args.page.now in
    let same = c.copy_from_slice.ensures.after in
    (paged c.insert_number.new.page (page_count old + 1) (placed c.args.number (page_numbers old)) (omega arith) (omega (arith, c.requires.room))
    (c.insert_number.ensures.count ∙ ap (λ (p : List ℕ). page_count p + 1) same)
    (subst (λ (p : List ℕ). numbers_from c.insert_number.new.page 24 (page_count p + 1) ≡ numbers_from p 24 c.args.i ++ (c.args.number ∷ numbers_from p (24 + 8 * c.args.i) (page_count p - c.args.i))) same c.insert_number.ensures.numbers ∙ sym c.requires.place)
    (placed-ascends c.args.number (page_numbers old) c.requires.good.ascend c.requires.absent)).0

pub returns-clause-links : goal.returns-clause-links
returns-clause-links c = same-links c.args.page.now c.insert_number.new.page (c.insert_number.ensures.others 0 (inl (omega arith))) (c.insert_number.ensures.others 8 (inl (omega arith)))
