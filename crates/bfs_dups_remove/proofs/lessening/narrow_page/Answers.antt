use Rattle.std.proofs.Common.{◌≡◌, ◌+◌, ◌*◌, ◌-◌, ◌++◌, ℕ, List, inl, refl, ap, subst, sym, ◌∙◌, arith}
use Rattle.bfs_bytes.specs.Fields.{unsigned_at}
use Rattle.bfs_values.specs.Values.{page_count, page_numbers, numbers_from}
use Rattle.bfs_dups.proofs.Linked.{same-links}
use Rattle.bfs_dups.proofs.Pages.{paged}
use Rattle.bfs_dups_remove.specs.Lessened.{without_number}
use Rattle.bfs_dups_remove.proofs.Without.{cut-without}
use Rattle.bfs_dups_remove.proofs.lessening.narrow_page.Goals as goal

pub returns-clause-good : goal.returns-clause-good
returns-clause-good c =
    let old = c.args.page.now in
    let new = c.remove_number.new.page in
    let same = c.copy_from_slice.ensures.after in
    let count : page_count new + 1 ≡ page_count old = c.remove_number.ensures.count ∙ ap page_count same in
    let w = cut-without old 24 c.args.i (page_count old) (unsigned_at 8 old (24 + 8 * c.args.i)) c.requires.place refl c.requires.good.ascend in
    let numbers : numbers_from new 24 (page_count old - 1) ≡ without_number (unsigned_at 8 old (24 + 8 * c.args.i)) (page_numbers old) =
    subst (λ (p : List ℕ). numbers_from new 24 (page_count p - 1) ≡ numbers_from p 24 c.args.i ++ numbers_from p (24 + 8 * (c.args.i + 1)) (page_count p - (c.args.i + 1))) same c.remove_number.ensures.numbers ∙ sym w.0 in
    (paged new (page_count old - 1) (without_number (unsigned_at 8 old (24 + 8 * c.args.i)) (page_numbers old)) (omega (arith, c.requires.some)) (omega (arith, c.requires.good.fits)) (omega (arith, count, c.requires.some)) numbers w.1).0

pub returns-clause-numbers : goal.returns-clause-numbers
returns-clause-numbers c =
    let old = c.args.page.now in
    let new = c.remove_number.new.page in
    let same = c.copy_from_slice.ensures.after in
    let count : page_count new + 1 ≡ page_count old = c.remove_number.ensures.count ∙ ap page_count same in
    let w = cut-without old 24 c.args.i (page_count old) (unsigned_at 8 old (24 + 8 * c.args.i)) c.requires.place refl c.requires.good.ascend in
    let numbers : numbers_from new 24 (page_count old - 1) ≡ without_number (unsigned_at 8 old (24 + 8 * c.args.i)) (page_numbers old) =
    subst (λ (p : List ℕ). numbers_from new 24 (page_count p - 1) ≡ numbers_from p 24 c.args.i ++ numbers_from p (24 + 8 * (c.args.i + 1)) (page_count p - (c.args.i + 1))) same c.remove_number.ensures.numbers ∙ sym w.0 in
    (paged new (page_count old - 1) (without_number (unsigned_at 8 old (24 + 8 * c.args.i)) (page_numbers old)) (omega (arith, c.requires.some)) (omega (arith, c.requires.good.fits)) (omega (arith, count, c.requires.some)) numbers w.1).1

pub returns-clause-links : goal.returns-clause-links
returns-clause-links c = same-links c.args.page.now c.remove_number.new.page (c.remove_number.ensures.others 0 (inl (omega arith))) (c.remove_number.ensures.others 8 (inl (omega arith)))
