use Rattle.std.proofs.Common.{◌≡◌, ◌+◌, ◌*◌, ◌-◌, ◌++◌, ℕ, List, refl, ap, subst, sym, ◌∙◌, arith}
use Rattle.bfs_bytes.specs.Fields.{unsigned_at}
use Rattle.bfs_values.specs.Values.{fragment_count, fragment_numbers, numbers_from}
use Rattle.bfs_dups.proofs.Pages.{filled}
use Rattle.bfs_dups_remove.specs.Lessened.{without_number}
use Rattle.bfs_dups_remove.proofs.Without.{cut-without}
use Rattle.bfs_dups_remove.proofs.lessening.narrow_fragment.Goals as goal

pub returns-clause-good : goal.returns-clause-good
returns-clause-good c =
    let old = c.args.page.now in
    let new = c.remove_number.new.page in
    let same = c.copy_from_slice.ensures.after in
    let count : fragment_count new c.args.index + 1 ≡ fragment_count old c.args.index = c.remove_number.ensures.count ∙ ap (λ (p : List ℕ). fragment_count p c.args.index) same in
    let w = cut-without old (64 * c.args.index + 8) c.args.i (fragment_count old c.args.index) (unsigned_at 8 old (64 * c.args.index + 8 + 8 * c.args.i)) c.requires.place refl c.requires.fragment.ascend in
    let numbers : numbers_from new (64 * c.args.index + 8) (fragment_count old c.args.index - 1) ≡ without_number (unsigned_at 8 old (64 * c.args.index + 8 + 8 * c.args.i)) (fragment_numbers old c.args.index) =
    subst (λ (p : List ℕ). numbers_from new (64 * c.args.index + 8) (fragment_count p c.args.index - 1) ≡ numbers_from p (64 * c.args.index + 8) c.args.i ++ numbers_from p (64 * c.args.index + 8 + 8 * (c.args.i + 1)) (fragment_count p c.args.index - (c.args.i + 1))) same c.remove_number.ensures.numbers ∙ sym w.0 in
    (filled new c.args.index (fragment_count old c.args.index - 1) (without_number (unsigned_at 8 old (64 * c.args.index + 8 + 8 * c.args.i)) (fragment_numbers old c.args.index)) c.requires.fragment.inside (omega (arith, c.requires.some)) (omega (arith, c.requires.fragment.fits)) (omega (arith, count, c.requires.some)) numbers w.1).0

pub returns-clause-numbers : goal.returns-clause-numbers
returns-clause-numbers c =
    let old = c.args.page.now in
    let new = c.remove_number.new.page in
    let same = c.copy_from_slice.ensures.after in
    let count : fragment_count new c.args.index + 1 ≡ fragment_count old c.args.index = c.remove_number.ensures.count ∙ ap (λ (p : List ℕ). fragment_count p c.args.index) same in
    let w = cut-without old (64 * c.args.index + 8) c.args.i (fragment_count old c.args.index) (unsigned_at 8 old (64 * c.args.index + 8 + 8 * c.args.i)) c.requires.place refl c.requires.fragment.ascend in
    let numbers : numbers_from new (64 * c.args.index + 8) (fragment_count old c.args.index - 1) ≡ without_number (unsigned_at 8 old (64 * c.args.index + 8 + 8 * c.args.i)) (fragment_numbers old c.args.index) =
    subst (λ (p : List ℕ). numbers_from new (64 * c.args.index + 8) (fragment_count p c.args.index - 1) ≡ numbers_from p (64 * c.args.index + 8) c.args.i ++ numbers_from p (64 * c.args.index + 8 + 8 * (c.args.i + 1)) (fragment_count p c.args.index - (c.args.i + 1))) same c.remove_number.ensures.numbers ∙ sym w.0 in
    (filled new c.args.index (fragment_count old c.args.index - 1) (without_number (unsigned_at 8 old (64 * c.args.index + 8 + 8 * c.args.i)) (fragment_numbers old c.args.index)) c.requires.fragment.inside (omega (arith, c.requires.some)) (omega (arith, c.requires.fragment.fits)) (omega (arith, count, c.requires.some)) numbers w.1).1
