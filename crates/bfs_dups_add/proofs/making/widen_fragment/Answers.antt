use Rattle.std.proofs.Common.{◌≡◌, ◌+◌, ◌*◌, ◌-◌, ◌++◌, ◌∷◌, ℕ, List, ap, subst, sym, ◌∙◌, arith}
use Rattle.bfs_values.specs.Values.{fragment_count, fragment_numbers, numbers_from, placed}
use Rattle.bfs_dups.proofs.Ordered.{placed-ascends}
use Rattle.bfs_dups.proofs.Pages.{filled}
use Rattle.bfs_dups_add.proofs.making.widen_fragment.Goals as goal

pub returns-clause-good : goal.returns-clause-good
returns-clause-good c =
    let old = c.args.page.now in
    let same = c.copy_from_slice.ensures.after in
    (filled c.insert_number.new.page c.args.index (fragment_count old c.args.index + 1) (placed c.args.number (fragment_numbers old c.args.index)) c.requires.fragment.inside (omega arith) (omega (arith, c.requires.room))
    (c.insert_number.ensures.count ∙ ap (λ (p : List ℕ). fragment_count p c.args.index + 1) same)
    (subst (λ (p : List ℕ). numbers_from c.insert_number.new.page (64 * c.args.index + 8) (fragment_count p c.args.index + 1) ≡ numbers_from p (64 * c.args.index + 8) c.args.i ++ (c.args.number ∷ numbers_from p (64 * c.args.index + 8 + 8 * c.args.i) (fragment_count p c.args.index - c.args.i))) same c.insert_number.ensures.numbers ∙ sym c.requires.place)
    (placed-ascends c.args.number (fragment_numbers old c.args.index) c.requires.fragment.ascend c.requires.absent)).0
