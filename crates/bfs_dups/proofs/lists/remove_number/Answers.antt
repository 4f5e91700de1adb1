use Rattle.std.proofs.Common.{◌≡◌, ◌<◌, ◌+◌, ◌*◌, ◌-◌, ◌++◌, ℕ, subst, sym}
use Rattle.bfs_values.specs.Values.{numbers_from}
use Rattle.bfs_dups.proofs.Moved.{removed}
use Rattle.bfs_dups.proofs.lists.remove_number.Goals as goal

pub returns-clause-numbers : goal.returns-clause-numbers
returns-clause-numbers c =
    subst (λ (n : ℕ). numbers_from c.copy_numbers-2.new.page (c.args.to + 8) (n - 1) ≡ numbers_from c.args.old.now (c.args.from + 8) c.args.i ++ numbers_from c.args.old.now (c.args.from + 8 + 8 * (c.args.i + 1)) (n - (c.args.i + 1)))
    c.number_at-count.ensures
    (removed c.args.old.now c.copy_numbers.new.page c.copy_numbers-2.new.page (c.args.from + 8) (c.args.to + 8) c.args.i c.number_at-count.result
    (subst (λ (n : ℕ). c.args.i < n) (sym c.number_at-count.ensures) c.requires.place) c.copy_numbers.ensures.numbers c.copy_numbers-2.ensures.others c.copy_numbers-2.ensures.numbers)
