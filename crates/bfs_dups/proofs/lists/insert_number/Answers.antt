use Rattle.std.proofs.Common.{◌≡◌, ◌≤◌, ◌+◌, ◌*◌, ◌-◌, ◌++◌, ◌∷◌, ℕ, subst, sym}
use Rattle.bfs_values.specs.Values.{numbers_from}
use Rattle.bfs_dups.proofs.Moved.{inserted}
use Rattle.bfs_dups.proofs.lists.insert_number.Goals as goal

pub returns-clause-numbers : goal.returns-clause-numbers
returns-clause-numbers c =
    subst (λ (n : ℕ). numbers_from c.copy_numbers-2.new.page (c.args.to + 8) (n + 1) ≡ numbers_from c.args.old.now (c.args.from + 8) c.args.place.0 ++ (c.args.place.1 ∷ numbers_from c.args.old.now (c.args.from + 8 + 8 * c.args.place.0) (n - c.args.place.0)))
    c.number_at-count.ensures
    (inserted c.args.old.now c.copy_numbers.new.page c.put_number-2.new.page c.copy_numbers-2.new.page (c.args.from + 8) (c.args.to + 8) c.args.place.0 c.number_at-count.result c.args.place.1
    (subst (λ (n : ℕ). c.args.place.0 ≤ n) (sym c.number_at-count.ensures) c.requires.place) c.copy_numbers.ensures.numbers c.put_number-2.ensures.others c.put_number-2.ensures.here c.copy_numbers-2.ensures.others c.copy_numbers-2.ensures.numbers)
