use Rattle.std.proofs.Common.{◌++◌, ◌∷◌, [], ap, ◌∙◌, arith}
use Rattle.bfs_values.proofs.Stacked.{add-first}
use Rattle.bfs_values.specs.Values.{numbers_from}
use Rattle.bfs_values.proofs.packed.add_numbers.Goals as goal

pub loop-i-preserved : goal.loop-i-preserved
loop-i-preserved c =
    add-first c.args.page.now c.loop-i.numbers.items c.push.new.self.items (c.args.numbers.now.items ++ numbers_from c.args.page.now c.args.at c.args.count) c.args.at c.loop-i.i c.args.count (omega (arith, c.loop-i-test.true)) c.loop-i.invariant
    (c.in_ok-push.ensures.items ∙ ap (λ x. c.loop-i.numbers.items ++ (x ∷ [])) c.number_at.ensures)
