use Rattle.std.proofs.Common.{◌∙◌, ap, ℕ, List}
use Rattle.std.specs.List.{swap}
use Rattle.bfs_txn.proofs.Settles.{swapped_first}
use Rattle.bfs_txn.proofs.changed.Changed.exchange.Goals as goal

pub returns-clause-first : goal.returns-clause-first
returns-clause-first c =
    swapped_first c.args.self.now c.swap.new.self.items c.args.at c.args.own c.args.i c.requires.at c.requires.own c.requires.inside (c.swap.ensures.items ∙ ap (λ (l : List (ℕ × List ℕ)). swap l c.args.at c.args.i) c.self.view_is)
