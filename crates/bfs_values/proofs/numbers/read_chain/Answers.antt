use Rattle.std.proofs.Common.{◌++◌, List, ℕ, ap, ◌∙◌}
use Rattle.std.proofs.lemmas.List.Sorted.{IsNonDecreasingBy-from_sort}
use Rattle.bfs_values.specs.Values.{chain_of, numbers_of_pages, in_order}
use Rattle.bfs_values.proofs.Orders.{sorted-is}
use Rattle.bfs_values.proofs.numbers.read_chain.Goals as goal

pub returns-in-Ok-sort-clause-found : goal.returns-in-Ok-sort-clause-found
returns-in-Ok-sort-clause-found g c b e ends good =
    sorted-is c.add_chain.new.numbers.items c.sort.new.self.items c.in-Ok-sort.ensures.permutation (IsNonDecreasingBy-from_sort (λ (x : ℕ). x) c.sort.new.self.items c.in-Ok-sort.ensures.sorted)
    ∙ ap in_order (c.in-Ok.ensures.numbers b e ends good ∙ ap (λ (z : List ℕ). z ++ numbers_of_pages b (chain_of b c.args.first)) c.new-items.ensures.items)
