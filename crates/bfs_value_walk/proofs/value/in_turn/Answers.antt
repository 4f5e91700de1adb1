use Rattle.std.proofs.Common.{◌∙◌, ℕ, sym, ap}
use Rattle.std.proofs.lemmas.List.Sorted.{IsNonDecreasingBy-from_sort}
use Rattle.bfs_values.specs.Values.{is_ascending}
use Rattle.bfs_value_walk.proofs.Sorting.{sorted-is}
use Rattle.bfs_value_walk.proofs.Turns.{sorted_once, sorted_twice}
use Rattle.bfs_value_walk.proofs.value.in_turn.Goals as goal

pub returns-then-rises : goal.returns-then-rises
returns-then-rises c =
    let up = IsNonDecreasingBy-from_sort (λ (x : ℕ). x) c.sort.new.self.items c.in-Ok.ensures.sorted in
    let asc = ap is_ascending (sym c.deref.ensures.value) ∙ sym c.rises.ensures ∙ c.if-rises.true in (
      sorted_once c.args.numbers.items c.sort.new.self.items c.in-Ok.ensures.permutation asc,
      c.new.ensures ∙ sorted-is c.args.numbers.items c.sort.new.self.items c.in-Ok.ensures.permutation up,
    )

pub returns-else-rises : goal.returns-else-rises
returns-else-rises c =
    let up = IsNonDecreasingBy-from_sort (λ (x : ℕ). x) c.sort.new.self.items c.in-Ok.ensures.sorted in
    let asc = ap is_ascending (sym c.deref.ensures.value) ∙ sym c.rises.ensures ∙ c.if-rises.false in
    sorted_twice c.args.numbers.items c.sort.new.self.items c.in-Ok.ensures.permutation up asc
