use Rattle.std.proofs.Common.{◌++◌, ◌∙◌, ℕ, List, ap}
use Rattle.bfs_tree_check.proofs.order.go_on.Goals as goal

pub returns-clause-last : goal.returns-clause-last
returns-clause-last c = λ e. c.in_ok-extend_from_slice.ensures.items ∙ ap (λ (l : List ℕ). l ++ c.args.key.now) c.clear.ensures.items
