use Rattle.bfs_node.specs.Page.{HasLayout}
use Rattle.bfs_number_tests.proofs.number_tests.make_tree.Given as goal

abbrev pub invariant-loop-i : goal.invariant-loop-i
invariant-loop-i l = HasLayout l.page
