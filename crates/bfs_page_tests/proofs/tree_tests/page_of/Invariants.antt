use Rattle.bfs_node.specs.Page.{HasLayout}
use Rattle.bfs_page_tests.proofs.tree_tests.page_of.Given as goal

abbrev pub invariant-loop-key : goal.invariant-loop-key
invariant-loop-key l = HasLayout l.page
