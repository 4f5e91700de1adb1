use Rattle.std.proofs.Common.{ℕ, List, subst}
use Rattle.bfs_node.specs.Faults.{IsPageRefusal}
use Rattle.bfs_pages.proofs.Good.{true-page}
use Rattle.bfs_finding.specs.TreeFaults.{of_body}
use Rattle.bfs_walk.proofs.Looks.{in_tree}
use Rattle.bfs_walk.proofs.page.check_page.Goals as goal

pub returns-in-Err-clause-wrong : goal.returns-in-Err-clause-wrong
returns-in-Err-clause-wrong c b is child there =
    of_body (in_tree c.args.kind b c.args.leaf c.args.at there) child
    (c.part_of.ensures c.args.kind b c.args.at (subst (λ (p : List ℕ). IsPageRefusal c.args.kind p c.in-Err.fault) is c.in-Err.ensures.refused))

pub returns-clause-good : goal.returns-clause-good
returns-clause-good c = true-page c.args.kind c.args.page.now c.in-Ok.ensures.ok
