use Rattle.std.proofs.Common.{rules, ◌≡◌, subst, w64, to_z, of_z}
use Rattle.bfs_sound.specs.Inodes.{content}
use Rattle.bfs_tree_check.specs.Amiss.{IsAmissIn}
use Rattle.bfs_node_walk.proofs.Amissed.{page_broken, link_broken, order_broken}
use Rattle.bfs_node_walk.proofs.fault.finding_of.Goals as goal

pub returns-in-Link : goal.returns-in-Link
returns-in-Link c v kind has stream h =
    let found : to_z w64 (of_z w64 c.in-Link.found) ≡ c.in-Link.found = search rules in
    let wanted : to_z w64 (of_z w64 c.in-Link.wanted) ≡ c.in-Link.wanted = search rules in
    link_broken v c.args.owner kind has stream c.in-Link.page c.in-Link.found c.in-Link.wanted (to_z w64 (of_z w64 c.in-Link.found)) (to_z w64 (of_z w64 c.in-Link.wanted)) found wanted (subst (IsAmissIn kind (content v c.args.owner)) c.in-Link.is h)

pub returns-in-Page : goal.returns-in-Page
returns-in-Page c v kind has stream h =
    page_broken v c.args.owner kind has stream c.in-Page.page c.in-Page.part (subst (IsAmissIn kind (content v c.args.owner)) c.in-Page.is h)

pub returns-in-Order : goal.returns-in-Order
returns-in-Order c v kind has stream h =
    order_broken v c.args.owner kind has stream c.in-Order.page c.in-Order.index (subst (IsAmissIn kind (content v c.args.owner)) c.in-Order.is h)
