use Rattle.std.proofs.Common.{sym, subst}
use Rattle.bfs_super.specs.Conditions.{natural}
use Rattle.bfs_owner.specs.Owned as owned
use Rattle.bfs_nodes_walk.proofs.clash.owner_among.Goals as goal

pub find_owner-requires-clause-inside : goal.find_owner-requires-clause-inside
find_owner-requires-clause-inside g c =
    let blocks = natural c.args.sup.now.num_blocks in
    subst (owned.AreInside blocks) (sym c.deref.ensures.value) (c.in-Ok.ensures.inside blocks c.requires.root c.requires.leads)
