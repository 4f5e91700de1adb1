use Rattle.std.proofs.Common.{sym, subst}
use Rattle.bfs_super.specs.Conditions.{natural}
use Rattle.bfs_owner.specs.Owned.{AreInside}
use Rattle.bfs_index_walk.proofs.clash.owner_among.Goals as goal

pub find_owner-requires-clause-inside : goal.find_owner-requires-clause-inside
find_owner-requires-clause-inside g c = subst (AreInside (natural c.args.sup.now.num_blocks)) (sym c.deref.ensures.value) (c.in-Ok.ensures.inside (natural c.args.sup.now.num_blocks) c.requires.directory c.requires.rows)
