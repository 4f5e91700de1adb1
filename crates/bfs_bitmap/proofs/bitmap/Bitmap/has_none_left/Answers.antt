use Rattle.std.proofs.Common.{◌≡◌, filter, not, subst, arith}
use Rattle.bfs_bitmap.specs.Givens.{is_left}
use Rattle.bfs_bitmap.specs.Runs.{Room}
use Rattle.bfs_bitmap.specs.Tallies.{lowered_by}
use Rattle.bfs_bitmap.proofs.Left.{left_same, left_lowered}
use Rattle.bfs_bitmap.proofs.bitmap.Bitmap.has_none_left.Goals as goal

pub returns-clause-same : goal.returns-clause-same
returns-clause-same c is =
    subst (λ (v : Room). filter (λ g. not (is_left c.args.group g)) v.given ≡ v.given) c.self.view_is
    (left_same c.self.inside.left c.self.inside.last c.args.group c.self.inside.given.items c.self.invariant.2 (omega (arith, c.if-group-self.false)))

pub returns-clause-lowered : goal.returns-clause-lowered
returns-clause-lowered c is t =
    subst (λ (v : Room). lowered_by c.args.group v.given t ≡ t) c.self.view_is
    (left_lowered c.self.inside.left c.self.inside.last c.args.group c.self.inside.given.items t c.self.invariant.2 (omega (arith, c.if-group-self.false)))
