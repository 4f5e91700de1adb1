use Rattle.std.proofs.Common.{rules, ◌≡◌, ℤ, subst, true, w64, to_z, of_z}
use Rattle.std.specs.Prelude.{IfOk}
use Rattle.bfs_super.specs.Geometry.{geometry_of}
use Rattle.bfs_replies.specs.Replies.{IsReplied}
use Rattle.bfs_space.proofs.pieces.hold_or_stopped.Goals as goal

pub returns-in-None-clause-replied : goal.returns-in-None-clause-replied
returns-in-None-clause-replied g c = λ m tree lists told ready.
    let same : to_z w64 (of_z w64 c.args.stamp) ≡ c.args.stamp = search rules in
    subst (λ (z : ℤ). IfOk c.hold_plain.result (IsReplied (geometry_of c.args.sup.now) c.args.bitmap.now c.hold_plain.new.bitmap m c.args.group.now c.hold_plain.new.group tree c.args.holds.now (c.args.idle ≡ true) z c.args.call.now)) same
    (c.hold_plain.ensures.replied m tree lists told ready)

pub returns-in-None-clause-cause : goal.returns-in-None-clause-cause
returns-in-None-clause-cause g c = c.hold_plain.ensures.cause c.args.stop
