use Rattle.std.proofs.Common.{rules, ◌≡◌, ℤ, arith, subst}
use mir.Syntax.{w64}
use mir.Val.{to_z, of_z}
use Rattle.bfs_super.specs.Geometry.{geometry_of}
use Rattle.bfs_set_size.specs.Sized.{HasResized}
use Rattle.bfs_set_size.proofs.resizing.resize.Goals as goal

pub returns-in-Ok-clause-resized : goal.returns-in-Ok-clause-resized
returns-in-Ok-clause-resized g c m tree lists loose n told work clear is file same =
    let time : to_z w64 (of_z w64 c.args.stamp) ≡ c.args.stamp = search rules in
    let less = c.if-size-before.true in
    subst (λ (z : ℤ). HasResized (geometry_of c.args.sup.now) c.args.bitmap.now c.shrink.new.bitmap m tree lists loose c.args.id n.size c.args.size z (g.E.Blocks.told c.shrink.new.edits) (g.E.Blocks.changed c.args.edits.now) (g.E.Blocks.changed c.shrink.new.edits)) time
    (c.in-Ok.ensures.resized m tree lists loose n told work clear is file (omega (arith, same, less)))

pub returns-in-Ok-enlarge-clause-resized : goal.returns-in-Ok-enlarge-clause-resized
returns-in-Ok-enlarge-clause-resized g c m tree lists loose n told work clear is file same =
    let time : to_z w64 (of_z w64 c.args.stamp) ≡ c.args.stamp = search rules in
    let more = c.if-size-before.false in
    subst (λ (z : ℤ). HasResized (geometry_of c.args.sup.now) c.args.bitmap.now c.enlarge.new.bitmap m tree lists loose c.args.id n.size c.args.size z (g.E.Blocks.told c.enlarge.new.edits) (g.E.Blocks.changed c.args.edits.now) (g.E.Blocks.changed c.enlarge.new.edits)) time
    (c.in-Ok-enlarge.ensures.resized m tree lists loose n told work clear is file (omega (arith, same, more)))

pub returns-in-Err-clause-unanswered : goal.returns-in-Err-clause-unanswered
returns-in-Err-clause-unanswered g c m tree lists loose n told work clear is file same =
    let less = c.if-size-before.true in
    c.in-Err.ensures.unanswered m tree lists loose n told work clear is file (omega (arith, same, less))

pub returns-in-Err-enlarge-clause-unanswered : goal.returns-in-Err-enlarge-clause-unanswered
returns-in-Err-enlarge-clause-unanswered g c m tree lists loose n told work clear is file same = c.in-Err-enlarge.ensures.unanswered m tree lists loose n told work clear is file
