use Rattle.std.proofs.Common.{◌∙◌, ℕ, Bool, subst}
use Rattle.std.specs.Prelude.{IfOk}
use Rattle.bfs_growth.proofs.Twice.{grown_after}
use Rattle.bfs_stream.specs.Grown.{HasGrown}
use Rattle.bfs_growth.proofs.Stops.{stop_after}
use Rattle.bfs_growth.proofs.next.add_below.Goals as goal

pub returns-clause-grown : goal.returns-clause-grown
returns-clause-grown g c m is owns has =
    let o = c.args.stream.now in
    let are = c.in-Ok.ensures.are m is owns.stands has.2 in
    let now_is = c.in-Ok.ensures.told ∙ is in
    let one = c.in-Ok-with_room.ensures.grown m now_is owns are in
    let ready = c.in-Ok-with_room.ensures.ready m now_is owns are one.2.map one.2.is in
    subst (λ (f : ℕ → Bool). IfOk c.add_double.result (λ k. HasGrown o c.args.bitmap.now c.add_double.new.bitmap m k (g.E.Blocks.told c.add_double.new.edits) f (g.E.Blocks.changed c.add_double.new.edits))) c.in-Ok.ensures.changed
    (grown_after o c.args.bitmap.now c.with_room.new.bitmap c.add_double.new.bitmap m (g.E.Blocks.told c.with_room.new.edits) (g.E.Blocks.told c.add_double.new.edits) (g.E.Blocks.changed c.tables.new.under) (g.E.Blocks.changed c.with_room.new.edits) (g.E.Blocks.changed c.add_double.new.edits) one c.in-Ok-with_room.ensures.rest c.add_double.result
    (c.add_double.ensures.grown one.2.map one.2.is one.2.owns ready))

pub returns-clause-faults : goal.returns-clause-faults
returns-clause-faults g c m is owns has =
    let o = c.args.stream.now in
    let are = c.in-Ok.ensures.are m is owns.stands has.2 in
    let now_is = c.in-Ok.ensures.told ∙ is in
    let one = c.in-Ok-with_room.ensures.grown m now_is owns are in
    let ready = c.in-Ok-with_room.ensures.ready m now_is owns are one.2.map one.2.is in
    stop_after o c.args.bitmap.now c.with_room.new.bitmap m (g.E.Blocks.told c.with_room.new.edits) (g.E.Blocks.changed c.tables.new.under) (g.E.Blocks.changed c.with_room.new.edits) one c.in-Ok-with_room.ensures.rest c.add_double.result
    (c.add_double.ensures.faults one.2.map one.2.is one.2.owns ready)

pub returns-clause-uses : goal.returns-clause-uses
returns-clause-uses g c m is owns has =
    let o = c.args.stream.now in
    let are = c.in-Ok.ensures.are m is owns.stands has.2 in
    let now_is = c.in-Ok.ensures.told ∙ is in
    let one = c.in-Ok-with_room.ensures.grown m now_is owns are in
    let ready = c.in-Ok-with_room.ensures.ready m now_is owns are one.2.map one.2.is in
    c.add_double.ensures.uses one.2.map one.2.is one.2.owns ready
