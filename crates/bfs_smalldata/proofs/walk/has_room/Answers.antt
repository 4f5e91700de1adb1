use Rattle.std.proofs.Common.{arith}
use Rattle.std.proofs.lemmas.Bool.{leb-true, le-leb}
use Rattle.bfs_smalldata.proofs.Walking.{kept_size, room_to, room_from}
use Rattle.bfs_smalldata.proofs.walk.has_room.Goals as goal

pub returns-then-name-room : goal.returns-then-name-room
returns-then-name-room c =
    let spans = c.span_of-span.ensures in
    let kept = kept_size c.args.area.now c.args.name.now _ _ _ spans in (
      λ enough. room_to c.args.area.now c.args.name.now _ _ _ spans c.args.size (omega (arith, kept, leb-true _ _ enough)),
      λ room. le-leb _ _ (omega (arith, kept, room_from c.args.area.now c.args.name.now _ _ _ spans c.args.size room)),
    )

pub returns-else-name-room : goal.returns-else-name-room
returns-else-name-room c =
    let spans = c.span_of-span.ensures in
    let kept = kept_size c.args.area.now c.args.name.now _ _ _ spans in (
      λ enough. absurd (omega (arith, leb-true _ _ enough)),
      λ room. absurd (omega (arith, kept, room_from c.args.area.now c.args.name.now _ _ _ spans c.args.size room)),
    )
