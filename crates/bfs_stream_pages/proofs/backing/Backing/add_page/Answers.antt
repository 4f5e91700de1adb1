use Rattle.std.proofs.Common.{◌+◌, ◌∙◌, Some, subst, arith}
use Rattle.bfs_txn.specs.Told.{AreSized}
use Rattle.bfs_stream.specs.Sizes.{Origin}
use Rattle.bfs_stream_pages.specs.GoesLaws.{sized_of}
use Rattle.bfs_stream_pages.proofs.Paged.{WritesPage, WritesSize, HasNoDamage, failed_now, failed_then, both, has_added}
use Rattle.bfs_stream_pages.proofs.backing.Backing.add_page.Goals as goal

pub returns-in-Err-clause-faults : goal.returns-in-Err-clause-faults
returns-in-Err-clause-faults g c m is held =
    let at = c.place-index.ensures.at in
    failed_now c.args.self.now c.args.bitmap.now c.args.at m c.in-Err.fault held (c.in-Err.ensures.faults c.args.at m is held (omega (arith, at)))

pub returns-in-Err-put_page-clause-faults : goal.returns-in-Err-put_page-clause-faults
returns-in-Err-put_page-clause-faults g c m is held =
    let o = c.args.self.now in
    let at = c.place-index.ensures.at in
    let room = c.in-Ok.ensures.room c.args.at m is held (omega (arith, at)) in
    let sound : HasNoDamage o (g.E.Blocks.told c.make_room.new.edits) c.place-index.result.0 c.in-Err-put_page.fault =
    subst (λ (x : Origin). HasNoDamage x (g.E.Blocks.told c.make_room.new.edits) c.place-index.result.0 c.in-Err-put_page.fault) c.make_room.ensures.same c.in-Err-put_page.ensures.sound in
    failed_then o c.args.bitmap.now c.make_room.new.bitmap c.args.at m (g.E.Blocks.told c.make_room.new.edits) (g.E.Blocks.changed c.args.edits.now) (g.E.Blocks.changed c.make_room.new.edits) c.in-Err-put_page.fault room.comes
    (sound c.make_room.new.bitmap c.args.at room.comes.map room.comes.is room.comes.held room.inside)

pub returns-in-Err-put_size-clause-faults : goal.returns-in-Err-put_size-clause-faults
returns-in-Err-put_size-clause-faults g c m is held =
    let o = c.args.self.now in
    let at = c.place-index.ensures.at in
    let room = c.in-Ok.ensures.room c.args.at m is held (omega (arith, at)) in
    let writes : WritesPage o (g.E.Blocks.told c.make_room.new.edits) (g.E.Blocks.told c.put_page.new.edits) (g.E.Blocks.changed c.make_room.new.edits) (g.E.Blocks.changed c.put_page.new.edits) c.place-index.result.0 c.place-index.result.1 c.args.from.now =
    subst (λ (x : Origin). WritesPage x (g.E.Blocks.told c.make_room.new.edits) (g.E.Blocks.told c.put_page.new.edits) (g.E.Blocks.changed c.make_room.new.edits) (g.E.Blocks.changed c.put_page.new.edits) c.place-index.result.0 c.place-index.result.1 c.args.from.now) c.make_room.ensures.same c.in-Ok-put_page.ensures.written in
    let done = both o c.args.bitmap.now c.make_room.new.bitmap c.args.at c.place-index.result.0 c.place-index.result.1 1024 m c.args.from.now c.requires.page held at c.place-index.ensures.inside (g.E.Blocks.told c.make_room.new.edits) (g.E.Blocks.told c.put_page.new.edits) (g.E.Blocks.told c.put_page.new.edits)
    (g.E.Blocks.changed c.args.edits.now) (g.E.Blocks.changed c.make_room.new.edits) (g.E.Blocks.changed c.put_page.new.edits) (g.E.Blocks.changed c.put_page.new.edits) room writes in
    failed_then o c.args.bitmap.now c.make_room.new.bitmap c.args.at m (g.E.Blocks.told c.put_page.new.edits) (g.E.Blocks.changed c.args.edits.now) (g.E.Blocks.changed c.put_page.new.edits) c.in-Err-put_size.fault done (c.in-Err-put_size.ensures.sound done.map done.is)

pub returns-clause-added : goal.returns-clause-added
returns-clause-added g c m is held =
    let o = c.args.self.now in
    let at = c.place-index.ensures.at in
    let room = c.in-Ok.ensures.room c.args.at m is held (omega (arith, at)) in
    let writes : WritesPage o (g.E.Blocks.told c.make_room.new.edits) (g.E.Blocks.told c.put_page.new.edits) (g.E.Blocks.changed c.make_room.new.edits) (g.E.Blocks.changed c.put_page.new.edits) c.place-index.result.0 c.place-index.result.1 c.args.from.now =
    subst (λ (x : Origin). WritesPage x (g.E.Blocks.told c.make_room.new.edits) (g.E.Blocks.told c.put_page.new.edits) (g.E.Blocks.changed c.make_room.new.edits) (g.E.Blocks.changed c.put_page.new.edits) c.place-index.result.0 c.place-index.result.1 c.args.from.now) c.make_room.ensures.same c.in-Ok-put_page.ensures.written in
    let sizes : WritesSize o (g.E.Blocks.told c.put_page.new.edits) (g.E.Blocks.told c.put_size.new.edits) (g.E.Blocks.changed c.put_page.new.edits) (g.E.Blocks.changed c.put_size.new.edits) (c.args.at + 1024) =
    subst (λ (x : Origin). WritesSize x (g.E.Blocks.told c.put_page.new.edits) (g.E.Blocks.told c.put_size.new.edits) (g.E.Blocks.changed c.put_page.new.edits) (g.E.Blocks.changed c.put_size.new.edits) (c.args.at + 1024)) (c.put_page.ensures.same ∙ c.make_room.ensures.same) c.in-Ok-put_size.ensures.written in
    let sized0 : AreSized o.sizes.block_size (Some m) = sized_of o.sizes.block_size (g.E.Blocks.size c.args.edits.now) (g.E.Blocks.told c.args.edits.now) m c.requires.size is (g.met.E.Blocks.sized c.args.edits.now) in
    let sized : AreSized o.sizes.block_size (Some room.comes.map) = sized_of o.sizes.block_size (g.E.Blocks.size c.make_room.new.edits) (g.E.Blocks.told c.make_room.new.edits) room.comes.map (c.make_room.ensures.size ∙ c.requires.size) room.comes.is (g.met.E.Blocks.sized c.make_room.new.edits) in
    has_added o c.args.bitmap.now c.make_room.new.bitmap c.args.at c.place-index.result.0 c.place-index.result.1 1024 m c.args.from.now c.requires.page held at c.place-index.ensures.inside (g.E.Blocks.told c.make_room.new.edits) (g.E.Blocks.told c.put_page.new.edits) (g.E.Blocks.told c.put_size.new.edits)
    (g.E.Blocks.changed c.args.edits.now) (g.E.Blocks.changed c.make_room.new.edits) (g.E.Blocks.changed c.put_page.new.edits) (g.E.Blocks.changed c.put_size.new.edits) room writes sizes sized sized0
