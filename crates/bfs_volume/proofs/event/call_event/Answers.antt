use Rattle.std.proofs.Common.{rules, ◌≡◌, false}
use Rattle.std.specs.Prelude.{is_some}
use Rattle.bfs_file_io.specs.BuiltLaws.{built_stays}
use Rattle.bfs_volume.proofs.Happens.{asked_by, replied_by, stopped_by, wanted_by}
use Rattle.bfs_volume.proofs.Others.{free_open, holds_tried, kept_open, not_found}
use Rattle.bfs_file_io.proofs.Stays.{built_served, stays_goes}
use Rattle.bfs_volume.proofs.event.call_event.Goals as goal

pub attempt-requires-clause-free : goal.attempt-requires-clause-free
attempt-requires-clause-free g c =
    let none = not_found c.args.pieces.now c.args.session c.find_piece.result c.find_piece.ensures (let e : is_some c.find_piece.result ≡ false = search rules in e) in
    free_open c.args.pieces.now c.args.session c.args.space.now c.args.device.now.books (g.D.Disk.state c.args.device.now.disk) none c.requires.session c.requires.open

pub attempt-requires-clause-serves : goal.attempt-requires-clause-serves
attempt-requires-clause-serves g c = built_served c.args.call c.requires.built

pub attempt-requires-clause-stays : goal.attempt-requires-clause-stays
attempt-requires-clause-stays g c = built_stays c.args.call c.requires.built

pub attempt-requires-clause-goes : goal.attempt-requires-clause-goes
attempt-requires-clause-goes g c = stays_goes c.args.call (built_stays c.args.call c.requires.built)

pub returns-clause-open : goal.returns-clause-open
returns-clause-open g c =
    let none = not_found c.args.pieces.now c.args.session c.find_piece.result c.find_piece.ensures (let e : is_some c.find_piece.result ≡ false = search rules in e) in
    let n = c.attempt.new in
    let d = c.args.device.now in
    kept_open c.args.pieces.now c.args.session c.args.space.now n.space d.books n.device.books (g.D.Disk.state d.disk) (g.D.Disk.state n.device.disk) none c.attempt.ensures.promised
    (holds_tried c.args.space.now.view.history n.space.view.history c.args.session c.args.tag c.args.call c.attempt.result (built_stays c.args.call c.requires.built) c.attempt.ensures.entry c.attempt.ensures.no_memory) c.attempt.ensures.open c.requires.open

pub returns-clause-later : goal.returns-clause-later
returns-clause-later g c = c.attempt.ensures.failures.counts.later

pub returns-clause-asked : goal.returns-clause-asked
returns-clause-asked g c = asked_by c.args.space.now c.attempt.new.space c.args.device.now.books.stop (g.D.Disk.faults c.args.device.now.disk) (g.D.Disk.faults c.attempt.new.device.disk) c.args.session c.args.tag c.args.call c.attempt.result c.as_happened.result c.as_happened.ensures.ok c.as_happened.ensures.err c.attempt.ensures.entry c.attempt.ensures.noted

pub returns-clause-no_memory : goal.returns-clause-no_memory
returns-clause-no_memory g c = wanted_by _ c.attempt.result c.as_happened.result c.as_happened.ensures.ok c.as_happened.ensures.err c.attempt.ensures.no_memory

pub returns-clause-replied : goal.returns-clause-replied
returns-clause-replied g c = λ t0 adopted core.
    replied_by t0 c.args.space.now c.attempt.new.space c.args.device.now.books c.attempt.new.device.books (g.D.Disk.state c.attempt.new.device.disk) (g.D.Disk.faults c.args.device.now.disk) (g.D.Disk.faults c.attempt.new.device.disk) c.args.session c.args.tag c.args.call c.attempt.result c.as_happened.result c.as_happened.ensures.ok c.as_happened.ensures.err c.attempt.ensures.entry
    (c.attempt.ensures.answered t0 adopted core)

pub returns-clause-stopped : goal.returns-clause-stopped
returns-clause-stopped g c = λ s is.
    stopped_by c.args.space.now.view.history c.attempt.new.space.view.history c.args.session c.args.tag c.args.call s c.attempt.result c.as_happened.result c.as_happened.ensures.ok c.as_happened.ensures.err (c.attempt.ensures.stopped s is)
