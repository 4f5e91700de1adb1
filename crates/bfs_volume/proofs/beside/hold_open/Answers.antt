use Rattle.std.proofs.Common.{rules, ◌⊎◌, List, sym, ap, subst}
use Rattle.std.specs.Prelude.{MatchOption}
use Rattle.bfs_tree.specs.declared.call.Call.TheVariants.{Hold}
use Rattle.bfs_file_io.specs.Holds.{held_by}
use Rattle.bfs_file_io.specs.Outcome.{Outcome}
use Rattle.bfs_file_io.specs.Entries.{IsEnded}
use Rattle.bfs_volume.specs.Events.{IsOutcomeIn}
use Rattle.bfs_file_io.specs.Held.{HasTriedHold}
use Rattle.bfs_file_io.specs.Open.{AreOpen, HoldsAt, HoldsNone, OpenView}
use Rattle.bfs_volume.proofs.Others.{free_open, kept_open, not_found}
use Rattle.bfs_volume.proofs.Pushing.{after_reply}
use Rattle.bfs_volume.proofs.beside.hold_open.Goals as goal

pub attempt_hold-requires-clause-free : goal.attempt_hold-requires-clause-free
attempt_hold-requires-clause-free g c =
    let none = not_found c.args.pieces.now.items c.args.piece.session c.find_piece.result (subst (λ (ps : List OpenView). MatchOption c.find_piece.result (HoldsNone ps c.args.piece.session) (λ i. HoldsAt ps c.args.piece.session i)) c.as_slice.ensures.value c.find_piece.ensures) (search rules) in
    free_open c.args.pieces.now.items c.args.piece.session c.args.space.now c.args.device.now.books (g.D.Disk.state c.args.device.now.disk) none c.requires.session c.requires.open

pub returns-in-Ok-Replied-clause-answered : goal.returns-in-Ok-Replied-clause-answered
returns-in-Ok-Replied-clause-answered g c = λ t0 adopted core. subst (λ (o : Outcome). IsOutcomeIn t0 c.args.space.now c.attempt_hold.new.space c.attempt_hold.new.device.books (g.D.Disk.state c.attempt_hold.new.device.disk) c.args.piece.session c.args.piece.tag (Hold c.args.piece.id c.args.piece.at c.args.piece.length c.args.piece.write) o
    ⊎ IsEnded c.args.space.now.view.history c.attempt_hold.new.space.view.history c.args.piece.session c.args.piece.tag (Hold c.args.piece.id c.args.piece.at c.args.piece.length c.args.piece.write) c.args.device.now.books.stop (g.D.Disk.faults c.args.device.now.disk) (g.D.Disk.faults c.attempt_hold.new.device.disk)) c.in-Ok-Replied.field-0-is (c.in-Ok-Replied.ensures.answered t0 adopted core)

pub returns-in-Ok-Drain-clause-answered : goal.returns-in-Ok-Drain-clause-answered
returns-in-Ok-Drain-clause-answered g c = λ t0 adopted core. subst (λ (o : Outcome). IsOutcomeIn t0 c.args.space.now c.attempt_hold.new.space c.attempt_hold.new.device.books (g.D.Disk.state c.attempt_hold.new.device.disk) c.args.piece.session c.args.piece.tag (Hold c.args.piece.id c.args.piece.at c.args.piece.length c.args.piece.write) o
    ⊎ IsEnded c.args.space.now.view.history c.attempt_hold.new.space.view.history c.args.piece.session c.args.piece.tag (Hold c.args.piece.id c.args.piece.at c.args.piece.length c.args.piece.write) c.args.device.now.books.stop (g.D.Disk.faults c.args.device.now.disk) (g.D.Disk.faults c.attempt_hold.new.device.disk)) c.in-Ok-Drain.field-0-is (c.in-Ok-Drain.ensures.answered t0 adopted core)

pub returns-in-Ok-Replied-clause-open : goal.returns-in-Ok-Replied-clause-open
returns-in-Ok-Replied-clause-open g c =
    let p = c.args.piece in
    let n = c.attempt_hold.new in
    let d = c.args.device.now in
    let none = not_found c.args.pieces.now.items p.session c.find_piece.result (subst (λ (ps : List OpenView). MatchOption c.find_piece.result (HoldsNone ps p.session) (λ i. HoldsAt ps p.session i)) c.as_slice.ensures.value c.find_piece.ensures) (search rules) in
    let tried = subst (λ (o : Outcome). HasTriedHold c.args.space.now n.space n.device.books (g.D.Disk.state n.device.disk) p.session p.tag p.id p.at p.length p.write n.places.items o) c.in-Ok-Replied.field-0-is c.in-Ok-Replied.ensures.tried in
    after_reply c.args.pieces.now.items c.args.space.now n.space d.books n.device.books (g.D.Disk.state d.disk) (g.D.Disk.state n.device.disk) p.session p.tag p.id p.at p.length p.write n.places.items c.args.bytes.items c.requires.open c.requires.session none c.requires.long
    c.attempt_hold.ensures.open tried c.keep_taken.new.pieces.items (search rules)

pub returns-in-Ok-Drain-clause-open : goal.returns-in-Ok-Drain-clause-open
returns-in-Ok-Drain-clause-open g c =
    let p = c.args.piece in
    let n = c.attempt_hold.new in
    let d = c.args.device.now in
    let none = not_found c.args.pieces.now.items p.session c.find_piece.result (subst (λ (ps : List OpenView). MatchOption c.find_piece.result (HoldsNone ps p.session) (λ i. HoldsAt ps p.session i)) c.as_slice.ensures.value c.find_piece.ensures) (search rules) in
    let tried = subst (λ (o : Outcome). HasTriedHold c.args.space.now n.space n.device.books (g.D.Disk.state n.device.disk) p.session p.tag p.id p.at p.length p.write n.places.items o) c.in-Ok-Drain.field-0-is c.in-Ok-Drain.ensures.tried in
    subst (λ (ps : List OpenView). AreOpen ps n.space n.device.books (g.D.Disk.state n.device.disk)) (sym c.reserve.ensures.items)
    (kept_open c.args.pieces.now.items p.session c.args.space.now n.space d.books n.device.books (g.D.Disk.state d.disk) (g.D.Disk.state n.device.disk) none tried.1 (ap held_by tried.0) c.attempt_hold.ensures.open c.requires.open)

pub returns-in-Err-attempt_hold-clause-open : goal.returns-in-Err-attempt_hold-clause-open
returns-in-Err-attempt_hold-clause-open g c =
    let p = c.args.piece in
    let n = c.attempt_hold.new in
    let d = c.args.device.now in
    let none = not_found c.args.pieces.now.items p.session c.find_piece.result (subst (λ (ps : List OpenView). MatchOption c.find_piece.result (HoldsNone ps p.session) (λ i. HoldsAt ps p.session i)) c.as_slice.ensures.value c.find_piece.ensures) (search rules) in
    subst (λ (ps : List OpenView). AreOpen ps n.space n.device.books (g.D.Disk.state n.device.disk)) (sym c.reserve.ensures.items)
    (kept_open c.args.pieces.now.items p.session c.args.space.now n.space d.books n.device.books (g.D.Disk.state d.disk) (g.D.Disk.state n.device.disk) none c.in-Err-attempt_hold.ensures.no_memory.1 (ap held_by c.in-Err-attempt_hold.ensures.no_memory.0) c.attempt_hold.ensures.open c.requires.open)
