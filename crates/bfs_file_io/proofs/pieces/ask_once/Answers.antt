use Rattle.std.proofs.Common.{◌≡◌, None, Result, IfOk, OnErr, sym, subst, arith}
use Rattle.std.specs.declared.alloc.AllocError.{AllocError}
use Rattle.bfs_tree.specs.declared.call.Call.TheVariants.{Hold}
use Rattle.bfs_commit.specs.Entries.{HasReplyIn, IsAnsweredIn}
use Rattle.bfs_file_io.specs.Asking.{HasAsked, OnReply}
use Rattle.bfs_file_io.specs.declared.pieces.Asked.{Asked}
use Rattle.bfs_commit.proofs.Asked.{face_core}
use Rattle.bfs_file_io.proofs.Asking.{asked_answered, asked_is, asked_none, asked_noted}
use Rattle.bfs_file_io.proofs.pieces.ask_once.Goals as goal

pub returns-clause-asked : goal.returns-clause-asked
returns-clause-asked g c =
    let old = c.args.device.now in
    let new = c.ask_hold-asked.new.device in
    let sp = c.args.space.now in
    let space = c.ask_hold-asked.new.space in
    let p = c.args.piece in
    let e = c.ask_hold-asked.ensures in
    subst (λ (r : Result Asked AllocError). IfOk r (HasAsked sp space old.books new.books (g.D.Disk.state new.disk) p.session p.tag p.id p.at p.length p.write c.ask_hold-asked.new.places.items)) (sym c.as_asked.ensures)
    (asked_is sp space old.books new.books (g.D.Disk.state old.disk) (g.D.Disk.state new.disk) p.session p.tag p.now p.id p.at p.length p.write _ _ e.rests e.state c.ask_hold-asked.result c.is_taken-done.result c.ask_hold-asked.new.places.items c.requires.joined.fitted c.requires.going c.requires.empty e.noted e.plain c.is_taken-done.ensures.taken e.places e.piece)

pub returns-clause-noted : goal.returns-clause-noted
returns-clause-noted g c =
    let old = c.args.device.now in
    let new = c.ask_hold-asked.new.device in
    let sp = c.args.space.now in
    let space = c.ask_hold-asked.new.space in
    let p = c.args.piece in
    let e = c.ask_hold-asked.ensures in
    subst (λ (r : Result Asked AllocError). IfOk r (OnReply (HasReplyIn sp space (g.D.Disk.faults old.disk) (g.D.Disk.faults new.disk) p.session p.tag (Hold p.id p.at p.length p.write)))) (sym c.as_asked.ensures)
    (asked_noted sp space old.books new.books (g.D.Disk.state old.disk) (g.D.Disk.state new.disk) p.session p.tag p.now p.id p.at p.length p.write _ _ e.rests e.state c.ask_hold-asked.result c.is_taken-done.result (g.D.Disk.faults old.disk) (g.D.Disk.faults new.disk) (omega arith) (omega arith) e.noted)

pub returns-clause-answered : goal.returns-clause-answered
returns-clause-answered g c = λ t0 adopted core.
    let old = c.args.device.now in
    let new = c.ask_hold-asked.new.device in
    let sp = c.args.space.now in
    let space = c.ask_hold-asked.new.space in
    let p = c.args.piece in
    let e = c.ask_hold-asked.ensures in
    let face = face_core t0 adopted sp old.books (g.D.Disk.state old.disk) (g.D.Disk.clock old.disk) (g.D.Disk.since old.disk) c.requires.joined core in
    subst (λ (r : Result Asked AllocError). IfOk r (OnReply (IsAnsweredIn t0 sp space new.books (g.D.Disk.state new.disk) p.session p.tag (Hold p.id p.at p.length p.write)))) (sym c.as_asked.ensures)
    (asked_answered sp space old.books new.books (g.D.Disk.state old.disk) (g.D.Disk.state new.disk) p.session p.tag p.now p.id p.at p.length p.write (record { faults = 0; stops = 0; stop = None }) (record { faults = 0; stops = 0; stop = None }) e.rests e.state t0 core.0.0 core.0.1 c.ask_hold-asked.result c.is_taken-done.result (e.entered t0 core.0.0 core.0.1 face))

pub returns-clause-no_memory : goal.returns-clause-no_memory
returns-clause-no_memory g c =
    subst (λ (r : Result Asked AllocError). OnErr r (c.ask_hold-asked.new.space ≡ c.args.space.now)) (sym c.as_asked.ensures) (asked_none c.ask_hold-asked.result c.is_taken-done.result (c.ask_hold-asked.new.space ≡ c.args.space.now) c.ask_hold-asked.ensures.no_memory)

pub returns-clause-open : goal.returns-clause-open
returns-clause-open g c = λ p other o. c.ask_hold-asked.ensures.open p other o

pub returns-clause-core : goal.returns-clause-core
returns-clause-core g c = λ t0 adopted core. c.ask_hold-asked.ensures.core t0 adopted core
