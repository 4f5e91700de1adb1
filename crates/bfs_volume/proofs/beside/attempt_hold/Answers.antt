use Rattle.std.proofs.Common.{rules, ◌≡◌, ◌⊎◌, inl, inr, Some, refl, sym, ◌∙◌, ap, subst}
use Rattle.std.proofs.lemmas.Result.{IfOk-weaker}
use Rattle.bfs_base.specs.Lists.{times}
use Rattle.bfs_tree.specs.declared.call.Call.{Call}
use Rattle.bfs_tree.specs.declared.call.Call.TheVariants.{Hold}
use Rattle.bfs_core.specs.Cores.{newest_map}
use Rattle.bfs_core.specs.Spaces.{SpaceView}
use Rattle.bfs_device_blocks.specs.Lent.{HasCore}
use Rattle.bfs_file_io.specs.Books.{SpaceBooks}
use Rattle.bfs_file_io.specs.Faces.{IsOutcome}
use Rattle.bfs_file_io.specs.Outcome.{Outcome}
use Rattle.bfs_file_io.specs.Entries.{IsEnded}
use Rattle.bfs_volume.specs.Events.{IsOutcomeIn}
use Rattle.bfs_file_io.proofs.Asked.{face_core}
use Rattle.bfs_volume.proofs.Trying.{none_tried, tried_entry, tried_is}
use Rattle.bfs_file_io.proofs.Ends.{noted_entry, tells_since}
use Rattle.bfs_file_io.proofs.Failed.{counts_same, failed_stopped}
use Rattle.bfs_file_io.proofs.Joined.{joined_unpromised}
use Rattle.bfs_file_io.proofs.Stays.{promise_over, promise_there}
use Rattle.bfs_volume.proofs.beside.attempt_hold.Goals as goal

pub note-requires-clause-promised : goal.note-requires-clause-promised
note-requires-clause-promised g c = promise_there c.args.piece.session c.args.space.now.promised c.prepare.new.space.promised c.in_ok-prepare.ensures.ok.0

pub returns-in-Some-clause-tried : goal.returns-in-Some-clause-tried
returns-in-Some-clause-tried g c = inr (
  record { reply = _; refused = refl; entry = noted_entry c.prepare.new.space c.note.new.space c.args.space.now.view.history c.args.piece.session c.args.piece.tag c.args.piece.now _ _ _ _ _ c.prepare.ensures.history c.hold_of-call.ensures refl c.note.ensures.noted },
  ap (λ (x : SpaceBooks). x.promised) c.note.ensures.noted ∙ promise_over c.args.piece.session c.args.space.now.promised c.prepare.new.space.promised c.requires.free c.in_ok-prepare.ensures.ok.0,
)

pub returns-in-Some-clause-core : goal.returns-in-Some-clause-core
returns-in-Some-clause-core g c = λ t0 adopted core. c.note.ensures.core t0 adopted (c.prepare.ensures.core t0 adopted core)

pub ask_hold-requires-clause-joined : goal.ask_hold-requires-clause-joined
ask_hold-requires-clause-joined g c = joined_unpromised c.prepare.new.space c.unpromise.new.self _ c.prepare.new.device.books (g.D.Disk.state c.prepare.new.device.disk) c.unpromise.ensures c.prepare.ensures.joined

pub ask_hold-requires-clause-unpromised : goal.ask_hold-requires-clause-unpromised
ask_hold-requires-clause-unpromised g c =
    ap (λ (x : SpaceBooks). times c.args.piece.session x.promised) c.unpromise.ensures
    ∙ ap (times c.args.piece.session) (promise_over c.args.piece.session c.args.space.now.promised c.prepare.new.space.promised c.requires.free c.in_ok-prepare.ensures.ok.0)
    ∙ c.requires.free

pub returns-clause-tried : goal.returns-clause-tried
returns-clause-tried g c =
    let p = c.args.piece in
    let q = c.prepare.new.device in
    let u = c.ask_hold.new.device in
    let joined = joined_unpromised c.prepare.new.space c.unpromise.new.self _ c.prepare.new.device.books (g.D.Disk.state c.prepare.new.device.disk) c.unpromise.ensures c.prepare.ensures.joined in
    tried_is c.args.space.now c.unpromise.new.self c.ask_hold.new.space q.books u.books (g.D.Disk.state q.disk) (g.D.Disk.state u.disk) p.session p.tag p.now p.id p.at p.length p.write _ _ c.ask_hold.ensures.rests c.ask_hold.ensures.state
    (ap (λ (x : SpaceBooks). x.view.history) c.unpromise.ensures ∙ c.prepare.ensures.history)
    (ap (λ (x : SpaceBooks). x.promised) c.unpromise.ensures ∙ promise_over p.session c.args.space.now.promised c.prepare.new.space.promised c.requires.free c.in_ok-prepare.ensures.ok.0)
    c.ask_hold.result c.ask_hold.new.places.items joined.fitted c.ask_hold.ensures.noted c.ask_hold.ensures.plain c.ask_hold.ensures.places c.ask_hold.ensures.piece

pub returns-clause-entry : goal.returns-clause-entry
returns-clause-entry g c =
    let p = c.args.piece in
    let q = c.prepare.new.device in
    let u = c.ask_hold.new.device in
    tried_entry c.args.space.now c.unpromise.new.self c.ask_hold.new.space q.books u.books (g.D.Disk.state q.disk) (g.D.Disk.state u.disk) p.session p.tag p.now p.id p.at p.length p.write _ _ c.ask_hold.ensures.rests c.ask_hold.ensures.state
    (ap (λ (x : SpaceBooks). x.view.history) c.unpromise.ensures ∙ c.prepare.ensures.history)
    (ap (λ (x : SpaceBooks). x.promised) c.unpromise.ensures ∙ promise_over p.session c.args.space.now.promised c.prepare.new.space.promised c.requires.free c.in_ok-prepare.ensures.ok.0)
    c.ask_hold.result c.ask_hold.ensures.noted

pub returns-clause-no_memory : goal.returns-clause-no_memory
returns-clause-no_memory g c =
    none_tried c.ask_hold.result c.args.space.now c.unpromise.new.self c.ask_hold.new.space
    (ap (λ (x : SpaceBooks). x.view.history) c.unpromise.ensures ∙ c.prepare.ensures.history)
    (ap (λ (x : SpaceBooks). x.promised) c.unpromise.ensures ∙ promise_over c.args.piece.session c.args.space.now.promised c.prepare.new.space.promised c.requires.free c.in_ok-prepare.ensures.ok.0)
    c.ask_hold.ensures.no_memory

pub returns-clause-answered : goal.returns-clause-answered
returns-clause-answered g c = λ t0 adopted core.
    let p = c.args.piece in
    let call : Call = Hold p.id p.at p.length p.write in
    let q = c.prepare.new.device in
    let u = c.ask_hold.new.device in
    let sp = c.unpromise.new.self in
    let view : sp.view ≡ c.prepare.new.space.view = ap (λ (x : SpaceBooks). x.view) c.unpromise.ensures in
    let held = subst (λ (v : SpaceView). HasCore t0 adopted v q.books (g.D.Disk.state q.disk) (g.D.Disk.clock q.disk) (g.D.Disk.since q.disk)) (sym view) (c.prepare.ensures.core t0 adopted core) in
    let face = face_core t0 adopted sp q.books (g.D.Disk.state q.disk) (g.D.Disk.clock q.disk) (g.D.Disk.since q.disk) (joined_unpromised c.prepare.new.space c.unpromise.new.self _ c.prepare.new.device.books (g.D.Disk.state c.prepare.new.device.disk) c.unpromise.ensures c.prepare.ensures.joined) held in
    let faults = g.D.Disk.faults c.args.device.now.disk in
    let ended : Outcome → Type 0 = λ o. IsEnded c.args.space.now.view.history c.ask_hold.new.space.view.history p.session p.tag call c.args.device.now.books.stop faults (g.D.Disk.faults u.disk) in
    let into : Outcome → Type 0 = λ o. IsOutcomeIn t0 c.args.space.now c.ask_hold.new.space u.books (g.D.Disk.state u.disk) p.session p.tag call o ⊎ ended o in
    let from : Outcome → Type 0 = λ o. IsOutcome t0 sp c.ask_hold.new.space (newest_map q.books held.0.0) p.session p.tag p.now call o in
    IfOk-weaker c.ask_hold.result from into
    (λ (o : Outcome) (is : from o). (let it : into o = inl (record {
      at = sp;
      books = c.ask_hold.new.space;
      map = newest_map q.books held.0.0;
      now = p.now;
      same = view ∙ c.prepare.ensures.view;
      rest = refl;
      tells = tells_since q.books u.books (g.D.Disk.state q.disk) (g.D.Disk.state u.disk) held.0.0 c.ask_hold.ensures.rests c.ask_hold.ensures.state held.0.1;
      outcome_is = is;
    }) in it))
    (c.ask_hold.ensures.entered t0 held.0.0 held.0.1 face)

pub returns-clause-core : goal.returns-clause-core
returns-clause-core g c = λ t0 adopted core.
    let q = c.prepare.new.device in
    c.ask_hold.ensures.core t0 adopted
    (subst (λ (x : SpaceBooks). HasCore t0 adopted x.view q.books (g.D.Disk.state q.disk) (g.D.Disk.clock q.disk) (g.D.Disk.since q.disk)) (sym c.unpromise.ensures) (c.prepare.ensures.core t0 adopted core))

pub returns-in-Some-clause-failures : goal.returns-in-Some-clause-failures
returns-in-Some-clause-failures g c =
    let is : c.prepare.new.device.books.stop ≡ Some (record { durable = c.in-Some.field-0.durable; faults = c.in-Some.field-0.faults }) = search rules in
    failed_stopped c.args.space.now.view.history c.note.new.space.view.history c.args.piece.session c.args.piece.tag _ c.args.device.now.books.stop c.prepare.new.device.books.stop (g.D.Disk.faults c.args.device.now.disk) (g.D.Disk.faults c.prepare.new.device.disk) (g.D.Disk.stops c.args.device.now.disk) (g.D.Disk.stops c.prepare.new.device.disk) c.in-Some.field-0.durable c.in-Some.field-0.faults (noted_entry c.prepare.new.space c.note.new.space c.args.space.now.view.history c.args.piece.session c.args.piece.tag c.args.piece.now _ _ _ _ _ c.prepare.ensures.history refl refl c.note.ensures.noted) is (counts_same c.args.device.now.books.stop c.prepare.new.device.books.stop (g.D.Disk.faults c.args.device.now.disk) (g.D.Disk.faults c.prepare.new.device.disk) (g.D.Disk.stops c.args.device.now.disk) (g.D.Disk.stops c.prepare.new.device.disk) c.prepare.ensures.stop (ap g.D.Disk.faults c.prepare.ensures.disk) (ap g.D.Disk.stops c.prepare.ensures.disk))
