use Rattle.std.proofs.Common.{◌∙◌, ◌⊎◌, inl, sym, ap, subst, rules, ◌≡◌, Some, None, refl}
use Rattle.std.proofs.lemmas.Result.{IfOk-weaker}
use Rattle.bfs_core.specs.Cores.{newest_map}
use Rattle.bfs_file_io.specs.Books.{SpaceBooks}
use Rattle.bfs_file_io.specs.Faces.{IsOutcome}
use Rattle.bfs_file_io.specs.Outcome.{Outcome}
use Rattle.bfs_device_blocks.specs.Lent.{HasCore}
use Rattle.bfs_file_io.specs.Open.{IsOpen}
use Rattle.bfs_file_io.specs.Entries.{IsEnded}
use Rattle.bfs_volume.specs.Events.{IsOutcomeIn}
use Rattle.bfs_file_io.proofs.Asked.{face_core}
use Rattle.bfs_file_io.proofs.Ends.{rest_of, tells_since, noted_entry}
use Rattle.bfs_file_io.proofs.Joined.{joined_unpromised}
use Rattle.bfs_file_io.proofs.Drawn.{drawn_noted, drawn_within}
use Rattle.bfs_file_io.proofs.Failed.{counts_same, failed_none, failed_stopped, failed_within}
use Rattle.bfs_file_io.proofs.Stays.{promise_over, promise_there, asked_promises}
use Rattle.bfs_volume.proofs.event.attempt.Goals as goal

pub returns-in-Some-clause-open : goal.returns-in-Some-clause-open
returns-in-Some-clause-open g c = λ p other o. c.note.ensures.open p other (c.prepare.ensures.open p other o)

pub returns-in-Some-clause-core : goal.returns-in-Some-clause-core
returns-in-Some-clause-core g c = λ t0 adopted core. c.note.ensures.core t0 adopted (c.prepare.ensures.core t0 adopted core)

pub returns-clause-joined : goal.returns-clause-joined
returns-clause-joined g c = joined_unpromised c.ask-outcome.new.space c.unpromise.new.self _ c.ask-outcome.new.device.books (g.D.Disk.state c.ask-outcome.new.device.disk) c.unpromise.ensures c.ask-outcome.ensures.joined

pub returns-clause-open : goal.returns-clause-open
returns-clause-open g c = λ p other o.
    let d = c.ask-outcome.new.device in
    subst (λ (x : SpaceBooks). IsOpen p x.view d.books (g.D.Disk.state d.disk)) (sym c.unpromise.ensures)
    (c.ask-outcome.ensures.open p other (c.prepare.ensures.open p other o))

pub returns-clause-core : goal.returns-clause-core
returns-clause-core g c = λ t0 adopted core.
    let d = c.ask-outcome.new.device in
    subst (λ (x : SpaceBooks). HasCore t0 adopted x.view d.books (g.D.Disk.state d.disk) (g.D.Disk.clock d.disk) (g.D.Disk.since d.disk)) (sym c.unpromise.ensures)
    (c.ask-outcome.ensures.core t0 adopted (c.prepare.ensures.core t0 adopted core))

pub returns-clause-answered : goal.returns-clause-answered
returns-clause-answered g c = λ t0 adopted core.
    let q = c.prepare.new.device in
    let u = c.ask-outcome.new.device in
    let sp = c.prepare.new.space in
    let held = c.prepare.ensures.core t0 adopted core in
    let face = face_core t0 adopted sp q.books (g.D.Disk.state q.disk) (g.D.Disk.clock q.disk) (g.D.Disk.since q.disk) c.prepare.ensures.joined held in
    let faults = g.D.Disk.faults c.args.device.now.disk in
    let ended : Outcome → Type 0 = λ o. IsEnded c.args.space.now.view.history c.unpromise.new.self.view.history c.args.session c.args.tag c.args.call c.args.device.now.books.stop faults (g.D.Disk.faults u.disk) in
    let into : Outcome → Type 0 = λ o. IsOutcomeIn t0 c.args.space.now c.unpromise.new.self u.books (g.D.Disk.state u.disk) c.args.session c.args.tag c.args.call o ⊎ ended o in
    let from : Outcome → Type 0 = λ o. IsOutcome t0 sp c.ask-outcome.new.space (newest_map q.books held.0.0) c.args.session c.args.tag c.args.now c.args.call o in
    IfOk-weaker c.ask-outcome.result from into
    (λ (o : Outcome) (is : from o). (let it : into o = inl (record {
      at = sp;
      books = c.ask-outcome.new.space;
      map = newest_map q.books held.0.0;
      now = c.args.now;
      same = c.prepare.ensures.view;
      rest = rest_of c.ask-outcome.new.space c.unpromise.new.self _ c.unpromise.ensures;
      tells = tells_since q.books u.books (g.D.Disk.state q.disk) (g.D.Disk.state u.disk) held.0.0 c.ask-outcome.ensures.rests c.ask-outcome.ensures.state held.0.1;
      outcome_is = is;
    }) in it))
    (c.ask-outcome.ensures.entered t0 held.0.0 held.0.1 face)

pub returns-in-Some-clause-stamps : goal.returns-in-Some-clause-stamps
returns-in-Some-clause-stamps g c = drawn_noted c.prepare.new.space c.note.new.space c.args.space.now.view.history c.args.session c.args.tag c.args.now _ _ _ c.prepare.ensures.history c.note.ensures.noted

pub returns-clause-stamps : goal.returns-clause-stamps
returns-clause-stamps g c = drawn_within c.args.space.now.view.history c.prepare.new.space.view.history c.ask-outcome.new.space.view.history c.unpromise.new.self.view.history c.args.now c.prepare.ensures.history (ap (λ (x : SpaceBooks). x.view.history) c.unpromise.ensures) c.ask-outcome.ensures.stamps

-- ---- the disk's counts

pub returns-in_err-prepare-clause-failures : goal.returns-in_err-prepare-clause-failures
returns-in_err-prepare-clause-failures g c =
    failed_none c.args.space.now.view.history c.prepare.new.space.view.history c.args.device.now.books.stop c.prepare.new.device.books.stop (g.D.Disk.faults c.args.device.now.disk) (g.D.Disk.faults c.prepare.new.device.disk) (g.D.Disk.stops c.args.device.now.disk) (g.D.Disk.stops c.prepare.new.device.disk) c.prepare.ensures.history (counts_same c.args.device.now.books.stop c.prepare.new.device.books.stop (g.D.Disk.faults c.args.device.now.disk) (g.D.Disk.faults c.prepare.new.device.disk) (g.D.Disk.stops c.args.device.now.disk) (g.D.Disk.stops c.prepare.new.device.disk) c.prepare.ensures.stop (ap g.D.Disk.faults c.prepare.ensures.disk) (ap g.D.Disk.stops c.prepare.ensures.disk))

pub returns-in-Some-clause-failures : goal.returns-in-Some-clause-failures
returns-in-Some-clause-failures g c =
    let is : c.prepare.new.device.books.stop ≡ Some (record { durable = c.in-Some.field-0.durable; faults = c.in-Some.field-0.faults }) = search rules in
    failed_stopped c.args.space.now.view.history c.note.new.space.view.history c.args.session c.args.tag _ c.args.device.now.books.stop c.prepare.new.device.books.stop (g.D.Disk.faults c.args.device.now.disk) (g.D.Disk.faults c.prepare.new.device.disk) (g.D.Disk.stops c.args.device.now.disk) (g.D.Disk.stops c.prepare.new.device.disk) c.in-Some.field-0.durable c.in-Some.field-0.faults (noted_entry c.prepare.new.space c.note.new.space c.args.space.now.view.history c.args.session c.args.tag c.args.now _ _ _ _ _ c.prepare.ensures.history refl refl c.note.ensures.noted) is (counts_same c.args.device.now.books.stop c.prepare.new.device.books.stop (g.D.Disk.faults c.args.device.now.disk) (g.D.Disk.faults c.prepare.new.device.disk) (g.D.Disk.stops c.args.device.now.disk) (g.D.Disk.stops c.prepare.new.device.disk) c.prepare.ensures.stop (ap g.D.Disk.faults c.prepare.ensures.disk) (ap g.D.Disk.stops c.prepare.ensures.disk))

pub returns-clause-failures : goal.returns-clause-failures
returns-clause-failures g c =
    let going : c.prepare.new.device.books.stop ≡ None = search rules in
    failed_within c.args.space.now.view.history c.prepare.new.space.view.history c.ask-outcome.new.space.view.history c.unpromise.new.self.view.history c.args.device.now.books.stop c.prepare.new.device.books.stop c.ask-outcome.new.device.books.stop (g.D.Disk.faults c.args.device.now.disk) (g.D.Disk.faults c.prepare.new.device.disk) (g.D.Disk.faults c.ask-outcome.new.device.disk) (g.D.Disk.stops c.args.device.now.disk) (g.D.Disk.stops c.prepare.new.device.disk) (g.D.Disk.stops c.ask-outcome.new.device.disk) (counts_same c.args.device.now.books.stop c.prepare.new.device.books.stop (g.D.Disk.faults c.args.device.now.disk) (g.D.Disk.faults c.prepare.new.device.disk) (g.D.Disk.stops c.args.device.now.disk) (g.D.Disk.stops c.prepare.new.device.disk) c.prepare.ensures.stop (ap g.D.Disk.faults c.prepare.ensures.disk) (ap g.D.Disk.stops c.prepare.ensures.disk)) c.prepare.ensures.history (ap (λ (x : SpaceBooks). x.view.history) c.unpromise.ensures) (c.ask-outcome.ensures.failures going)

pub note-requires-clause-promised : goal.note-requires-clause-promised
note-requires-clause-promised g c = promise_there c.args.session c.args.space.now.promised c.prepare.new.space.promised c.in_ok-prepare.ensures.ok.0

pub returns-in-Some-clause-promised : goal.returns-in-Some-clause-promised
returns-in-Some-clause-promised g c = ap (λ (x : SpaceBooks). x.promised) c.note.ensures.noted ∙ promise_over c.args.session c.args.space.now.promised c.prepare.new.space.promised c.requires.free c.in_ok-prepare.ensures.ok.0

pub returns-clause-promised : goal.returns-clause-promised
returns-clause-promised g c =
    ap (λ (x : SpaceBooks). x.promised) c.unpromise.ensures
    ∙ asked_promises c.ask-outcome.result _ _ c.prepare.new.space c.ask-outcome.new.space c.args.session c.args.tag c.args.now c.args.call c.args.space.now.promised c.ask-outcome.ensures.noted c.ask-outcome.ensures.no_memory c.requires.free c.in_ok-prepare.ensures.ok.0
