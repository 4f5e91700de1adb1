use Rattle.std.proofs.Common.{rules, ◌≡◌, inl, inr, ◌∙◌, Result, refl, sym, ap, subst, arith, Some, None}
use Rattle.std.specs.Prelude.{IfOk}
use Rattle.std.specs.declared.alloc.AllocError.{AllocError}
use Rattle.bfs_device.specs.Books.{Books}
use Rattle.bfs_core.specs.Cores.{newest_map}
use Rattle.bfs_tree.specs.declared.call.Call.{Call}
use Rattle.bfs_space.specs.Faces.{HasEntered, HasOutcome, IsOutcome}
use Rattle.bfs_space.specs.declared.space.Outcome.{Outcome}
use Rattle.bfs_space.specs.declared.space.Outcome.TheVariants.{Replied}
use Rattle.bfs_device_blocks.specs.Lent.{HasCore}
use Rattle.bfs_space.specs.Books.{SpaceBooks}
use Rattle.bfs_commit.specs.Open.{IsOpen}
use Rattle.bfs_commit.specs.Entries.{counts_of}
use Rattle.bfs_commit.proofs.Asked.{face_core}
use Rattle.bfs_commit.proofs.Ends.{device_end, noted_entry, rest_of, tells_since}
use Rattle.bfs_commit.proofs.Joined.{joined_unpromised}
use Rattle.bfs_commit.proofs.Drawn.{drawn_both, drawn_noted, drawn_within}
use Rattle.bfs_commit.proofs.Stays.{asked_promises, promise_over, promise_there}
use Rattle.bfs_commit.proofs.Failed.{counts_same, failed_both, failed_none, failed_step, failed_stopped, failed_within}
use Rattle.bfs_commit.proofs.calls.answer.Goals as goal

pub returns-in-Some-clause-open : goal.returns-in-Some-clause-open
returns-in-Some-clause-open g c = λ p other o. c.note.ensures.open p other (c.prepare.ensures.open p other o)

pub returns-in-Some-clause-core : goal.returns-in-Some-clause-core
returns-in-Some-clause-core g c = λ t0 adopted core. c.note.ensures.core t0 adopted (c.prepare.ensures.core t0 adopted core)

pub returns-in-Err-settle-clause-open : goal.returns-in-Err-settle-clause-open
returns-in-Err-settle-clause-open g c = λ p other o. c.note-in-Err-settle.ensures.open p other (c.settle.ensures.open p (c.ask.ensures.open p other (c.prepare.ensures.open p other o)))

pub returns-in-Err-settle-clause-core : goal.returns-in-Err-settle-clause-core
returns-in-Err-settle-clause-core g c = λ t0 adopted core. c.note-in-Err-settle.ensures.core t0 adopted (c.settle.ensures.core t0 adopted (c.ask.ensures.core t0 adopted (c.prepare.ensures.core t0 adopted core)))

pub returns-in-Ok-Replied-clause-joined : goal.returns-in-Ok-Replied-clause-joined
returns-in-Ok-Replied-clause-joined g c = joined_unpromised c.ask.new.space c.unpromise.new.self _ c.ask.new.device.books (g.D.Disk.state c.ask.new.device.disk) c.unpromise.ensures c.ask.ensures.joined

pub returns-in-Ok-Replied-clause-open : goal.returns-in-Ok-Replied-clause-open
returns-in-Ok-Replied-clause-open g c = λ p other o.
    let d = c.ask.new.device in
    subst (λ (x : SpaceBooks). IsOpen p x.view d.books (g.D.Disk.state d.disk)) (sym c.unpromise.ensures)
    (c.ask.ensures.open p other (c.prepare.ensures.open p other o))

pub returns-in-Ok-Replied-clause-core : goal.returns-in-Ok-Replied-clause-core
returns-in-Ok-Replied-clause-core g c = λ t0 adopted core.
    let d = c.ask.new.device in
    subst (λ (x : SpaceBooks). HasCore t0 adopted x.view d.books (g.D.Disk.state d.disk) (g.D.Disk.clock d.disk) (g.D.Disk.since d.disk)) (sym c.unpromise.ensures)
    (c.ask.ensures.core t0 adopted (c.prepare.ensures.core t0 adopted core))

pub returns-in-Err-clause-joined : goal.returns-in-Err-clause-joined
returns-in-Err-clause-joined g c = joined_unpromised c.ask.new.space c.unpromise-in-Err.new.self _ c.ask.new.device.books (g.D.Disk.state c.ask.new.device.disk) c.unpromise-in-Err.ensures c.ask.ensures.joined

pub returns-in-Err-clause-open : goal.returns-in-Err-clause-open
returns-in-Err-clause-open g c = λ p other o.
    let d = c.ask.new.device in
    subst (λ (x : SpaceBooks). IsOpen p x.view d.books (g.D.Disk.state d.disk)) (sym c.unpromise-in-Err.ensures)
    (c.ask.ensures.open p other (c.prepare.ensures.open p other o))

pub returns-in-Err-clause-core : goal.returns-in-Err-clause-core
returns-in-Err-clause-core g c = λ t0 adopted core.
    let d = c.ask.new.device in
    subst (λ (x : SpaceBooks). HasCore t0 adopted x.view d.books (g.D.Disk.state d.disk) (g.D.Disk.clock d.disk) (g.D.Disk.since d.disk)) (sym c.unpromise-in-Err.ensures)
    (c.ask.ensures.core t0 adopted (c.prepare.ensures.core t0 adopted core))

pub returns-in-Ok-Replied-outcome-clause-joined : goal.returns-in-Ok-Replied-outcome-clause-joined
returns-in-Ok-Replied-outcome-clause-joined g c = joined_unpromised c.ask-outcome.new.space c.unpromise-2.new.self _ c.ask-outcome.new.device.books (g.D.Disk.state c.ask-outcome.new.device.disk) c.unpromise-2.ensures c.ask-outcome.ensures.joined

pub returns-in-Ok-Replied-outcome-clause-open : goal.returns-in-Ok-Replied-outcome-clause-open
returns-in-Ok-Replied-outcome-clause-open g c = λ p other o.
    let d = c.ask-outcome.new.device in
    subst (λ (x : SpaceBooks). IsOpen p x.view d.books (g.D.Disk.state d.disk)) (sym c.unpromise-2.ensures)
    (c.ask-outcome.ensures.open p other (c.settle.ensures.open p (c.ask.ensures.open p other (c.prepare.ensures.open p other o))))

pub returns-in-Ok-Replied-outcome-clause-core : goal.returns-in-Ok-Replied-outcome-clause-core
returns-in-Ok-Replied-outcome-clause-core g c = λ t0 adopted core.
    let d = c.ask-outcome.new.device in
    subst (λ (x : SpaceBooks). HasCore t0 adopted x.view d.books (g.D.Disk.state d.disk) (g.D.Disk.clock d.disk) (g.D.Disk.since d.disk)) (sym c.unpromise-2.ensures)
    (c.ask-outcome.ensures.core t0 adopted (c.settle.ensures.core t0 adopted (c.ask.ensures.core t0 adopted (c.prepare.ensures.core t0 adopted core))))

pub returns-in-Ok-Drain-outcome-clause-joined : goal.returns-in-Ok-Drain-outcome-clause-joined
returns-in-Ok-Drain-outcome-clause-joined g c = joined_unpromised c.ask-outcome.new.space c.unpromise-2.new.self _ c.ask-outcome.new.device.books (g.D.Disk.state c.ask-outcome.new.device.disk) c.unpromise-2.ensures c.ask-outcome.ensures.joined

pub returns-in-Ok-Drain-outcome-clause-open : goal.returns-in-Ok-Drain-outcome-clause-open
returns-in-Ok-Drain-outcome-clause-open g c = λ p other o.
    let d = c.ask-outcome.new.device in
    subst (λ (x : SpaceBooks). IsOpen p x.view d.books (g.D.Disk.state d.disk)) (sym c.unpromise-2.ensures)
    (c.ask-outcome.ensures.open p other (c.settle.ensures.open p (c.ask.ensures.open p other (c.prepare.ensures.open p other o))))

pub returns-in-Ok-Drain-outcome-clause-core : goal.returns-in-Ok-Drain-outcome-clause-core
returns-in-Ok-Drain-outcome-clause-core g c = λ t0 adopted core.
    let d = c.ask-outcome.new.device in
    subst (λ (x : SpaceBooks). HasCore t0 adopted x.view d.books (g.D.Disk.state d.disk) (g.D.Disk.clock d.disk) (g.D.Disk.since d.disk)) (sym c.unpromise-2.ensures)
    (c.ask-outcome.ensures.core t0 adopted (c.settle.ensures.core t0 adopted (c.ask.ensures.core t0 adopted (c.prepare.ensures.core t0 adopted core))))

pub returns-clause-joined : goal.returns-clause-joined
returns-clause-joined g c = joined_unpromised c.ask-outcome.new.space c.unpromise-2.new.self _ c.ask-outcome.new.device.books (g.D.Disk.state c.ask-outcome.new.device.disk) c.unpromise-2.ensures c.ask-outcome.ensures.joined

pub returns-clause-open : goal.returns-clause-open
returns-clause-open g c = λ p other o.
    let d = c.ask-outcome.new.device in
    subst (λ (x : SpaceBooks). IsOpen p x.view d.books (g.D.Disk.state d.disk)) (sym c.unpromise-2.ensures)
    (c.ask-outcome.ensures.open p other (c.settle.ensures.open p (c.ask.ensures.open p other (c.prepare.ensures.open p other o))))

pub returns-clause-core : goal.returns-clause-core
returns-clause-core g c = λ t0 adopted core.
    let d = c.ask-outcome.new.device in
    subst (λ (x : SpaceBooks). HasCore t0 adopted x.view d.books (g.D.Disk.state d.disk) (g.D.Disk.clock d.disk) (g.D.Disk.since d.disk)) (sym c.unpromise-2.ensures)
    (c.ask-outcome.ensures.core t0 adopted (c.settle.ensures.core t0 adopted (c.ask.ensures.core t0 adopted (c.prepare.ensures.core t0 adopted core))))

pub returns-in-Ok-Replied-clause-answered : goal.returns-in-Ok-Replied-clause-answered
returns-in-Ok-Replied-clause-answered g c = λ t0 adopted core.
    let q = c.prepare.new.device in
    let held = c.prepare.ensures.core t0 adopted core in
    let face = face_core t0 adopted c.prepare.new.space q.books (g.D.Disk.state q.disk) (g.D.Disk.clock q.disk) (g.D.Disk.since q.disk) c.prepare.ensures.joined held in
    inl (record {
      at = c.prepare.new.space;
      books = c.ask.new.space;
      map = newest_map q.books held.0.0;
      now = c.args.now;
      same = c.prepare.ensures.history;
      rest = rest_of c.ask.new.space c.unpromise.new.self _ c.unpromise.ensures;
      tells = tells_since q.books c.ask.new.device.books (g.D.Disk.state q.disk) (g.D.Disk.state c.ask.new.device.disk) held.0.0 c.in-Ok-Replied.ensures.rests c.in-Ok-Replied.ensures.state held.0.1;
      entered = subst (λ (o : Outcome). IsOutcome t0 c.prepare.new.space c.ask.new.space (newest_map q.books held.0.0) c.args.session c.args.tag c.args.now c.args.call o) c.in-Ok-Replied.field-0-is (c.in-Ok-Replied.ensures.entered t0 held.0.0 held.0.1 face);
    })

pub returns-in-Err-settle-clause-noted : goal.returns-in-Err-settle-clause-noted
returns-in-Err-settle-clause-noted g c =
    let q = c.prepare.new.device in
    let u = c.ask.new.device in
    let off = subst (λ (o : Outcome). HasOutcome (counts_of (g.D.Disk.faults q.disk) (g.D.Disk.stops q.disk) q.books.stop) (counts_of (g.D.Disk.faults u.disk) (g.D.Disk.stops u.disk) u.books.stop) c.prepare.new.space c.ask.new.space c.args.session c.args.tag c.args.now c.args.call o) c.in-Ok-Drain.field-0-is c.in-Ok-Drain.ensures.noted in
    let history : c.settle.new.space.view.history ≡ c.args.space.now.view.history = c.settle.ensures.history ∙ ap (λ (x : SpaceBooks). x.view.history) off.1 ∙ c.prepare.ensures.history in
    let stop : u.books.stop ≡ c.args.device.now.books.stop = ap (λ (b : Books). b.stop) c.in-Ok-Drain.ensures.rests ∙ c.prepare.ensures.stop in
    let first : g.D.Disk.faults q.disk ≡ g.D.Disk.faults c.args.device.now.disk = ap g.D.Disk.faults c.prepare.ensures.disk in
    let more = c.in-Ok-Drain.ensures.faults in
    inr (record {
      reply = _;
      entry = noted_entry c.settle.new.space c.note-in-Err-settle.new.space c.args.space.now.view.history c.args.session c.args.tag c.args.now _ c.in-Ok-Drain.call c.args.call _ _ history off.0 c.as_reply.ensures c.note-in-Err-settle.ensures.noted;
      cause = device_end c.args.device.now.books.stop u.books.stop c.settle.new.device.books.stop (g.D.Disk.faults c.args.device.now.disk) (g.D.Disk.faults u.disk) (g.D.Disk.faults c.settle.new.device.disk) (g.D.Disk.faults c.settle.new.device.disk) c.in-Err-settle.fault stop (omega (arith, first, more)) (omega arith) c.in-Err-settle.ensures.fault;
    })

pub returns-in-Err-settle-clause-answered : goal.returns-in-Err-settle-clause-answered
returns-in-Err-settle-clause-answered g c = λ t0 adopted core.
    let q = c.prepare.new.device in
    let u = c.ask.new.device in
    let off = subst (λ (o : Outcome). HasOutcome (counts_of (g.D.Disk.faults q.disk) (g.D.Disk.stops q.disk) q.books.stop) (counts_of (g.D.Disk.faults u.disk) (g.D.Disk.stops u.disk) u.books.stop) c.prepare.new.space c.ask.new.space c.args.session c.args.tag c.args.now c.args.call o) c.in-Ok-Drain.field-0-is c.in-Ok-Drain.ensures.noted in
    let history : c.settle.new.space.view.history ≡ c.args.space.now.view.history = c.settle.ensures.history ∙ ap (λ (x : SpaceBooks). x.view.history) off.1 ∙ c.prepare.ensures.history in
    let stop : u.books.stop ≡ c.args.device.now.books.stop = ap (λ (b : Books). b.stop) c.in-Ok-Drain.ensures.rests ∙ c.prepare.ensures.stop in
    let first : g.D.Disk.faults q.disk ≡ g.D.Disk.faults c.args.device.now.disk = ap g.D.Disk.faults c.prepare.ensures.disk in
    let more = c.in-Ok-Drain.ensures.faults in
    inr (record {
      reply = _;
      entry = noted_entry c.settle.new.space c.note-in-Err-settle.new.space c.args.space.now.view.history c.args.session c.args.tag c.args.now _ c.in-Ok-Drain.call c.args.call _ _ history off.0 c.as_reply.ensures c.note-in-Err-settle.ensures.noted;
      cause = device_end c.args.device.now.books.stop u.books.stop c.settle.new.device.books.stop (g.D.Disk.faults c.args.device.now.disk) (g.D.Disk.faults u.disk) (g.D.Disk.faults c.settle.new.device.disk) (g.D.Disk.faults c.settle.new.device.disk) c.in-Err-settle.fault stop (omega (arith, first, more)) (omega arith) c.in-Err-settle.ensures.fault;
    })

pub returns-in-Ok-Replied-outcome-clause-answered : goal.returns-in-Ok-Replied-outcome-clause-answered
returns-in-Ok-Replied-outcome-clause-answered g c = λ t0 adopted core.
    let q = c.prepare.new.device in
    let u = c.ask.new.device in
    let off = subst (λ (o : Outcome). HasOutcome (counts_of (g.D.Disk.faults q.disk) (g.D.Disk.stops q.disk) q.books.stop) (counts_of (g.D.Disk.faults u.disk) (g.D.Disk.stops u.disk) u.books.stop) c.prepare.new.space c.ask.new.space c.args.session c.args.tag c.args.now c.args.call o) c.in-Ok-Drain.field-0-is c.in-Ok-Drain.ensures.noted in
    let history : c.settle.new.space.view.history ≡ c.args.space.now.view.history = c.settle.ensures.history ∙ ap (λ (x : SpaceBooks). x.view.history) off.1 ∙ c.prepare.ensures.history in
    let d = c.settle.new.device in
    let sp = c.settle.new.space in
    let held = c.settle.ensures.core t0 adopted (c.ask.ensures.core t0 adopted (c.prepare.ensures.core t0 adopted core)) in
    let face = face_core t0 adopted sp d.books (g.D.Disk.state d.disk) (g.D.Disk.clock d.disk) (g.D.Disk.since d.disk) c.settle.ensures.joined held in
    let answer = subst (λ (r : Result Outcome AllocError). IfOk r (IsOutcome t0 sp c.ask-outcome.new.space (newest_map d.books held.0.0) c.args.session c.args.tag c.args.now c.in-Ok-Drain.call)) c.in-Ok-Replied-outcome.is (c.ask-outcome.ensures.entered t0 held.0.0 held.0.1 face) in
    let is : c.in-Ok-Replied-outcome.field-0 ≡ Replied = search rules in
    let replied = subst (λ (o : Outcome). IsOutcome t0 sp c.ask-outcome.new.space (newest_map d.books held.0.0) c.args.session c.args.tag c.args.now c.in-Ok-Drain.call o) is answer in
    inl (record {
      at = sp;
      books = c.ask-outcome.new.space;
      map = newest_map d.books held.0.0;
      now = c.args.now;
      same = history;
      rest = rest_of c.ask-outcome.new.space c.unpromise-2.new.self _ c.unpromise-2.ensures;
      tells = tells_since d.books c.ask-outcome.new.device.books (g.D.Disk.state d.disk) (g.D.Disk.state c.ask-outcome.new.device.disk) held.0.0 c.ask-outcome.ensures.rests c.ask-outcome.ensures.state held.0.1;
      entered = subst (λ (k : Call). HasEntered t0 sp c.ask-outcome.new.space (newest_map d.books held.0.0) c.args.session c.args.tag c.args.now k) off.0 replied;
    })

-- ---- stamps

pub returns-in-Some-clause-stamps : goal.returns-in-Some-clause-stamps
returns-in-Some-clause-stamps g c = drawn_noted c.prepare.new.space c.note.new.space c.args.space.now.view.history c.args.session c.args.tag c.args.now _ _ _ c.prepare.ensures.history c.note.ensures.noted

pub returns-in-Ok-Replied-clause-stamps : goal.returns-in-Ok-Replied-clause-stamps
returns-in-Ok-Replied-clause-stamps g c = drawn_within c.args.space.now.view.history c.prepare.new.space.view.history c.ask.new.space.view.history c.unpromise.new.self.view.history c.args.now c.prepare.ensures.history (ap (λ (x : SpaceBooks). x.view.history) c.unpromise.ensures) c.ask.ensures.stamps

pub returns-in-Err-clause-stamps : goal.returns-in-Err-clause-stamps
returns-in-Err-clause-stamps g c = drawn_within c.args.space.now.view.history c.prepare.new.space.view.history c.ask.new.space.view.history c.unpromise-in-Err.new.self.view.history c.args.now c.prepare.ensures.history (ap (λ (x : SpaceBooks). x.view.history) c.unpromise-in-Err.ensures) c.ask.ensures.stamps

pub returns-in-Err-settle-clause-stamps : goal.returns-in-Err-settle-clause-stamps
returns-in-Err-settle-clause-stamps g c =
    let asked = c.ask.new.space.view.history in
    drawn_both c.args.space.now.view.history asked c.note-in-Err-settle.new.space.view.history c.args.now (drawn_within c.args.space.now.view.history c.prepare.new.space.view.history asked asked c.args.now c.prepare.ensures.history refl c.ask.ensures.stamps)
    (drawn_noted c.settle.new.space c.note-in-Err-settle.new.space asked c.args.session c.args.tag c.args.now _ _ _ c.settle.ensures.history c.note-in-Err-settle.ensures.noted)

pub returns-in-Ok-Replied-outcome-clause-stamps : goal.returns-in-Ok-Replied-outcome-clause-stamps
returns-in-Ok-Replied-outcome-clause-stamps g c =
    let asked = c.ask.new.space.view.history in
    drawn_both c.args.space.now.view.history asked c.unpromise-2.new.self.view.history c.args.now (drawn_within c.args.space.now.view.history c.prepare.new.space.view.history asked asked c.args.now c.prepare.ensures.history refl c.ask.ensures.stamps)
    (drawn_within asked c.settle.new.space.view.history c.ask-outcome.new.space.view.history c.unpromise-2.new.self.view.history c.args.now c.settle.ensures.history (ap (λ (x : SpaceBooks). x.view.history) c.unpromise-2.ensures) c.ask-outcome.ensures.stamps)

pub returns-in-Ok-Drain-outcome-clause-stamps : goal.returns-in-Ok-Drain-outcome-clause-stamps
returns-in-Ok-Drain-outcome-clause-stamps g c =
    let asked = c.ask.new.space.view.history in
    drawn_both c.args.space.now.view.history asked c.unpromise-2.new.self.view.history c.args.now (drawn_within c.args.space.now.view.history c.prepare.new.space.view.history asked asked c.args.now c.prepare.ensures.history refl c.ask.ensures.stamps)
    (drawn_within asked c.settle.new.space.view.history c.ask-outcome.new.space.view.history c.unpromise-2.new.self.view.history c.args.now c.settle.ensures.history (ap (λ (x : SpaceBooks). x.view.history) c.unpromise-2.ensures) c.ask-outcome.ensures.stamps)

pub returns-clause-stamps : goal.returns-clause-stamps
returns-clause-stamps g c =
    let asked = c.ask.new.space.view.history in
    drawn_both c.args.space.now.view.history asked c.unpromise-2.new.self.view.history c.args.now (drawn_within c.args.space.now.view.history c.prepare.new.space.view.history asked asked c.args.now c.prepare.ensures.history refl c.ask.ensures.stamps)
    (drawn_within asked c.settle.new.space.view.history c.ask-outcome.new.space.view.history c.unpromise-2.new.self.view.history c.args.now c.settle.ensures.history (ap (λ (x : SpaceBooks). x.view.history) c.unpromise-2.ensures) c.ask-outcome.ensures.stamps)

-- ---- promises

pub note-requires-clause-promised : goal.note-requires-clause-promised
note-requires-clause-promised g c = promise_there c.args.session c.args.space.now.promised c.prepare.new.space.promised c.in_ok-prepare.ensures.ok.0

pub returns-in-Some-clause-promised : goal.returns-in-Some-clause-promised
returns-in-Some-clause-promised g c = ap (λ (x : SpaceBooks). x.promised) c.note.ensures.noted ∙ promise_over c.args.session c.args.space.now.promised c.prepare.new.space.promised c.requires.free c.in_ok-prepare.ensures.ok.0

pub returns-in-Ok-Replied-clause-promised : goal.returns-in-Ok-Replied-clause-promised
returns-in-Ok-Replied-clause-promised g c =
    ap (λ (x : SpaceBooks). x.promised) c.unpromise.ensures
    ∙ asked_promises c.ask.result _ _ c.prepare.new.space c.ask.new.space c.args.session c.args.tag c.args.now c.args.call c.args.space.now.promised c.ask.ensures.noted c.ask.ensures.no_memory c.requires.free c.in_ok-prepare.ensures.ok.0

pub returns-in-Err-clause-promised : goal.returns-in-Err-clause-promised
returns-in-Err-clause-promised g c =
    ap (λ (x : SpaceBooks). x.promised) c.unpromise-in-Err.ensures
    ∙ asked_promises c.ask.result _ _ c.prepare.new.space c.ask.new.space c.args.session c.args.tag c.args.now c.args.call c.args.space.now.promised c.ask.ensures.noted c.ask.ensures.no_memory c.requires.free c.in_ok-prepare.ensures.ok.0

pub note-requires-in-Err-settle-clause-promised : goal.note-requires-in-Err-settle-clause-promised
note-requires-in-Err-settle-clause-promised g c = promise_there c.args.session c.args.space.now.promised c.settle.new.space.promised (let off = subst (λ (o : Outcome). HasOutcome (counts_of (g.D.Disk.faults c.prepare.new.device.disk) (g.D.Disk.stops c.prepare.new.device.disk) c.prepare.new.device.books.stop) (counts_of (g.D.Disk.faults c.ask.new.device.disk) (g.D.Disk.stops c.ask.new.device.disk) c.ask.new.device.books.stop) c.prepare.new.space c.ask.new.space c.args.session c.args.tag c.args.now c.args.call o) c.in-Ok-Drain.field-0-is c.in-Ok-Drain.ensures.noted in c.settle.ensures.promised ∙ ap (λ (x : SpaceBooks). x.promised) off.1 ∙ c.in_ok-prepare.ensures.ok.0)

pub returns-in-Err-settle-clause-promised : goal.returns-in-Err-settle-clause-promised
returns-in-Err-settle-clause-promised g c =
    ap (λ (x : SpaceBooks). x.promised) c.note-in-Err-settle.ensures.noted
    ∙ promise_over c.args.session c.args.space.now.promised c.settle.new.space.promised c.requires.free (let off = subst (λ (o : Outcome). HasOutcome (counts_of (g.D.Disk.faults c.prepare.new.device.disk) (g.D.Disk.stops c.prepare.new.device.disk) c.prepare.new.device.books.stop) (counts_of (g.D.Disk.faults c.ask.new.device.disk) (g.D.Disk.stops c.ask.new.device.disk) c.ask.new.device.books.stop) c.prepare.new.space c.ask.new.space c.args.session c.args.tag c.args.now c.args.call o) c.in-Ok-Drain.field-0-is c.in-Ok-Drain.ensures.noted in c.settle.ensures.promised ∙ ap (λ (x : SpaceBooks). x.promised) off.1 ∙ c.in_ok-prepare.ensures.ok.0)

pub returns-in-Ok-Replied-outcome-clause-promised : goal.returns-in-Ok-Replied-outcome-clause-promised
returns-in-Ok-Replied-outcome-clause-promised g c =
    ap (λ (x : SpaceBooks). x.promised) c.unpromise-2.ensures
    ∙ asked_promises c.ask-outcome.result _ _ c.settle.new.space c.ask-outcome.new.space c.args.session c.args.tag c.args.now c.in-Ok-Drain.call c.args.space.now.promised c.ask-outcome.ensures.noted c.ask-outcome.ensures.no_memory c.requires.free (let off = subst (λ (o : Outcome). HasOutcome (counts_of (g.D.Disk.faults c.prepare.new.device.disk) (g.D.Disk.stops c.prepare.new.device.disk) c.prepare.new.device.books.stop) (counts_of (g.D.Disk.faults c.ask.new.device.disk) (g.D.Disk.stops c.ask.new.device.disk) c.ask.new.device.books.stop) c.prepare.new.space c.ask.new.space c.args.session c.args.tag c.args.now c.args.call o) c.in-Ok-Drain.field-0-is c.in-Ok-Drain.ensures.noted in c.settle.ensures.promised ∙ ap (λ (x : SpaceBooks). x.promised) off.1 ∙ c.in_ok-prepare.ensures.ok.0)

pub returns-in-Ok-Drain-outcome-clause-promised : goal.returns-in-Ok-Drain-outcome-clause-promised
returns-in-Ok-Drain-outcome-clause-promised g c =
    ap (λ (x : SpaceBooks). x.promised) c.unpromise-2.ensures
    ∙ asked_promises c.ask-outcome.result _ _ c.settle.new.space c.ask-outcome.new.space c.args.session c.args.tag c.args.now c.in-Ok-Drain.call c.args.space.now.promised c.ask-outcome.ensures.noted c.ask-outcome.ensures.no_memory c.requires.free (let off = subst (λ (o : Outcome). HasOutcome (counts_of (g.D.Disk.faults c.prepare.new.device.disk) (g.D.Disk.stops c.prepare.new.device.disk) c.prepare.new.device.books.stop) (counts_of (g.D.Disk.faults c.ask.new.device.disk) (g.D.Disk.stops c.ask.new.device.disk) c.ask.new.device.books.stop) c.prepare.new.space c.ask.new.space c.args.session c.args.tag c.args.now c.args.call o) c.in-Ok-Drain.field-0-is c.in-Ok-Drain.ensures.noted in c.settle.ensures.promised ∙ ap (λ (x : SpaceBooks). x.promised) off.1 ∙ c.in_ok-prepare.ensures.ok.0)

pub returns-clause-promised : goal.returns-clause-promised
returns-clause-promised g c =
    ap (λ (x : SpaceBooks). x.promised) c.unpromise-2.ensures
    ∙ asked_promises c.ask-outcome.result _ _ c.settle.new.space c.ask-outcome.new.space c.args.session c.args.tag c.args.now c.in-Ok-Drain.call c.args.space.now.promised c.ask-outcome.ensures.noted c.ask-outcome.ensures.no_memory c.requires.free (let off = subst (λ (o : Outcome). HasOutcome (counts_of (g.D.Disk.faults c.prepare.new.device.disk) (g.D.Disk.stops c.prepare.new.device.disk) c.prepare.new.device.books.stop) (counts_of (g.D.Disk.faults c.ask.new.device.disk) (g.D.Disk.stops c.ask.new.device.disk) c.ask.new.device.books.stop) c.prepare.new.space c.ask.new.space c.args.session c.args.tag c.args.now c.args.call o) c.in-Ok-Drain.field-0-is c.in-Ok-Drain.ensures.noted in c.settle.ensures.promised ∙ ap (λ (x : SpaceBooks). x.promised) off.1 ∙ c.in_ok-prepare.ensures.ok.0)

-- ---- the disk's counts

pub returns-in_err-prepare-clause-failures : goal.returns-in_err-prepare-clause-failures
returns-in_err-prepare-clause-failures g c =
    failed_none c.args.space.now.view.history c.prepare.new.space.view.history c.args.device.now.books.stop c.prepare.new.device.books.stop (g.D.Disk.faults c.args.device.now.disk) (g.D.Disk.faults c.prepare.new.device.disk) (g.D.Disk.stops c.args.device.now.disk) (g.D.Disk.stops c.prepare.new.device.disk) c.prepare.ensures.history (counts_same c.args.device.now.books.stop c.prepare.new.device.books.stop (g.D.Disk.faults c.args.device.now.disk) (g.D.Disk.faults c.prepare.new.device.disk) (g.D.Disk.stops c.args.device.now.disk) (g.D.Disk.stops c.prepare.new.device.disk) c.prepare.ensures.stop (ap g.D.Disk.faults c.prepare.ensures.disk) (ap g.D.Disk.stops c.prepare.ensures.disk))

pub returns-in-Some-clause-failures : goal.returns-in-Some-clause-failures
returns-in-Some-clause-failures g c =
    let is : c.prepare.new.device.books.stop ≡ Some (record { durable = c.in-Some.field-0.durable; faults = c.in-Some.field-0.faults }) = search rules in
    failed_stopped c.args.space.now.view.history c.note.new.space.view.history c.args.session c.args.tag _ c.args.device.now.books.stop c.prepare.new.device.books.stop (g.D.Disk.faults c.args.device.now.disk) (g.D.Disk.faults c.prepare.new.device.disk) (g.D.Disk.stops c.args.device.now.disk) (g.D.Disk.stops c.prepare.new.device.disk) c.in-Some.field-0.durable c.in-Some.field-0.faults (noted_entry c.prepare.new.space c.note.new.space c.args.space.now.view.history c.args.session c.args.tag c.args.now _ _ _ _ _ c.prepare.ensures.history refl refl c.note.ensures.noted) is (counts_same c.args.device.now.books.stop c.prepare.new.device.books.stop (g.D.Disk.faults c.args.device.now.disk) (g.D.Disk.faults c.prepare.new.device.disk) (g.D.Disk.stops c.args.device.now.disk) (g.D.Disk.stops c.prepare.new.device.disk) c.prepare.ensures.stop (ap g.D.Disk.faults c.prepare.ensures.disk) (ap g.D.Disk.stops c.prepare.ensures.disk))

pub returns-in-Ok-Replied-clause-failures : goal.returns-in-Ok-Replied-clause-failures
returns-in-Ok-Replied-clause-failures g c =
    let going : c.prepare.new.device.books.stop ≡ None = search rules in
    failed_within c.args.space.now.view.history c.prepare.new.space.view.history c.ask.new.space.view.history c.unpromise.new.self.view.history c.args.device.now.books.stop c.prepare.new.device.books.stop c.ask.new.device.books.stop (g.D.Disk.faults c.args.device.now.disk) (g.D.Disk.faults c.prepare.new.device.disk) (g.D.Disk.faults c.ask.new.device.disk) (g.D.Disk.stops c.args.device.now.disk) (g.D.Disk.stops c.prepare.new.device.disk) (g.D.Disk.stops c.ask.new.device.disk) (counts_same c.args.device.now.books.stop c.prepare.new.device.books.stop (g.D.Disk.faults c.args.device.now.disk) (g.D.Disk.faults c.prepare.new.device.disk) (g.D.Disk.stops c.args.device.now.disk) (g.D.Disk.stops c.prepare.new.device.disk) c.prepare.ensures.stop (ap g.D.Disk.faults c.prepare.ensures.disk) (ap g.D.Disk.stops c.prepare.ensures.disk)) c.prepare.ensures.history (ap (λ (x : SpaceBooks). x.view.history) c.unpromise.ensures) (c.ask.ensures.failures going)

pub returns-in-Err-clause-failures : goal.returns-in-Err-clause-failures
returns-in-Err-clause-failures g c =
    let going : c.prepare.new.device.books.stop ≡ None = search rules in
    failed_within c.args.space.now.view.history c.prepare.new.space.view.history c.ask.new.space.view.history c.unpromise-in-Err.new.self.view.history c.args.device.now.books.stop c.prepare.new.device.books.stop c.ask.new.device.books.stop (g.D.Disk.faults c.args.device.now.disk) (g.D.Disk.faults c.prepare.new.device.disk) (g.D.Disk.faults c.ask.new.device.disk) (g.D.Disk.stops c.args.device.now.disk) (g.D.Disk.stops c.prepare.new.device.disk) (g.D.Disk.stops c.ask.new.device.disk) (counts_same c.args.device.now.books.stop c.prepare.new.device.books.stop (g.D.Disk.faults c.args.device.now.disk) (g.D.Disk.faults c.prepare.new.device.disk) (g.D.Disk.stops c.args.device.now.disk) (g.D.Disk.stops c.prepare.new.device.disk) c.prepare.ensures.stop (ap g.D.Disk.faults c.prepare.ensures.disk) (ap g.D.Disk.stops c.prepare.ensures.disk)) c.prepare.ensures.history (ap (λ (x : SpaceBooks). x.view.history) c.unpromise-in-Err.ensures) (c.ask.ensures.failures going)

pub returns-in-Err-settle-clause-failures : goal.returns-in-Err-settle-clause-failures
returns-in-Err-settle-clause-failures g c =
    let going : c.prepare.new.device.books.stop ≡ None = search rules in
    let first = failed_within c.args.space.now.view.history c.prepare.new.space.view.history c.ask.new.space.view.history c.ask.new.space.view.history c.args.device.now.books.stop c.prepare.new.device.books.stop c.ask.new.device.books.stop (g.D.Disk.faults c.args.device.now.disk) (g.D.Disk.faults c.prepare.new.device.disk) (g.D.Disk.faults c.ask.new.device.disk) (g.D.Disk.stops c.args.device.now.disk) (g.D.Disk.stops c.prepare.new.device.disk) (g.D.Disk.stops c.ask.new.device.disk) (counts_same c.args.device.now.books.stop c.prepare.new.device.books.stop (g.D.Disk.faults c.args.device.now.disk) (g.D.Disk.faults c.prepare.new.device.disk) (g.D.Disk.stops c.args.device.now.disk) (g.D.Disk.stops c.prepare.new.device.disk) c.prepare.ensures.stop (ap g.D.Disk.faults c.prepare.ensures.disk) (ap g.D.Disk.stops c.prepare.ensures.disk)) c.prepare.ensures.history refl (c.ask.ensures.failures going) in
    failed_both c.args.space.now.view.history c.ask.new.space.view.history c.note-in-Err-settle.new.space.view.history c.args.device.now.books.stop c.ask.new.device.books.stop c.settle.new.device.books.stop (g.D.Disk.faults c.args.device.now.disk) (g.D.Disk.faults c.ask.new.device.disk) (g.D.Disk.faults c.settle.new.device.disk) (g.D.Disk.stops c.args.device.now.disk) (g.D.Disk.stops c.ask.new.device.disk) (g.D.Disk.stops c.settle.new.device.disk) first
    (failed_step c.ask.new.space.view.history c.note-in-Err-settle.new.space.view.history c.args.session c.args.tag _ c.ask.new.device.books.stop c.settle.new.device.books.stop (g.D.Disk.faults c.ask.new.device.disk) (g.D.Disk.faults c.settle.new.device.disk) (g.D.Disk.stops c.ask.new.device.disk) (g.D.Disk.stops c.settle.new.device.disk) c.in-Err-settle.fault (noted_entry c.settle.new.space c.note-in-Err-settle.new.space c.ask.new.space.view.history c.args.session c.args.tag c.args.now _ _ _ _ _ c.settle.ensures.history refl c.as_reply.ensures c.note-in-Err-settle.ensures.noted) c.in-Err-settle.ensures.fault c.settle.ensures.counts)

pub returns-in-Ok-Replied-outcome-clause-failures : goal.returns-in-Ok-Replied-outcome-clause-failures
returns-in-Ok-Replied-outcome-clause-failures g c =
    let going : c.prepare.new.device.books.stop ≡ None = search rules in
    let first = failed_within c.args.space.now.view.history c.prepare.new.space.view.history c.ask.new.space.view.history c.ask.new.space.view.history c.args.device.now.books.stop c.prepare.new.device.books.stop c.ask.new.device.books.stop (g.D.Disk.faults c.args.device.now.disk) (g.D.Disk.faults c.prepare.new.device.disk) (g.D.Disk.faults c.ask.new.device.disk) (g.D.Disk.stops c.args.device.now.disk) (g.D.Disk.stops c.prepare.new.device.disk) (g.D.Disk.stops c.ask.new.device.disk) (counts_same c.args.device.now.books.stop c.prepare.new.device.books.stop (g.D.Disk.faults c.args.device.now.disk) (g.D.Disk.faults c.prepare.new.device.disk) (g.D.Disk.stops c.args.device.now.disk) (g.D.Disk.stops c.prepare.new.device.disk) c.prepare.ensures.stop (ap g.D.Disk.faults c.prepare.ensures.disk) (ap g.D.Disk.stops c.prepare.ensures.disk)) c.prepare.ensures.history refl (c.ask.ensures.failures going) in
    let going2 : c.settle.new.device.books.stop ≡ None = search rules in
    failed_both c.args.space.now.view.history c.ask.new.space.view.history c.unpromise-2.new.self.view.history c.args.device.now.books.stop c.ask.new.device.books.stop c.ask-outcome.new.device.books.stop (g.D.Disk.faults c.args.device.now.disk) (g.D.Disk.faults c.ask.new.device.disk) (g.D.Disk.faults c.ask-outcome.new.device.disk) (g.D.Disk.stops c.args.device.now.disk) (g.D.Disk.stops c.ask.new.device.disk) (g.D.Disk.stops c.ask-outcome.new.device.disk) first (failed_within c.ask.new.space.view.history c.settle.new.space.view.history c.ask-outcome.new.space.view.history c.unpromise-2.new.self.view.history c.ask.new.device.books.stop c.settle.new.device.books.stop c.ask-outcome.new.device.books.stop (g.D.Disk.faults c.ask.new.device.disk) (g.D.Disk.faults c.settle.new.device.disk) (g.D.Disk.faults c.ask-outcome.new.device.disk) (g.D.Disk.stops c.ask.new.device.disk) (g.D.Disk.stops c.settle.new.device.disk) (g.D.Disk.stops c.ask-outcome.new.device.disk) c.settle.ensures.counts c.settle.ensures.history (ap (λ (x : SpaceBooks). x.view.history) c.unpromise-2.ensures) (c.ask-outcome.ensures.failures going2))

pub returns-in-Ok-Drain-outcome-clause-failures : goal.returns-in-Ok-Drain-outcome-clause-failures
returns-in-Ok-Drain-outcome-clause-failures g c =
    let going : c.prepare.new.device.books.stop ≡ None = search rules in
    let first = failed_within c.args.space.now.view.history c.prepare.new.space.view.history c.ask.new.space.view.history c.ask.new.space.view.history c.args.device.now.books.stop c.prepare.new.device.books.stop c.ask.new.device.books.stop (g.D.Disk.faults c.args.device.now.disk) (g.D.Disk.faults c.prepare.new.device.disk) (g.D.Disk.faults c.ask.new.device.disk) (g.D.Disk.stops c.args.device.now.disk) (g.D.Disk.stops c.prepare.new.device.disk) (g.D.Disk.stops c.ask.new.device.disk) (counts_same c.args.device.now.books.stop c.prepare.new.device.books.stop (g.D.Disk.faults c.args.device.now.disk) (g.D.Disk.faults c.prepare.new.device.disk) (g.D.Disk.stops c.args.device.now.disk) (g.D.Disk.stops c.prepare.new.device.disk) c.prepare.ensures.stop (ap g.D.Disk.faults c.prepare.ensures.disk) (ap g.D.Disk.stops c.prepare.ensures.disk)) c.prepare.ensures.history refl (c.ask.ensures.failures going) in
    let going2 : c.settle.new.device.books.stop ≡ None = search rules in
    failed_both c.args.space.now.view.history c.ask.new.space.view.history c.unpromise-2.new.self.view.history c.args.device.now.books.stop c.ask.new.device.books.stop c.ask-outcome.new.device.books.stop (g.D.Disk.faults c.args.device.now.disk) (g.D.Disk.faults c.ask.new.device.disk) (g.D.Disk.faults c.ask-outcome.new.device.disk) (g.D.Disk.stops c.args.device.now.disk) (g.D.Disk.stops c.ask.new.device.disk) (g.D.Disk.stops c.ask-outcome.new.device.disk) first (failed_within c.ask.new.space.view.history c.settle.new.space.view.history c.ask-outcome.new.space.view.history c.unpromise-2.new.self.view.history c.ask.new.device.books.stop c.settle.new.device.books.stop c.ask-outcome.new.device.books.stop (g.D.Disk.faults c.ask.new.device.disk) (g.D.Disk.faults c.settle.new.device.disk) (g.D.Disk.faults c.ask-outcome.new.device.disk) (g.D.Disk.stops c.ask.new.device.disk) (g.D.Disk.stops c.settle.new.device.disk) (g.D.Disk.stops c.ask-outcome.new.device.disk) c.settle.ensures.counts c.settle.ensures.history (ap (λ (x : SpaceBooks). x.view.history) c.unpromise-2.ensures) (c.ask-outcome.ensures.failures going2))

pub returns-clause-failures : goal.returns-clause-failures
returns-clause-failures g c =
    let going : c.prepare.new.device.books.stop ≡ None = search rules in
    let first = failed_within c.args.space.now.view.history c.prepare.new.space.view.history c.ask.new.space.view.history c.ask.new.space.view.history c.args.device.now.books.stop c.prepare.new.device.books.stop c.ask.new.device.books.stop (g.D.Disk.faults c.args.device.now.disk) (g.D.Disk.faults c.prepare.new.device.disk) (g.D.Disk.faults c.ask.new.device.disk) (g.D.Disk.stops c.args.device.now.disk) (g.D.Disk.stops c.prepare.new.device.disk) (g.D.Disk.stops c.ask.new.device.disk) (counts_same c.args.device.now.books.stop c.prepare.new.device.books.stop (g.D.Disk.faults c.args.device.now.disk) (g.D.Disk.faults c.prepare.new.device.disk) (g.D.Disk.stops c.args.device.now.disk) (g.D.Disk.stops c.prepare.new.device.disk) c.prepare.ensures.stop (ap g.D.Disk.faults c.prepare.ensures.disk) (ap g.D.Disk.stops c.prepare.ensures.disk)) c.prepare.ensures.history refl (c.ask.ensures.failures going) in
    let going2 : c.settle.new.device.books.stop ≡ None = search rules in
    failed_both c.args.space.now.view.history c.ask.new.space.view.history c.unpromise-2.new.self.view.history c.args.device.now.books.stop c.ask.new.device.books.stop c.ask-outcome.new.device.books.stop (g.D.Disk.faults c.args.device.now.disk) (g.D.Disk.faults c.ask.new.device.disk) (g.D.Disk.faults c.ask-outcome.new.device.disk) (g.D.Disk.stops c.args.device.now.disk) (g.D.Disk.stops c.ask.new.device.disk) (g.D.Disk.stops c.ask-outcome.new.device.disk) first (failed_within c.ask.new.space.view.history c.settle.new.space.view.history c.ask-outcome.new.space.view.history c.unpromise-2.new.self.view.history c.ask.new.device.books.stop c.settle.new.device.books.stop c.ask-outcome.new.device.books.stop (g.D.Disk.faults c.ask.new.device.disk) (g.D.Disk.faults c.settle.new.device.disk) (g.D.Disk.faults c.ask-outcome.new.device.disk) (g.D.Disk.stops c.ask.new.device.disk) (g.D.Disk.stops c.settle.new.device.disk) (g.D.Disk.stops c.ask-outcome.new.device.disk) c.settle.ensures.counts c.settle.ensures.history (ap (λ (x : SpaceBooks). x.view.history) c.unpromise-2.ensures) (c.ask-outcome.ensures.failures going2))
