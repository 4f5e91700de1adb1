use Rattle.std.proofs.Common.{rules, ◌≡◌, ◌∙◌, ap, length, refl, subst, sym, true, false}
use Rattle.std.specs.Prelude.{IfOk}
use Rattle.std.proofs.lemmas.Result.{IfOk-weaker}
use Rattle.bfs_tree.specs.declared.call.Call.TheVariants.{Hold}
use Rattle.bfs_file_io.specs.Holds.{held_by}
use Rattle.bfs_volume.specs.declared.event.Event.{Event}
use Rattle.bfs_volume.specs.declared.event.Happened.{Happened}
use Rattle.bfs_volume.specs.declared.event.Happened.TheVariants as happens
use Rattle.bfs_file_io.specs.declared.pieces.Piece.{Piece}
use Rattle.bfs_file_io.specs.Entries.{IsStoppedEntry}
use Rattle.bfs_volume.specs.Events.{HasReplied, IsAsked, IsCalled, IsHappened, IsStoppedEvent, Opens, IsOneCall}
use Rattle.bfs_volume.proofs.Happens.{opens_as}
use Rattle.bfs_volume.proofs.Others.{kept_all}
use Rattle.bfs_volume.proofs.event.make_event.Goals as goal

-- ---- a call

pub returns-in-Call-clause-stopped : goal.returns-in-Call-clause-stopped
returns-in-Call-clause-stopped g c = λ s is.
    subst (λ (e : Event). IfOk c.call_event.result (IsStoppedEvent c.args.space.now.view.history c.call_event.new.space.view.history s e)) (sym c.in-Call.is) (c.call_event.ensures.stopped s is)

-- ---- a hold to write

pub returns-in-HoldWrite-clause-happened : goal.returns-in-HoldWrite-clause-happened
returns-in-HoldWrite-clause-happened g c =
    let piece : c.to_hold-piece.result ≡ record { session = c.in-HoldWrite.session; tag = c.in-HoldWrite.tag; now = c.args.now; id = c.in-HoldWrite.id; at = c.in-HoldWrite.at; length = (length c.in-HoldWrite.bytes); write = true } = search rules in
    let asked = subst (λ (p : Piece). IfOk c.hold_event.result (IsAsked c.args.space.now c.hold_event.new.space c.args.device.now.books.stop (g.D.Disk.faults c.args.device.now.disk) (g.D.Disk.faults c.hold_event.new.device.disk) p.session p.tag (Hold p.id p.at p.length p.write))) piece c.hold_event.ensures.asked in
    let opens = subst (λ (p : Piece). Opens c.args.space.now.view.history c.hold_event.new.space.view.history c.args.pieces.now.items c.hold_event.new.pieces.items (record { session = p.session; id = p.id; at = p.at; length = p.length; write = p.write }) (λ given. given ≡ c.into_vec-bytes.result.items)) piece c.hold_event.ensures.opens in
    subst (λ (e : Event). IfOk c.hold_event.result (IsHappened c.args.space.now c.hold_event.new.space c.args.pieces.now.items c.hold_event.new.pieces.items c.args.device.now.books c.hold_event.new.device.books (g.D.Disk.faults c.args.device.now.disk) (g.D.Disk.faults c.hold_event.new.device.disk) (g.D.Disk.stops c.args.device.now.disk) (g.D.Disk.stops c.hold_event.new.device.disk) e)) (sym c.in-HoldWrite.is)
    (IfOk-weaker c.hold_event.result _ _ (λ h is. (is, opens_as c.args.space.now.view.history c.hold_event.new.space.view.history c.args.pieces.now.items c.hold_event.new.pieces.items (record { session = c.in-HoldWrite.session; id = c.in-HoldWrite.id; at = c.in-HoldWrite.at; length = (length c.in-HoldWrite.bytes); write = true }) (λ given. given ≡ c.into_vec-bytes.result.items) (λ given. given ≡ c.in-HoldWrite.bytes) (λ given is. is ∙ c.into_vec-bytes.ensures) opens)) asked)

pub returns-in-HoldWrite-clause-replied : goal.returns-in-HoldWrite-clause-replied
returns-in-HoldWrite-clause-replied g c = λ t0 adopted core.
    let piece : c.to_hold-piece.result ≡ record { session = c.in-HoldWrite.session; tag = c.in-HoldWrite.tag; now = c.args.now; id = c.in-HoldWrite.id; at = c.in-HoldWrite.at; length = (length c.in-HoldWrite.bytes); write = true } = search rules in
    let replied = subst (λ (p : Piece). IfOk c.hold_event.result (IsCalled t0 c.args.space.now c.hold_event.new.space c.args.device.now.books c.hold_event.new.device.books (g.D.Disk.state c.hold_event.new.device.disk) (g.D.Disk.faults c.args.device.now.disk) (g.D.Disk.faults c.hold_event.new.device.disk) p.session p.tag (Hold p.id p.at p.length p.write))) piece (c.hold_event.ensures.replied t0 adopted core) in
    subst (λ (e : Event). IfOk c.hold_event.result (HasReplied t0 c.args.space.now c.hold_event.new.space c.args.device.now.books c.hold_event.new.device.books (g.D.Disk.state c.hold_event.new.device.disk) (g.D.Disk.faults c.args.device.now.disk) (g.D.Disk.faults c.hold_event.new.device.disk) e)) (sym c.in-HoldWrite.is) replied

pub returns-in-HoldWrite-clause-stopped : goal.returns-in-HoldWrite-clause-stopped
returns-in-HoldWrite-clause-stopped g c = λ s is.
    let piece : c.to_hold-piece.result ≡ record { session = c.in-HoldWrite.session; tag = c.in-HoldWrite.tag; now = c.args.now; id = c.in-HoldWrite.id; at = c.in-HoldWrite.at; length = (length c.in-HoldWrite.bytes); write = true } = search rules in
    let stopped = subst (λ (p : Piece). IfOk c.hold_event.result (λ (h : Happened). (h ≡ happens.Replied) × IsStoppedEntry c.args.space.now.view.history c.hold_event.new.space.view.history p.session p.tag (Hold p.id p.at p.length p.write) s)) piece (c.hold_event.ensures.stopped s is) in
    subst (λ (e : Event). IfOk c.hold_event.result (IsStoppedEvent c.args.space.now.view.history c.hold_event.new.space.view.history s e)) (sym c.in-HoldWrite.is) stopped

-- ---- a hold to read

pub returns-in-Ok-clause-happened : goal.returns-in-Ok-clause-happened
returns-in-Ok-clause-happened g c =
    let long : length c.in-Ok.bytes.items ≡ c.in-HoldRead.length = search rules in
    let piece : c.to_hold-piece-in-HoldRead.result ≡ record { session = c.in-HoldRead.session; tag = c.in-HoldRead.tag; now = c.args.now; id = c.in-HoldRead.id; at = c.in-HoldRead.at; length = c.in-HoldRead.length; write = false } = search rules in
    let asked = subst (λ (p : Piece). IfOk c.hold_event-in-HoldRead.result (IsAsked c.args.space.now c.hold_event-in-HoldRead.new.space c.args.device.now.books.stop (g.D.Disk.faults c.args.device.now.disk) (g.D.Disk.faults c.hold_event-in-HoldRead.new.device.disk) p.session p.tag (Hold p.id p.at p.length p.write))) piece c.hold_event-in-HoldRead.ensures.asked in
    let opens = subst (λ (p : Piece). Opens c.args.space.now.view.history c.hold_event-in-HoldRead.new.space.view.history c.args.pieces.now.items c.hold_event-in-HoldRead.new.pieces.items (record { session = p.session; id = p.id; at = p.at; length = p.length; write = p.write }) (λ given. given ≡ c.in-Ok.bytes.items)) piece c.hold_event-in-HoldRead.ensures.opens in
    subst (λ (e : Event). IfOk c.hold_event-in-HoldRead.result (IsHappened c.args.space.now c.hold_event-in-HoldRead.new.space c.args.pieces.now.items c.hold_event-in-HoldRead.new.pieces.items c.args.device.now.books c.hold_event-in-HoldRead.new.device.books (g.D.Disk.faults c.args.device.now.disk) (g.D.Disk.faults c.hold_event-in-HoldRead.new.device.disk) (g.D.Disk.stops c.args.device.now.disk) (g.D.Disk.stops c.hold_event-in-HoldRead.new.device.disk) e)) (sym c.in-HoldRead.is)
    (IfOk-weaker c.hold_event-in-HoldRead.result _ _ (λ h is. (is, opens_as c.args.space.now.view.history c.hold_event-in-HoldRead.new.space.view.history c.args.pieces.now.items c.hold_event-in-HoldRead.new.pieces.items (record { session = c.in-HoldRead.session; id = c.in-HoldRead.id; at = c.in-HoldRead.at; length = c.in-HoldRead.length; write = false }) (λ given. given ≡ c.in-Ok.bytes.items) (λ given. length given ≡ c.in-HoldRead.length) (λ given is. ap length is ∙ long) opens)) asked)

pub returns-in-Ok-clause-replied : goal.returns-in-Ok-clause-replied
returns-in-Ok-clause-replied g c = λ t0 adopted core.
    let long : length c.in-Ok.bytes.items ≡ c.in-HoldRead.length = search rules in
    let piece : c.to_hold-piece-in-HoldRead.result ≡ record { session = c.in-HoldRead.session; tag = c.in-HoldRead.tag; now = c.args.now; id = c.in-HoldRead.id; at = c.in-HoldRead.at; length = c.in-HoldRead.length; write = false } = search rules in
    let replied = subst (λ (p : Piece). IfOk c.hold_event-in-HoldRead.result (IsCalled t0 c.args.space.now c.hold_event-in-HoldRead.new.space c.args.device.now.books c.hold_event-in-HoldRead.new.device.books (g.D.Disk.state c.hold_event-in-HoldRead.new.device.disk) (g.D.Disk.faults c.args.device.now.disk) (g.D.Disk.faults c.hold_event-in-HoldRead.new.device.disk) p.session p.tag (Hold p.id p.at p.length p.write))) piece (c.hold_event-in-HoldRead.ensures.replied t0 adopted core) in
    subst (λ (e : Event). IfOk c.hold_event-in-HoldRead.result (HasReplied t0 c.args.space.now c.hold_event-in-HoldRead.new.space c.args.device.now.books c.hold_event-in-HoldRead.new.device.books (g.D.Disk.state c.hold_event-in-HoldRead.new.device.disk) (g.D.Disk.faults c.args.device.now.disk) (g.D.Disk.faults c.hold_event-in-HoldRead.new.device.disk) e)) (sym c.in-HoldRead.is) replied

pub returns-in-Ok-clause-stopped : goal.returns-in-Ok-clause-stopped
returns-in-Ok-clause-stopped g c = λ s is.
    let long : length c.in-Ok.bytes.items ≡ c.in-HoldRead.length = search rules in
    let piece : c.to_hold-piece-in-HoldRead.result ≡ record { session = c.in-HoldRead.session; tag = c.in-HoldRead.tag; now = c.args.now; id = c.in-HoldRead.id; at = c.in-HoldRead.at; length = c.in-HoldRead.length; write = false } = search rules in
    let stopped = subst (λ (p : Piece). IfOk c.hold_event-in-HoldRead.result (λ (h : Happened). (h ≡ happens.Replied) × IsStoppedEntry c.args.space.now.view.history c.hold_event-in-HoldRead.new.space.view.history p.session p.tag (Hold p.id p.at p.length p.write) s)) piece (c.hold_event-in-HoldRead.ensures.stopped s is) in
    subst (λ (e : Event). IfOk c.hold_event-in-HoldRead.result (IsStoppedEvent c.args.space.now.view.history c.hold_event-in-HoldRead.new.space.view.history s e)) (sym c.in-HoldRead.is) stopped

-- ---- the next block of a piece

pub returns-in-Piece-clause-stopped : goal.returns-in-Piece-clause-stopped
returns-in-Piece-clause-stopped g c = λ s is.
    subst (λ (e : Event). IfOk c.make_piece.result (IsStoppedEvent c.args.space.now.view.history c.args.space.now.view.history s e)) (sym c.in-Piece.is) (IfOk-weaker c.make_piece.result _ _ (λ h made. (made, refl)) (c.make_piece.ensures.stopped s is))

pub returns-in-Piece-clause-one : goal.returns-in-Piece-clause-one
returns-in-Piece-clause-one g c = λ some.
    subst (λ (e : Event). IfOk c.make_piece.result (IsOneCall c.args.space.now.view.sup.block_size c.args.pieces.now.items (g.D.Disk.clock c.args.device.now.disk) (g.D.Disk.clock c.make_piece.new.device.disk) e)) (sym c.in-Piece.is) (c.make_piece.ensures.one some)

-- ---- a seal and a step of the device

pub returns-in-Ok-seal_open-clause-open : goal.returns-in-Ok-seal_open-clause-open
returns-in-Ok-seal_open-clause-open g c = kept_all c.args.pieces.now.items c.args.space.now c.seal_open.new.space c.args.device.now.books c.seal_open.new.device.books (g.D.Disk.state c.args.device.now.disk) (g.D.Disk.state c.seal_open.new.device.disk) c.seal_open.ensures.promised (ap held_by c.seal_open.ensures.history) c.seal_open.ensures.open c.requires.open

pub returns-in-Ok-step-clause-open : goal.returns-in-Ok-step-clause-open
returns-in-Ok-step-clause-open g c = kept_all c.args.pieces.now.items c.args.space.now c.step.new.space c.args.device.now.books c.step.new.device.books (g.D.Disk.state c.args.device.now.disk) (g.D.Disk.state c.step.new.device.disk) c.step.ensures.promised (ap held_by c.step.ensures.history) c.step.ensures.open c.requires.open

pub returns-in-Err-seal_open-clause-open : goal.returns-in-Err-seal_open-clause-open
returns-in-Err-seal_open-clause-open g c = kept_all c.args.pieces.now.items c.args.space.now c.seal_open.new.space c.args.device.now.books c.seal_open.new.device.books (g.D.Disk.state c.args.device.now.disk) (g.D.Disk.state c.seal_open.new.device.disk) c.seal_open.ensures.promised (ap held_by c.seal_open.ensures.history) c.seal_open.ensures.open c.requires.open

pub returns-in-Err-step-clause-open : goal.returns-in-Err-step-clause-open
returns-in-Err-step-clause-open g c = kept_all c.args.pieces.now.items c.args.space.now c.step.new.space c.args.device.now.books c.step.new.device.books (g.D.Disk.state c.args.device.now.disk) (g.D.Disk.state c.step.new.device.disk) c.step.ensures.promised (ap held_by c.step.ensures.history) c.step.ensures.open c.requires.open
