use Rattle.std.proofs.Common.{◌∙◌, rules, ◌≡◌, inl, inr, length, ℕ, List, false, sym, subst, arith}
use Rattle.std.specs.List.{All}
use Rattle.bfs_device.specs.Layouts.{IsData, layout_of}
use Rattle.bfs_tree.specs.declared.call.Call.{Call}
use Rattle.bfs_tree.specs.declared.call.Call.TheVariants.{Hold}
use Rattle.bfs_commit.specs.Entries.{IsStoppedEntry}
use Rattle.bfs_commit.specs.Pieces.{HasHoldIn, HasReleased, HasUntaken, IsHoldIn}
use Rattle.bfs_commit.specs.Held.{HasPlaces}
use Rattle.bfs_commit.proofs.Ends.{not_both}
use Rattle.bfs_file_io.proofs.Gone.{hold_in, is_hold_in, released_cause, released_entries, untaken_cause}
use Rattle.bfs_commit.proofs.Drawn.{drawn_both}
use Rattle.bfs_commit.proofs.Failed.{failed_both}
use Rattle.bfs_file_io.proofs.Lasting.{appended_held}
use Rattle.bfs_commit.proofs.Stays.{promise_over, promise_there}
use Rattle.bfs_file_io.proofs.pieces.read.Goals as goal

pub read_held-requires-clause-promised : goal.read_held-requires-clause-promised
read_held-requires-clause-promised g c = promise_there c.args.piece.session c.args.space.now.promised c.hold.new.space.promised (c.in-Ok-true.ensures.taken c.in-Ok-true.field-0-test).promised

pub returns-clause-promised : goal.returns-clause-promised
returns-clause-promised g c = c.read_held.ensures.promised ∙ promise_over c.args.piece.session c.args.space.now.promised c.hold.new.space.promised c.requires.free (c.in-Ok-true.ensures.taken c.in-Ok-true.field-0-test).promised

pub read_held-requires-clause-held : goal.read_held-requires-clause-held
read_held-requires-clause-held g c =
    let took = c.in-Ok-true.ensures.taken c.in-Ok-true.field-0-test in
    appended_held c.args.space.now.view.history c.hold.new.space.view.history c.args.piece.session c.args.piece.tag c.args.piece.id c.args.piece.at c.args.piece.length took.stamp c.args.piece.write took.appended

pub read_held-requires-clause-going : goal.read_held-requires-clause-going
read_held-requires-clause-going g c = (c.in-Ok-true.ensures.taken c.in-Ok-true.field-0-test).going

pub read_held-requires-clause-blocks : goal.read_held-requires-clause-blocks
read_held-requires-clause-blocks g c =
    let h = c.hold.new in
    let e : c.as_slice.result.now ≡ h.places.items = search rules in
    subst (All (IsData (layout_of h.device.books.sup))) (sym e) (c.in-Ok-true.ensures.taken c.in-Ok-true.field-0-test).blocks

pub read_held-requires-clause-has : goal.read_held-requires-clause-has
read_held-requires-clause-has g c =
    let h = c.hold.new in
    let p = c.args.piece in
    let e : c.as_slice.result.now ≡ h.places.items = search rules in
    subst (HasPlaces h.space.view h.device.books (g.D.Disk.state h.device.disk) p.id p.at p.length) (sym e) (c.in-Ok-true.ensures.taken c.in-Ok-true.field-0-test).has

-- ---- a hold that wasn't taken

pub returns-in-Ok-false-clause-entries : goal.returns-in-Ok-false-clause-entries
returns-in-Ok-false-clause-entries g c =
    let o = c.args.space.now in
    let od = c.args.device.now in
    let h = c.hold.new in
    let p = c.args.piece in
    let call : (Hold p.id p.at p.length p.write) ≡ (Hold p.id p.at (length c.args.into.now) false) = (λ i. Hold p.id p.at (c.requires.long i) (c.requires.way i)) in
    inl (subst (λ (k : Call). HasUntaken o.view.history h.space.view.history p.session p.tag k) call (c.in-Ok-false.ensures.untaken c.in-Ok-false.field-0-test).0)

pub returns-in-Ok-false-clause-noted : goal.returns-in-Ok-false-clause-noted
returns-in-Ok-false-clause-noted g c =
    let o = c.args.space.now in
    let od = c.args.device.now in
    let h = c.hold.new in
    let p = c.args.piece in
    let call : (Hold p.id p.at p.length p.write) ≡ (Hold p.id p.at (length c.args.into.now) false) = (λ i. Hold p.id p.at (c.requires.long i) (c.requires.way i)) in
    subst (λ (k : Call). HasHoldIn o (g.D.Disk.faults od.disk) (g.D.Disk.faults h.device.disk) p.session p.tag k od.books.stop) call (hold_in o h.space (g.D.Disk.faults od.disk) (g.D.Disk.faults h.device.disk) (g.D.Disk.faults h.device.disk) p.session p.tag (Hold p.id p.at p.length p.write) od.books.stop (omega arith) c.in-Ok-false.ensures.noted)

pub returns-in-Ok-false-clause-answered : goal.returns-in-Ok-false-clause-answered
returns-in-Ok-false-clause-answered g c = λ t0 adopted core.
    let o = c.args.space.now in
    let od = c.args.device.now in
    let h = c.hold.new in
    let p = c.args.piece in
    let call : (Hold p.id p.at p.length p.write) ≡ (Hold p.id p.at (length c.args.into.now) false) = (λ i. Hold p.id p.at (c.requires.long i) (c.requires.way i)) in
    subst (λ (k : Call). IsHoldIn t0 o (g.D.Disk.faults od.disk) (g.D.Disk.faults h.device.disk) p.session p.tag k od.books.stop) call (is_hold_in t0 o h.space h.device.books (g.D.Disk.state h.device.disk) (g.D.Disk.faults od.disk) (g.D.Disk.faults h.device.disk) (g.D.Disk.faults h.device.disk) p.session p.tag (Hold p.id p.at p.length p.write) od.books.stop (omega arith) (c.in-Ok-false.ensures.answered t0 adopted core))

pub returns-in-Ok-false-clause-released : goal.returns-in-Ok-false-clause-released
returns-in-Ok-false-clause-released g c =
    let o = c.args.space.now in
    let od = c.args.device.now in
    let h = c.hold.new in
    let p = c.args.piece in
    let call : (Hold p.id p.at p.length p.write) ≡ (Hold p.id p.at (length c.args.into.now) false) = (λ i. Hold p.id p.at (c.requires.long i) (c.requires.way i)) in
    untaken_cause o.view.history h.space.view.history p.session p.tag p.id p.at p.length (g.D.Disk.faults od.disk) (g.D.Disk.faults h.device.disk) p.write od.books.stop (c.in-Ok-false.ensures.untaken c.in-Ok-false.field-0-test).0

pub returns-in-Ok-false-clause-core : goal.returns-in-Ok-false-clause-core
returns-in-Ok-false-clause-core g c = λ t0 adopted core. c.hold.ensures.core t0 adopted core

-- ---- one that was

pub returns-clause-entries : goal.returns-clause-entries
returns-clause-entries g c =
    let o = c.args.space.now in
    let od = c.args.device.now in
    let h = c.hold.new in
    let p = c.args.piece in
    let call : (Hold p.id p.at p.length p.write) ≡ (Hold p.id p.at (length c.args.into.now) false) = (λ i. Hold p.id p.at (c.requires.long i) (c.requires.way i)) in
    let n = c.read_held.new in
    let t = c.in-Ok-true.ensures.taken c.in-Ok-true.field-0-test in
    inr (subst (λ (k : Call). HasReleased o.view.history n.space.view.history p.session p.tag k p.id (λ (given : List ℕ). given ≡ n.into)) call
    (released_entries o.view.history h.space.view.history n.space.view.history p.session p.tag p.id p.at p.length (g.D.Disk.faults h.device.disk) (g.D.Disk.faults n.device.disk) p.write t.stamp n.into t.appended c.read_held.ensures.gone))

pub returns-clause-noted : goal.returns-clause-noted
returns-clause-noted g c =
    let o = c.args.space.now in
    let od = c.args.device.now in
    let h = c.hold.new in
    let p = c.args.piece in
    let call : (Hold p.id p.at p.length p.write) ≡ (Hold p.id p.at (length c.args.into.now) false) = (λ i. Hold p.id p.at (c.requires.long i) (c.requires.way i)) in
    let n = c.read_held.new in
    let t = c.in-Ok-true.ensures.taken c.in-Ok-true.field-0-test in
    subst (λ (k : Call). HasHoldIn o (g.D.Disk.faults od.disk) (g.D.Disk.faults n.device.disk) p.session p.tag k od.books.stop) call (hold_in o h.space (g.D.Disk.faults od.disk) (g.D.Disk.faults h.device.disk) (g.D.Disk.faults n.device.disk) p.session p.tag (Hold p.id p.at p.length p.write) od.books.stop c.read_held.ensures.faults c.in-Ok-true.ensures.noted)

pub returns-clause-answered : goal.returns-clause-answered
returns-clause-answered g c = λ t0 adopted core.
    let o = c.args.space.now in
    let od = c.args.device.now in
    let h = c.hold.new in
    let p = c.args.piece in
    let call : (Hold p.id p.at p.length p.write) ≡ (Hold p.id p.at (length c.args.into.now) false) = (λ i. Hold p.id p.at (c.requires.long i) (c.requires.way i)) in
    let n = c.read_held.new in
    let t = c.in-Ok-true.ensures.taken c.in-Ok-true.field-0-test in
    subst (λ (k : Call). IsHoldIn t0 o (g.D.Disk.faults od.disk) (g.D.Disk.faults n.device.disk) p.session p.tag k od.books.stop) call (is_hold_in t0 o h.space h.device.books (g.D.Disk.state h.device.disk) (g.D.Disk.faults od.disk) (g.D.Disk.faults h.device.disk) (g.D.Disk.faults n.device.disk) p.session p.tag (Hold p.id p.at p.length p.write) od.books.stop c.read_held.ensures.faults (c.in-Ok-true.ensures.answered t0 adopted core))

pub returns-clause-released : goal.returns-clause-released
returns-clause-released g c =
    let o = c.args.space.now in
    let od = c.args.device.now in
    let h = c.hold.new in
    let p = c.args.piece in
    let call : (Hold p.id p.at p.length p.write) ≡ (Hold p.id p.at (length c.args.into.now) false) = (λ i. Hold p.id p.at (c.requires.long i) (c.requires.way i)) in
    let n = c.read_held.new in
    let t = c.in-Ok-true.ensures.taken c.in-Ok-true.field-0-test in
    released_cause h.space.view.history n.space.view.history p.session p.tag p.id (g.D.Disk.faults od.disk) (g.D.Disk.faults h.device.disk) (g.D.Disk.faults n.device.disk) n.into od.books.stop t.begun c.hold.ensures.faults c.read_held.ensures.gone o.view.history

pub returns-clause-core : goal.returns-clause-core
returns-clause-core g c = λ t0 adopted core. c.read_held.ensures.core t0 adopted (c.hold.ensures.core t0 adopted core)

pub returns-clause-stamps : goal.returns-clause-stamps
returns-clause-stamps g c = drawn_both c.args.space.now.view.history c.hold.new.space.view.history c.read_held.new.space.view.history c.args.piece.now c.hold.ensures.stamps c.read_held.ensures.stamps

-- ---- of a device that had stopped

pub returns-in-Ok-false-clause-stopped : goal.returns-in-Ok-false-clause-stopped
returns-in-Ok-false-clause-stopped g c = λ s is.
    let p = c.args.piece in
    let call : (Hold p.id p.at p.length p.write) ≡ (Hold p.id p.at (length c.args.into.now) false) = (λ i. Hold p.id p.at (c.requires.long i) (c.requires.way i)) in
    subst (λ (k : Call). IsStoppedEntry c.args.space.now.view.history c.hold.new.space.view.history p.session p.tag k s) call (c.in-Ok-false.ensures.stopped s is).1

pub returns-clause-stopped : goal.returns-clause-stopped
returns-clause-stopped g c = λ s is. absurd (not_both c.args.device.now.books.stop s (c.in-Ok-true.ensures.taken c.in-Ok-true.field-0-test).begun is)

pub returns-clause-stays_stopped : goal.returns-clause-stays_stopped
returns-clause-stays_stopped g c = λ s is. absurd (not_both c.args.device.now.books.stop s (c.in-Ok-true.ensures.taken c.in-Ok-true.field-0-test).begun is)

-- ---- the disk's counts

pub returns-clause-failures : goal.returns-clause-failures
returns-clause-failures g c =
    failed_both c.args.space.now.view.history c.hold.new.space.view.history c.read_held.new.space.view.history c.args.device.now.books.stop c.hold.new.device.books.stop c.read_held.new.device.books.stop (g.D.Disk.faults c.args.device.now.disk) (g.D.Disk.faults c.hold.new.device.disk) (g.D.Disk.faults c.read_held.new.device.disk) (g.D.Disk.stops c.args.device.now.disk) (g.D.Disk.stops c.hold.new.device.disk) (g.D.Disk.stops c.read_held.new.device.disk) c.hold.ensures.failures c.read_held.ensures.failures

pub returns-in-Ok-false-clause-open : goal.returns-in-Ok-false-clause-open
returns-in-Ok-false-clause-open g c = λ q other o. c.hold.ensures.open q other o

pub returns-clause-open : goal.returns-clause-open
returns-clause-open g c = λ q other o. c.read_held.ensures.open q other (c.hold.ensures.open q other o)
