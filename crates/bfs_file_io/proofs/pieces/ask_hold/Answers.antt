use Rattle.std.proofs.Common.{rules, ◌≡◌, ◌∙◌, ap, Some, refl, sym, subst, IfOk, ◌≤◌}
use Rattle.std.specs.Option.{option_map}
use Rattle.bfs_device.specs.Books.{View, Books}
use Rattle.bfs_device.specs.Data.{IsRested}
use Rattle.bfs_core.specs.Cores.{newest_map}
use Rattle.bfs_device_blocks.specs.Lent.{AreSized, HasCore, Lent}
use Rattle.bfs_device_blocks.proofs.Holding.{sized_so}
use Rattle.bfs_commit.specs.Open.{IsOpen}
use Rattle.bfs_commit.specs.Volumes.{AreJoined}
use Rattle.bfs_commit.proofs.Asked.{core_asked, face_there, faced, joined_asked, size_is}
use Rattle.bfs_tree.specs.declared.call.Call.TheVariants.{Hold}
use Rattle.bfs_commit.proofs.Opens.{open_asked}
use Rattle.bfs_commit.proofs.Stays.{no_sync}
use Rattle.bfs_commit.proofs.Drawn.{drawn_outcome}
use Rattle.bfs_commit.proofs.Failed.{failed_outcome}
use Rattle.bfs_commit.specs.Faces.{HasOutcome}
use Rattle.bfs_commit.specs.Entries.{counts_of}
use Rattle.bfs_commit.specs.Failing.{HasFailures}
use Rattle.bfs_file_io.proofs.pieces.ask_hold.Goals as goal

pub hold-outcome-requires-clause-size : goal.hold-outcome-requires-clause-size
hold-outcome-requires-clause-size g c = ap (λ (x : View g.row.D.Denot). x.books.sup.block_size) c.over-blocks.ensures.device_now ∙ size_is c.args.space.now c.args.device.now.books c.requires.joined.fitted

pub hold-outcome-requires-clause-faced : goal.hold-outcome-requires-clause-faced
hold-outcome-requires-clause-faced g c = λ m at.
    faced c.args.space.now c.args.device.now.books (g.D.Disk.state c.args.device.now.disk) m c.requires.joined
    (subst (λ (x : View g.row.D.Denot). option_map (newest_map x.books) (g.D.Disk.state x.disk) ≡ Some m) c.over-blocks.ensures.device_now at)

pub returns-clause-joined : goal.returns-clause-joined
returns-clause-joined g c =
    let u = c.hold-outcome.new.under in
    let old = c.args.device.now in
    let sp = c.args.space.now in
    let space = c.hold-outcome.new.self in
    let same : c.hold-outcome.new.under.device.ghost_name ≡ c.over-blocks.result.device.ghost_name = ap (λ (n : Lent g.row.D.Denot). n.name) c.hold-outcome.ensures.note in
    let named : c.hold-outcome.new.under.device.ghost_name ≡ c.over-arg-1.given = same ∙ c.over-blocks.ensures.device in
    let back : c.device-1.given.0 ≡ c.hold-outcome.new.under.device.now = search rules in
    let began : u.start.value ≡ c.args.device.now = ap (λ (n : Lent g.row.D.Denot). n.start) c.hold-outcome.ensures.note ∙ c.over-blocks.ensures.start in
    let rests : IsRested old.books u.device.now.books = subst (λ (x : View g.row.D.Denot). IsRested x.books u.device.now.books) began c.done.ensures.rests in
    let state : g.D.Disk.state u.device.now.disk ≡ g.D.Disk.state old.disk = c.done.ensures.state ∙ ap (λ (x : View g.row.D.Denot). g.D.Disk.state x.disk) began in
    subst (λ (x : View g.row.D.Denot). AreJoined space x.books (g.D.Disk.state x.disk)) (sym back)
    (joined_asked sp space old.books u.device.now.books (g.D.Disk.state old.disk) (g.D.Disk.state u.device.now.disk) c.args.piece.session c.args.piece.tag c.args.piece.now (Hold c.args.piece.id c.args.piece.at c.args.piece.length c.args.piece.write) c.hold-outcome.result _ _ rests state (no_sync c.args.piece.id c.args.piece.at c.args.piece.length c.args.piece.write) c.entered_keeps_files.ensures refl c.hold-outcome.ensures.noted c.hold-outcome.ensures.no_memory
    (λ t m at face. c.hold-outcome.ensures.entered t m (subst (λ (x : View g.row.D.Denot). option_map (newest_map x.books) (g.D.Disk.state x.disk) ≡ Some m) (sym c.over-blocks.ensures.device_now) at) face)
    (λ t m at face counts. c.hold-outcome.ensures.counted t m (subst (λ (x : View g.row.D.Denot). option_map (newest_map x.books) (g.D.Disk.state x.disk) ≡ Some m) (sym c.over-blocks.ensures.device_now) at) face counts) c.requires.joined)

pub returns-clause-open : goal.returns-clause-open
returns-clause-open g c = λ p other o.
    let u = c.hold-outcome.new.under in
    let old = c.args.device.now in
    let sp = c.args.space.now in
    let space = c.hold-outcome.new.self in
    let same : c.hold-outcome.new.under.device.ghost_name ≡ c.over-blocks.result.device.ghost_name = ap (λ (n : Lent g.row.D.Denot). n.name) c.hold-outcome.ensures.note in
    let named : c.hold-outcome.new.under.device.ghost_name ≡ c.over-arg-1.given = same ∙ c.over-blocks.ensures.device in
    let back : c.device-1.given.0 ≡ c.hold-outcome.new.under.device.now = search rules in
    let began : u.start.value ≡ c.args.device.now = ap (λ (n : Lent g.row.D.Denot). n.start) c.hold-outcome.ensures.note ∙ c.over-blocks.ensures.start in
    let rests : IsRested old.books u.device.now.books = subst (λ (x : View g.row.D.Denot). IsRested x.books u.device.now.books) began c.done.ensures.rests in
    let state : g.D.Disk.state u.device.now.disk ≡ g.D.Disk.state old.disk = c.done.ensures.state ∙ ap (λ (x : View g.row.D.Denot). g.D.Disk.state x.disk) began in
    subst (λ (x : View g.row.D.Denot). IsOpen p space.view x.books (g.D.Disk.state x.disk)) (sym back)
    (open_asked p sp space old.books u.device.now.books (g.D.Disk.state old.disk) (g.D.Disk.state u.device.now.disk) c.args.piece.session c.args.piece.tag c.args.piece.now (Hold c.args.piece.id c.args.piece.at c.args.piece.length c.args.piece.write) c.hold-outcome.result _ _ rests state c.hold-outcome.ensures.noted c.hold-outcome.ensures.no_memory
    (λ t m at face. c.hold-outcome.ensures.entered t m (subst (λ (x : View g.row.D.Denot). option_map (newest_map x.books) (g.D.Disk.state x.disk) ≡ Some m) (sym c.over-blocks.ensures.device_now) at) face)
    other c.requires.joined o)

pub returns-clause-core : goal.returns-clause-core
returns-clause-core g c = λ t0 adopted core.
    let u = c.hold-outcome.new.under in
    let old = c.args.device.now in
    let sp = c.args.space.now in
    let space = c.hold-outcome.new.self in
    let same : c.hold-outcome.new.under.device.ghost_name ≡ c.over-blocks.result.device.ghost_name = ap (λ (n : Lent g.row.D.Denot). n.name) c.hold-outcome.ensures.note in
    let named : c.hold-outcome.new.under.device.ghost_name ≡ c.over-arg-1.given = same ∙ c.over-blocks.ensures.device in
    let back : c.device-1.given.0 ≡ c.hold-outcome.new.under.device.now = search rules in
    let began : u.start.value ≡ c.args.device.now = ap (λ (n : Lent g.row.D.Denot). n.start) c.hold-outcome.ensures.note ∙ c.over-blocks.ensures.start in
    let rests : IsRested old.books u.device.now.books = subst (λ (x : View g.row.D.Denot). IsRested x.books u.device.now.books) began c.done.ensures.rests in
    let state : g.D.Disk.state u.device.now.disk ≡ g.D.Disk.state old.disk = c.done.ensures.state ∙ ap (λ (x : View g.row.D.Denot). g.D.Disk.state x.disk) began in
    let sized : AreSized u.device.now.books (g.D.Disk.state u.device.now.disk) =
    subst (λ (x : View g.row.D.Denot). AreSized x.books (g.D.Disk.state x.disk)) back
    (sized_so c.device-1.given.0.books (g.D.Disk.size c.device-1.given.0.disk) (g.D.Disk.state c.device-1.given.0.disk) (g.met.D.Disk.filled c.device-1.given.0.disk) (g.met.D.Disk.sized c.device-1.given.0.disk) c.steady-2.ensures.on_disk) in
    let first = subst (λ (x : View g.row.D.Denot). HasCore t0 adopted sp.view x.books (g.D.Disk.state x.disk) (g.D.Disk.clock x.disk) (g.D.Disk.since x.disk)) (sym began) core in
    subst (λ (x : View g.row.D.Denot). HasCore t0 adopted space.view x.books (g.D.Disk.state x.disk) (g.D.Disk.clock x.disk) (g.D.Disk.since x.disk)) (sym back)
    (core_asked sp space old.books u.device.now.books (g.D.Disk.state old.disk) (g.D.Disk.state u.device.now.disk) c.args.piece.session c.args.piece.tag c.args.piece.now (Hold c.args.piece.id c.args.piece.at c.args.piece.length c.args.piece.write) c.hold-outcome.result _ _ rests state (no_sync c.args.piece.id c.args.piece.at c.args.piece.length c.args.piece.write) c.entered_keeps_files.ensures refl c.hold-outcome.ensures.noted c.hold-outcome.ensures.no_memory
    (λ t m at face. c.hold-outcome.ensures.entered t m (subst (λ (x : View g.row.D.Denot). option_map (newest_map x.books) (g.D.Disk.state x.disk) ≡ Some m) (sym c.over-blocks.ensures.device_now) at) face)
    t0 adopted (g.D.Disk.clock u.device.now.disk) (g.D.Disk.since u.device.now.disk) c.requires.joined sized (c.done.ensures.core t0 adopted sp.view first))

pub returns-clause-piece : goal.returns-clause-piece
returns-clause-piece g c = λ st is.
    let old = c.args.device.now in
    let there = face_there c.args.space.now old.books (g.D.Disk.state old.disk) st c.requires.joined is in
    c.hold-outcome.ensures.piece there.t0 (newest_map old.books st) (subst (λ (x : View g.row.D.Denot). option_map (newest_map x.books) (g.D.Disk.state x.disk) ≡ Some (newest_map old.books st)) (sym c.over-blocks.ensures.device_now) (ap (option_map (newest_map old.books)) is)) there.face

pub returns-clause-stamps : goal.returns-clause-stamps
returns-clause-stamps g c =
    let p = c.args.piece in
    drawn_outcome _ _ c.args.space.now c.hold-outcome.new.self p.session p.tag p.now (Hold p.id p.at p.length p.write) c.hold-outcome.result c.hold-outcome.ensures.noted c.hold-outcome.ensures.no_memory

pub returns-clause-failures : goal.returns-clause-failures
returns-clause-failures g c = λ going.
    let u = c.hold-outcome.new.under in
    let old = c.args.device.now in
    let sp = c.args.space.now in
    let space = c.hold-outcome.new.self in
    let same : c.hold-outcome.new.under.device.ghost_name ≡ c.over-blocks.result.device.ghost_name = ap (λ (n : Lent g.row.D.Denot). n.name) c.hold-outcome.ensures.note in
    let named : c.hold-outcome.new.under.device.ghost_name ≡ c.over-arg-1.given = same ∙ c.over-blocks.ensures.device in
    let back : c.device-1.given.0 ≡ c.hold-outcome.new.under.device.now = search rules in
    let began : u.start.value ≡ c.args.device.now = ap (λ (n : Lent g.row.D.Denot). n.start) c.hold-outcome.ensures.note ∙ c.over-blocks.ensures.start in
    let rests : IsRested old.books u.device.now.books = subst (λ (x : View g.row.D.Denot). IsRested x.books u.device.now.books) began c.done.ensures.rests in
    let noted = subst (λ (x : View g.row.D.Denot). IfOk c.hold-outcome.result (HasOutcome (counts_of (g.D.Disk.faults x.disk) (g.D.Disk.stops x.disk) x.books.stop) (counts_of (g.D.Disk.faults u.device.now.disk) (g.D.Disk.stops u.device.now.disk) u.device.now.books.stop) sp space c.args.piece.session c.args.piece.tag c.args.piece.now (Hold c.args.piece.id c.args.piece.at c.args.piece.length c.args.piece.write))) c.over-blocks.ensures.device_now c.hold-outcome.ensures.noted in
    subst (λ (x : View g.row.D.Denot). HasFailures sp.view.history space.view.history old.books.stop x.books.stop (g.D.Disk.faults old.disk) (g.D.Disk.faults x.disk) (g.D.Disk.stops old.disk) (g.D.Disk.stops x.disk)) (sym back)
    (failed_outcome (g.D.Disk.faults old.disk) (g.D.Disk.faults u.device.now.disk) (g.D.Disk.stops old.disk) (g.D.Disk.stops u.device.now.disk) sp space old.books u.device.now.books c.args.piece.session c.args.piece.tag c.args.piece.now (Hold c.args.piece.id c.args.piece.at c.args.piece.length c.args.piece.write) c.hold-outcome.result refl going (ap (λ (x : Books). x.stop) rests) c.steady.ensures.stop c.requires.joined.fitted
    (subst (λ (x : View g.row.D.Denot). g.D.Disk.faults x.disk ≤ g.D.Disk.faults u.device.now.disk) began c.done.ensures.faults) (c.done.ensures.stops ∙ ap (λ (x : View g.row.D.Denot). g.D.Disk.stops x.disk) began) noted c.hold-outcome.ensures.no_memory)
