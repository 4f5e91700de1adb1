use Rattle.std.proofs.Common.{rules, ◌≡◌, ◌∙◌, ℕ, List, length, Option, IfErr, OnOk, sym, ap, subst}
use Rattle.bfs_device.specs.declared.journal.Stop.{Stop}
use Rattle.bfs_commit.specs.Places.{piece_blocks}
use Rattle.bfs_pieces.specs.Pieces.{HasPieceCause}
use Rattle.bfs_commit.specs.Held.{HasGone, HasPlaces, IsOnDisk}
use Rattle.bfs_commit.proofs.Asked.{size_is}
use Rattle.bfs_file_io.proofs.Lasting.{in_writing, last_one}
use Rattle.bfs_file_io.proofs.Written.{none_waits}
use Rattle.bfs_file_io.proofs.Gone.{gone_by}
use Rattle.bfs_commit.proofs.Failed.{failed_gone}
use Rattle.bfs_commit.proofs.Taken.{hold_as}
use Rattle.bfs_commit.specs.Holds.{held_by}
use Rattle.bfs_file_io.proofs.pieces.write_held.Goals as goal

pub write_bytes-made-requires-clause-many : goal.write_bytes-made-requires-clause-many
write_bytes-made-requires-clause-many g c =
    let size = size_is c.args.space.now c.args.device.now.books c.requires.joined.fitted in
    c.requires.has.many ∙ (λ i. piece_blocks (sym size i) c.args.piece.at (sym c.requires.long i))

pub let_go-requires-clause-joined : goal.let_go-requires-clause-joined
let_go-requires-clause-joined g c =
    let sp = c.args.space.now in
    let p = c.args.piece in
    let writing = in_writing sp.view.history p.session p.id p.at p.length (length c.args.bytes.now) p.write c.requires.writes (sym c.requires.long) c.requires.held in
    let has = subst (λ (n : ℕ). HasPlaces sp.view c.args.device.now.books (g.D.Disk.state c.args.device.now.disk) p.id p.at n c.args.places.now) (sym c.requires.long) c.requires.has in
    (c.write_bytes-made.ensures.joined sp p.id c.requires.joined c.size_of-size.ensures.volume writing has).0

pub let_go-requires-clause-on : goal.let_go-requires-clause-on
let_go-requires-clause-on g c =
    let sp = c.args.space.now in
    let p = c.args.piece in
    let d = c.write_bytes-made.new.device in
    let writing = in_writing sp.view.history p.session p.id p.at p.length (length c.args.bytes.now) p.write c.requires.writes (sym c.requires.long) c.requires.held in
    let has = subst (λ (n : ℕ). HasPlaces sp.view c.args.device.now.books (g.D.Disk.state c.args.device.now.disk) p.id p.at n c.args.places.now) (sym c.requires.long) c.requires.has in
    subst (λ (bytes : List ℕ). OnOk c.write_bytes-made.result (IsOnDisk sp.view d.books (g.D.Disk.state d.disk) p.id p.at bytes)) (sym c.requires.copy) (c.write_bytes-made.ensures.joined sp p.id c.requires.joined c.size_of-size.ensures.volume writing has).1

pub let_go-requires-clause-many : goal.let_go-requires-clause-many
let_go-requires-clause-many g c = ap length c.requires.copy ∙ c.requires.long

pub returns-clause-gone : goal.returns-clause-gone
returns-clause-gone g c =
    let sp = c.args.space.now in
    let p = c.args.piece in
    let old = c.args.device.now in
    let d = c.write_bytes-made.new.device in
    let cause = subst (λ (s : Option Stop). IfErr c.write_bytes-made.result (HasPieceCause s (g.D.Disk.faults old.disk) (g.D.Disk.faults d.disk))) c.requires.going c.write_bytes-made.ensures.cause in
    subst (HasGone sp.view.history c.let_go.new.space.view.history p.session p.tag p.id (g.D.Disk.faults old.disk) (g.D.Disk.faults d.disk)) c.requires.copy
    (gone_by sp.view.history c.let_go.new.space.view.history p.session p.tag p.id (g.D.Disk.faults old.disk) (g.D.Disk.faults d.disk) c.args.copy.items c.write_bytes-made.result c.let_go.ensures.gone cause)

pub returns-clause-core : goal.returns-clause-core
returns-clause-core g c = λ t0 adopted core.
    let sp = c.args.space.now in
    let p = c.args.piece in
    let writing = in_writing sp.view.history p.session p.id p.at p.length (length c.args.bytes.now) p.write c.requires.writes (sym c.requires.long) c.requires.held in
    let has = subst (λ (n : ℕ). HasPlaces sp.view c.args.device.now.books (g.D.Disk.state c.args.device.now.disk) p.id p.at n c.args.places.now) (sym c.requires.long) c.requires.has in
    c.let_go.ensures.core t0 adopted (c.write_bytes-made.ensures.core t0 adopted sp p.id c.requires.joined c.size_of-size.ensures.volume writing has core)

pub write_bytes-made-requires-clause-buffer : goal.write_bytes-made-requires-clause-buffer
write_bytes-made-requires-clause-buffer g c =
    let size : c.args.device.now.books.sup.block_size ≡ c.args.space.now.view.sup.block_size = size_is c.args.space.now c.args.device.now.books c.requires.joined.fitted in
    let is : c.size_of-size.result ≡ c.args.space.now.view.sup.block_size = c.size_of-size.ensures.value in
    search rules

pub returns-clause-failures : goal.returns-clause-failures
returns-clause-failures g c =
    failed_gone c.args.space.now.view.history c.let_go.new.space.view.history c.args.piece.session c.args.piece.tag c.args.piece.id c.args.bytes.now c.args.device.now.books.stop c.write_bytes-made.new.device.books.stop (g.D.Disk.faults c.args.device.now.disk) (g.D.Disk.faults c.write_bytes-made.new.device.disk) (g.D.Disk.stops c.args.device.now.disk) (g.D.Disk.stops c.write_bytes-made.new.device.disk) (returns-clause-gone g c) c.write_bytes-made.ensures.counts

pub write_bytes-made-requires-clause-apart : goal.write_bytes-made-requires-clause-apart
write_bytes-made-requires-clause-apart g c = none_waits c.args.device.now.books.groups c.args.places.now c.requires.empty

pub returns-clause-open : goal.returns-clause-open
returns-clause-open g c = λ q other o.
    let sp = c.args.space.now in
    let p = c.args.piece in
    let h = hold_as p.session p.id p.at p.length p.write in
    let has = subst (λ (n : ℕ). HasPlaces sp.view c.args.device.now.books (g.D.Disk.state c.args.device.now.disk) p.id p.at n c.args.places.now) (sym c.requires.long) c.requires.has in
    c.let_go.ensures.open q other (c.write_bytes-made.ensures.open sp h q c.requires.joined (last_one (held_by sp.view.history) p.session p.id h c.requires.held) c.requires.writes has other o)
