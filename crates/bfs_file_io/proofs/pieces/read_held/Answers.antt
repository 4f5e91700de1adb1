use Rattle.std.proofs.Common.{rules, ◌≡◌, ◌∙◌, ℕ, List, length, Option, IfErr, OnOk, sym, ap, subst}
use Rattle.bfs_device.specs.declared.journal.Stop.{Stop}
use Rattle.bfs_commit.specs.Places.{piece_blocks}
use Rattle.bfs_pieces.specs.Pieces.{HasPieceCause}
use Rattle.bfs_commit.specs.Held.{HasGone, HasPlaces, IsOnDisk}
use Rattle.bfs_commit.proofs.Asked.{size_is}
use Rattle.bfs_file_io.proofs.Gone.{gone_by}
use Rattle.bfs_commit.proofs.Failed.{failed_gone}
use Rattle.bfs_file_io.proofs.pieces.read_held.Goals as goal

pub read_bytes-made-requires-clause-many : goal.read_bytes-made-requires-clause-many
read_bytes-made-requires-clause-many g c =
    let size = size_is c.args.space.now c.args.device.now.books c.requires.joined.fitted in
    c.requires.has.many ∙ (λ i. piece_blocks (sym size i) c.args.piece.at (sym c.requires.long i))

pub let_go-requires-clause-joined : goal.let_go-requires-clause-joined
let_go-requires-clause-joined g c =
    let sp = c.args.space.now in
    let p = c.args.piece in
    let has = subst (λ (n : ℕ). HasPlaces sp.view c.args.device.now.books (g.D.Disk.state c.args.device.now.disk) p.id p.at n c.args.places.now) (sym c.requires.long) c.requires.has in
    (c.read_bytes-made.ensures.joined sp p.id c.requires.joined has).0

pub let_go-requires-clause-on : goal.let_go-requires-clause-on
let_go-requires-clause-on g c =
    let sp = c.args.space.now in
    let p = c.args.piece in
    let d = c.read_bytes-made.new.device in
    let has = subst (λ (n : ℕ). HasPlaces sp.view c.args.device.now.books (g.D.Disk.state c.args.device.now.disk) p.id p.at n c.args.places.now) (sym c.requires.long) c.requires.has in
    subst (λ (bytes : List ℕ). OnOk c.read_bytes-made.result (IsOnDisk sp.view d.books (g.D.Disk.state d.disk) p.id p.at bytes)) (sym c.copy_from_slice.ensures.items) (c.read_bytes-made.ensures.joined sp p.id c.requires.joined has).1

pub let_go-requires-clause-many : goal.let_go-requires-clause-many
let_go-requires-clause-many g c = ap length c.copy_from_slice.ensures.items ∙ c.read_bytes-made.ensures.length ∙ c.requires.long

pub returns-clause-gone : goal.returns-clause-gone
returns-clause-gone g c =
    let sp = c.args.space.now in
    let p = c.args.piece in
    let old = c.args.device.now in
    let d = c.read_bytes-made.new.device in
    let cause = subst (λ (s : Option Stop). IfErr c.read_bytes-made.result (HasPieceCause s (g.D.Disk.faults old.disk) (g.D.Disk.faults d.disk))) c.requires.going c.read_bytes-made.ensures.cause in
    subst (HasGone sp.view.history c.let_go.new.space.view.history p.session p.tag p.id (g.D.Disk.faults old.disk) (g.D.Disk.faults d.disk)) c.copy_from_slice.ensures.items
    (gone_by sp.view.history c.let_go.new.space.view.history p.session p.tag p.id (g.D.Disk.faults old.disk) (g.D.Disk.faults d.disk) _ c.read_bytes-made.result c.let_go.ensures.gone cause)

pub returns-clause-core : goal.returns-clause-core
returns-clause-core g c = λ t0 adopted core. c.let_go.ensures.core t0 adopted (c.read_bytes-made.ensures.core t0 adopted c.args.space.now core)

pub read_bytes-made-requires-clause-buffer : goal.read_bytes-made-requires-clause-buffer
read_bytes-made-requires-clause-buffer g c =
    let size : c.args.device.now.books.sup.block_size ≡ c.args.space.now.view.sup.block_size = size_is c.args.space.now c.args.device.now.books c.requires.joined.fitted in
    let is : c.size_of-size.result ≡ c.args.space.now.view.sup.block_size = c.size_of-size.ensures.value in
    search rules

pub returns-clause-failures : goal.returns-clause-failures
returns-clause-failures g c =
    failed_gone c.args.space.now.view.history c.let_go.new.space.view.history c.args.piece.session c.args.piece.tag c.args.piece.id c.read_bytes-made.new.into c.args.device.now.books.stop c.read_bytes-made.new.device.books.stop (g.D.Disk.faults c.args.device.now.disk) (g.D.Disk.faults c.read_bytes-made.new.device.disk) (g.D.Disk.stops c.args.device.now.disk) (g.D.Disk.stops c.read_bytes-made.new.device.disk) (returns-clause-gone g c) c.read_bytes-made.ensures.counts

pub returns-clause-open : goal.returns-clause-open
returns-clause-open g c = λ q other o. c.let_go.ensures.open q other (c.read_bytes-made.ensures.open c.args.space.now q o)
