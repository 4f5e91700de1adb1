use Rattle.std.proofs.Common.{◌<◌, ℕ, refl, subst}
use Rattle.bfs_core.proofs.Images.{some_bytes}
use Rattle.bfs_device_blocks.proofs.Holding.{sized_so}
use Rattle.bfs_commit.proofs.Asked.{size_is}
use Rattle.bfs_commit.proofs.Ends.{noted_entry}
use Rattle.bfs_file_io.proofs.Released.{core_released, joined_released}
use Rattle.bfs_commit.proofs.Drawn.{drawn_noted}
use Rattle.bfs_commit.proofs.Opens.{open_noted}
use Rattle.bfs_file_io.proofs.pieces.release.Goals as goal

pub returns-clause-joined : goal.returns-clause-joined
returns-clause-joined g c =
    let sp = c.args.space.now in
    let d = c.args.device.now in
    let p = c.args.piece in
    let some : 0 < sp.view.sup.block_size = subst (λ (n : ℕ). 0 < n) (size_is sp d.books c.requires.joined.fitted) (some_bytes d.books.sup c.steady.ensures.steady.valid) in
    joined_released sp d.books (g.D.Disk.state d.disk) p.session p.tag p.now p.id p.at p.length p.write c.args.bytes c.args.whole c.args.before c.args.after c.requires.session c.requires.held c.requires.many c.requires.on some
    c.note.new.self _ c.note.ensures c.requires.joined

pub returns-clause-core : goal.returns-clause-core
returns-clause-core g c = λ t0 adopted core.
    let sp = c.args.space.now in
    let d = c.args.device.now in
    let p = c.args.piece in
    let some : 0 < sp.view.sup.block_size = subst (λ (n : ℕ). 0 < n) (size_is sp d.books c.requires.joined.fitted) (some_bytes d.books.sup c.steady.ensures.steady.valid) in
    core_released sp d.books (g.D.Disk.state d.disk) p.session p.tag p.now p.id p.at p.length p.write c.args.bytes c.args.whole c.args.before c.args.after c.requires.session c.requires.held c.requires.many c.requires.on some
    c.note.new.self _ c.note.ensures t0 adopted (g.D.Disk.clock d.disk) (g.D.Disk.since d.disk)
    (sized_so d.books (g.D.Disk.size d.disk) (g.D.Disk.state d.disk) (g.met.D.Disk.filled d.disk) (g.met.D.Disk.sized d.disk) c.steady.ensures.on_disk) core

pub returns-clause-entry : goal.returns-clause-entry
returns-clause-entry g c =
    let sp = c.args.space.now in
    let p = c.args.piece in
    noted_entry sp c.note.new.self sp.view.history p.session p.tag p.now _ _ _ _ _ refl refl refl c.note.ensures

pub returns-clause-stamps : goal.returns-clause-stamps
returns-clause-stamps g c =
    let p = c.args.piece in
    drawn_noted c.args.space.now c.note.new.self c.args.space.now.view.history p.session p.tag p.now _ _ _ refl c.note.ensures

pub returns-clause-open : goal.returns-clause-open
returns-clause-open g c = λ p other o. open_noted p c.args.space.now c.note.new.self c.args.device.now.books (g.D.Disk.state c.args.device.now.disk) c.args.piece.session _ _ refl other c.note.ensures o
