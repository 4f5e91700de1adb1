use Rattle.std.proofs.Common.{rules, ◌≡◌, false}
use Rattle.std.specs.Prelude.{is_some}
use Rattle.bfs_volume.proofs.Others.{free_open, holds_pieced, kept_open, not_found}
use Rattle.bfs_volume.proofs.among.read_among.Goals as goal

pub read-requires-clause-free : goal.read-requires-clause-free
read-requires-clause-free g c =
    let none = (not_found c.args.pieces.now c.args.piece.session c.find_piece.result c.find_piece.ensures (let e : is_some c.find_piece.result ≡ false = search rules in e)) in
    free_open c.args.pieces.now c.args.piece.session c.args.space.now c.args.device.now.books (g.D.Disk.state c.args.device.now.disk) none c.requires.session c.requires.open

pub returns-clause-open : goal.returns-clause-open
returns-clause-open g c =
    let none = (not_found c.args.pieces.now c.args.piece.session c.find_piece.result c.find_piece.ensures (let e : is_some c.find_piece.result ≡ false = search rules in e)) in
    let n = c.read.new in
    kept_open c.args.pieces.now c.args.piece.session c.args.space.now n.space c.args.device.now.books n.device.books (g.D.Disk.state c.args.device.now.disk) (g.D.Disk.state n.device.disk) none c.read.ensures.promised
    (holds_pieced c.args.space.now.view.history n.space.view.history c.args.piece.session c.args.piece.tag _ _ _ _ _ c.read.result c.read.ensures.entries c.read.ensures.no_memory) c.read.ensures.open c.requires.open
