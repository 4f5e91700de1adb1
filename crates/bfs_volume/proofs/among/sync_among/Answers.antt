use Rattle.std.proofs.Common.{rules, ◌≡◌, false}
use Rattle.std.specs.Prelude.{is_some}
use Rattle.bfs_volume.proofs.Others.{free_open, holds_synced, kept_open, not_found}
use Rattle.bfs_volume.proofs.among.sync_among.Goals as goal

pub sync-requires-clause-free : goal.sync-requires-clause-free
sync-requires-clause-free g c =
    let none = (not_found c.args.pieces.now c.args.session c.find_piece.result c.find_piece.ensures (let e : is_some c.find_piece.result ≡ false = search rules in e)) in
    free_open c.args.pieces.now c.args.session c.args.space.now c.args.device.now.books (g.D.Disk.state c.args.device.now.disk) none c.requires.session c.requires.open

pub returns-clause-open : goal.returns-clause-open
returns-clause-open g c =
    let none = (not_found c.args.pieces.now c.args.session c.find_piece.result c.find_piece.ensures (let e : is_some c.find_piece.result ≡ false = search rules in e)) in
    let n = c.sync.new in
    kept_open c.args.pieces.now c.args.session c.args.space.now n.space c.args.device.now.books n.device.books (g.D.Disk.state c.args.device.now.disk) (g.D.Disk.state n.device.disk) none c.sync.ensures.promised
    (holds_synced c.args.space.now.view.history n.space.view.history c.args.session c.args.tag c.sync.result c.sync.ensures.entry c.sync.ensures.failed) c.sync.ensures.open c.requires.open
