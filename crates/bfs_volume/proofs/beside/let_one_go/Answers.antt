use Rattle.std.proofs.Common.{◌<◌, ℕ, List, OnOk, sym, ◌∙◌, ap, subst}
use Rattle.bfs_core.proofs.Images.{some_bytes}
use Rattle.bfs_file_io.specs.Open.{made_of}
use Rattle.bfs_file_io.specs.Held.{IsOnDisk}
use Rattle.bfs_file_io.specs.declared.pieces.Piece.{Piece}
use Rattle.bfs_file_io.proofs.Asked.{size_is}
use Rattle.bfs_file_io.proofs.Counted.{let_on}
use Rattle.bfs_volume.proofs.beside.let_one_go.Goals as goal

pub let_go-requires-clause-on : goal.let_go-requires-clause-on
let_go-requires-clause-on g c =
    let sp = c.args.space.now in
    let d = c.args.device.now in
    let some : 0 < sp.view.sup.block_size = subst (λ (n : ℕ). 0 < n) (size_is sp d.books c.requires.joined.fitted) (some_bytes d.books.sup c.steady.ensures.steady.valid) in
    let e = c.into_parts-made.ensures in
    subst (λ r. OnOk r (IsOnDisk sp.view d.books (g.D.Disk.state d.disk) c.into_parts-made.result.0.id c.into_parts-made.result.0.at c.into_parts-made.result.2.items)) (sym e.made)
    (subst (λ (bytes : List ℕ). OnOk (made_of c.args.piece.fault) (IsOnDisk sp.view d.books (g.D.Disk.state d.disk) c.into_parts-made.result.0.id c.into_parts-made.result.0.at bytes)) (sym e.bytes)
    (subst (λ (p : Piece). OnOk (made_of c.args.piece.fault) (IsOnDisk sp.view d.books (g.D.Disk.state d.disk) p.id p.at c.args.piece.bytes)) (sym e.piece)
    (let_on sp d.books (g.D.Disk.state d.disk) c.args.piece c.steady.ensures.steady c.requires.joined c.requires.open some c.requires.none)))

pub returns-clause-others : goal.returns-clause-others
returns-clause-others g c = λ q other opened. c.let_go.ensures.open q (λ same. other (same ∙ ap (λ (p : Piece). p.session) c.into_parts-made.ensures.piece)) opened
