use Rattle.std.proofs.Common.{◌≡◌, ◌%◌, ◌∙◌, ℕ, sym, ap, subst}
use Rattle.bfs_commit.proofs.Asked.{joined_rested, size_is}
use Rattle.bfs_file_io.proofs.Written.{piece_read}
use Rattle.bfs_commit.specs.Held.{HasPlaces}
use Rattle.bfs_file_io.proofs.Apart.{open_rested}
use Rattle.bfs_file_io.proofs.pieces.read_bytes.Goals as goal

pub returns-clause-joined : goal.returns-clause-joined
returns-clause-joined g c = λ sp id joined has.
    let old = c.args.device.now in
    let new = c.read_piece.new.device in
    let size : old.books.sup.block_size ≡ sp.view.sup.block_size = size_is sp old.books joined.fitted in
    let skip : c.begin_in-skip.result ≡ c.args.at % sp.view.sup.block_size = c.begin_in-skip.ensures.value ∙ ap (λ (n : ℕ). c.args.at % n) (c.requires.buffer ∙ size) in (
      joined_rested sp old.books new.books (g.D.Disk.state old.disk) (g.D.Disk.state new.disk) c.read_piece.ensures.rests c.read_piece.ensures.state joined,
      piece_read sp old.books new.books (g.D.Disk.state old.disk) (g.D.Disk.state new.disk) id c.args.at c.begin_in-skip.result c.args.places.now c.read_piece.new.into c.read_piece.result c.read_piece.ensures.rests c.read_piece.ensures.state
          (subst (λ (n : ℕ). HasPlaces sp.view old.books (g.D.Disk.state old.disk) id c.args.at n c.args.places.now) (sym c.read_piece.ensures.length) has) skip size c.read_piece.ensures.bytes,
    )

pub returns-clause-core : goal.returns-clause-core
returns-clause-core g c = λ t0 adopted sp core. c.read_piece.ensures.core t0 adopted sp.view core

pub returns-clause-open : goal.returns-clause-open
returns-clause-open g c = λ sp q o. open_rested q sp c.args.device.now.books c.read_piece.new.device.books (g.D.Disk.state c.args.device.now.disk) (g.D.Disk.state c.read_piece.new.device.disk) c.read_piece.ensures.rests c.read_piece.ensures.state o
