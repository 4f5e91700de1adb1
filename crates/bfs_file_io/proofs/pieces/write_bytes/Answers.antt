use Rattle.std.proofs.Common.{rules, ◌≡◌, ◌<◌, ◌%◌, ◌∙◌, ℕ, length, ap, subst}
use Rattle.bfs_core.proofs.Images.{some_bytes}
use Rattle.bfs_commit.proofs.Asked.{size_is}
use Rattle.bfs_file_io.proofs.Written.{both_written, core_written}
use Rattle.bfs_file_io.proofs.Apart.{open_written}
use Rattle.bfs_file_io.proofs.pieces.write_bytes.Goals as goal

pub returns-clause-joined : goal.returns-clause-joined
returns-clause-joined g c = λ sp id joined volume writing has.
    let old = c.args.device.now in
    let new = c.write_piece.new.device in
    let size : old.books.sup.block_size ≡ sp.view.sup.block_size = size_is sp old.books joined.fitted in
    let some : 0 < sp.view.sup.block_size = subst (λ (n : ℕ). 0 < n) size (some_bytes old.books.sup c.steady.ensures.steady.valid) in
    let more : 0 < length c.args.bytes.now = search rules in
    let skip : c.begin_in-skip.result ≡ c.args.at % sp.view.sup.block_size = c.begin_in-skip.ensures.value ∙ ap (λ (n : ℕ). c.args.at % n) (c.requires.buffer ∙ size) in
    both_written sp old.books new.books (g.D.Disk.state old.disk) (g.D.Disk.state new.disk) (g.D.Disk.clock old.disk) (g.D.Disk.clock new.disk) (g.D.Disk.since old.disk) (g.D.Disk.since new.disk) id c.args.at c.begin_in-skip.result c.args.places.now c.args.bytes.now c.write_piece.result
    joined writing has volume some more skip size c.requires.going c.steady.ensures.steady c.write_piece.ensures.rest (g.met.D.Disk.only_now old.disk) c.durable-durable.ensures.recovers c.write_piece.ensures.others
    (λ t0 adopted core behind held unknown. c.write_piece.ensures.written t0 adopted sp.view id c.args.at core behind held unknown)

pub returns-clause-core : goal.returns-clause-core
returns-clause-core g c = λ t0 adopted sp id joined volume writing has core.
    let old = c.args.device.now in
    let new = c.write_piece.new.device in
    let size : old.books.sup.block_size ≡ sp.view.sup.block_size = size_is sp old.books joined.fitted in
    let some : 0 < sp.view.sup.block_size = subst (λ (n : ℕ). 0 < n) size (some_bytes old.books.sup c.steady.ensures.steady.valid) in
    let more : 0 < length c.args.bytes.now = search rules in
    let skip : c.begin_in-skip.result ≡ c.args.at % sp.view.sup.block_size = c.begin_in-skip.ensures.value ∙ ap (λ (n : ℕ). c.args.at % n) (c.requires.buffer ∙ size) in
    core_written sp old.books new.books (g.D.Disk.state old.disk) (g.D.Disk.state new.disk) (g.D.Disk.clock old.disk) (g.D.Disk.clock new.disk) (g.D.Disk.since old.disk) (g.D.Disk.since new.disk) id c.args.at c.begin_in-skip.result c.args.places.now c.args.bytes.now c.write_piece.result
    joined writing has volume some more skip size c.requires.going c.steady.ensures.steady c.write_piece.ensures.rest (g.met.D.Disk.only_now old.disk) c.durable-durable.ensures.recovers c.write_piece.ensures.others
    (λ t0 adopted core behind held unknown. c.write_piece.ensures.written t0 adopted sp.view id c.args.at core behind held unknown) t0 adopted core

pub returns-clause-open : goal.returns-clause-open
returns-clause-open g c = λ sp h q joined held writes has other o.
    let old = c.args.device.now in
    let new = c.write_piece.new.device in
    open_written sp old.books new.books (g.D.Disk.state old.disk) (g.D.Disk.state new.disk) joined h held writes c.args.at (length c.args.bytes.now) c.args.places.now has c.write_piece.ensures.rest c.steady.ensures.steady c.write_piece.ensures.others q other o
