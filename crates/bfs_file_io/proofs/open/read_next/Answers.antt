use Rattle.std.proofs.Common.{◌≡◌, ◌≤◌, ◌+◌, ◌-◌, ◌/◌, ◌%◌, ◌∙◌, ◌++◌, ℕ, List, [], length, take, drop, min, Option, sym, ap, subst, arith}
use Rattle.std.specs.Prelude.{slice_index, unwrap_or}
use Rattle.std.proofs.lemmas.Slice.{take-put_mid_below}
use Rattle.bfs_disk.specs.Blocks.{contents_of}
use Rattle.bfs_device.specs.Layouts.{layout_of}
use Rattle.bfs_core.proofs.Images.{some_bytes}
use Rattle.bfs_core.proofs.Pieces.{piece_apart}
use Rattle.bfs_pieces.specs.Parts.{IsPartOf}
use Rattle.bfs_pieces.proofs.Parting.{part_length, part_long, part_taken}
use Rattle.std.proofs.lemmas.List.{length-take-le}
use Rattle.bfs_commit.specs.Open.{open_of, told_block}
use Rattle.bfs_commit.proofs.Asked.{same_told, size_is}
use Rattle.bfs_file_io.proofs.Making.{begin_is, in_it, in_piece, index_low, next_at, next_of, open_again, open_more, open_rested, place_data, told_contents}
use Rattle.bfs_file_io.proofs.open.read_next.Goals as goal

pub returns-in-Ok-clause-count : goal.returns-in-Ok-clause-count
returns-in-Ok-clause-count g c =
    let next = next_of c.args.device.now.books.sup.block_size c.args.at (length c.args.into.now) c.args.done c.begin_in.result c.args.size c.count_next-count.result c.begin_in.ensures.value c.requires.size (some_bytes c.args.device.now.books.sup c.steady.ensures.steady.valid) c.requires.more c.count_next-count.ensures in
    next.count_is ∙ ap (λ (k : ℕ). min (length c.args.into.now - c.args.done) (c.args.device.now.books.sup.block_size - k))
    (sym (begin_is c.args.device.now.books.sup.block_size c.args.at (length c.args.into.now) c.args.done ((c.begin_in.result + c.args.done) / c.args.size) ((c.begin_in.result + c.args.done) % c.args.size) c.count_next-count.result next))

pub returns-in-Ok-clause-open : goal.returns-in-Ok-clause-open
returns-in-Ok-clause-open g c = λ sp h fault joined at_is opened.
    let old = c.args.device.now in
    let new = c.read_part.new.device in
    let e = c.in-Ok.ensures in
    let into = c.args.into.now in
    let places = c.args.places.now in
    let done : ℕ = c.args.done in
    let n : ℕ = c.count_next-count.result in
    let part : List ℕ = c.read_part.new.into in
    let index : ℕ = (c.begin_in.result + c.args.done) / c.args.size in
    let from : ℕ = (c.begin_in.result + c.args.done) % c.args.size in
    let first = next_of c.args.device.now.books.sup.block_size c.args.at (length c.args.into.now) c.args.done c.begin_in.result c.args.size c.count_next-count.result c.begin_in.ensures.value c.requires.size (some_bytes c.args.device.now.books.sup c.steady.ensures.steady.valid) c.requires.more c.count_next-count.ensures in
    let size : old.books.sup.block_size ≡ sp.view.sup.block_size = size_is sp old.books joined.fitted in
    let next = next_at old.books.sup.block_size sp.view.sup.block_size c.args.at h.at (length into) done index from n size at_is first in
    let inside : done + n ≤ length into = in_piece old.books.sup.block_size c.args.at (length into) done index from n first in
    let long : length part ≡ n = c.read_part.auto.into ∙ part_length done n into inside in
    let same = part_long done n into part inside long in
    let low = index_low old.books.sup.block_size c.args.at (length into) done index from n first places c.requires.many in
    let fits = in_it old.books.sup.block_size c.args.at (length into) done index from n first in
    let still = open_rested sp old.books new.books (g.D.Disk.state old.disk) (g.D.Disk.state new.disk) (open_of h places into done fault) e.rests e.state opened in (
      open_again sp new.books (g.D.Disk.state new.disk) h places into (take done into ++ (part ++ drop (done + n - done) (drop done into))) done fault still same (take-put_mid_below done (done + n - done) into part done (omega arith) (omega (arith, inside))),
      open_more sp new.books (g.D.Disk.state new.disk) h places into (take done into ++ (part ++ drop (done + n - done) (drop done into))) part done n index from fault still next long same (part_taken done n into part inside long)
          (λ st is.
          let was = sym e.state ∙ is in
          let s = joined.stands st was in
          let file = place_data sp old.books (g.D.Disk.state old.disk) joined (open_of h places into done fault) opened st was index low in
          let told_is : told_block new.books st (slice_index places index) ≡ contents_of st (layout_of old.books.sup).sectors (slice_index places index) =
          ap (λ (m : ℕ → Option (List ℕ)). unwrap_or (m (slice_index places index)) []) (same_told old.books new.books st e.rests)
          ∙ told_contents old.books st (slice_index places index) c.steady.ensures.steady (c.requires.blocks index 0 low) (piece_apart s.t0 sp.view old.books s.touched st s.core (slice_index places index) file) in
          subst (λ (xs : List ℕ). IsPartOf xs from part) (sym told_is)
          (e.bytes st was)),
    )

pub returns-in-Ok-clause-core : goal.returns-in-Ok-clause-core
returns-in-Ok-clause-core g c = λ t0 adopted sp core. c.in-Ok.ensures.core t0 adopted sp.view core

pub returns-in-Err-clause-open : goal.returns-in-Err-clause-open
returns-in-Err-clause-open g c = λ sp h fault joined at_is opened.
    let old = c.args.device.now in
    let new = c.read_part.new.device in
    let e = c.in-Err.ensures in
    let into = c.args.into.now in
    let places = c.args.places.now in
    let done : ℕ = c.args.done in
    let n : ℕ = c.count_next-count.result in
    let part : List ℕ = c.read_part.new.into in
    let index : ℕ = (c.begin_in.result + c.args.done) / c.args.size in
    let from : ℕ = (c.begin_in.result + c.args.done) % c.args.size in
    let first = next_of c.args.device.now.books.sup.block_size c.args.at (length c.args.into.now) c.args.done c.begin_in.result c.args.size c.count_next-count.result c.begin_in.ensures.value c.requires.size (some_bytes c.args.device.now.books.sup c.steady.ensures.steady.valid) c.requires.more c.count_next-count.ensures in
    let inside : done + n ≤ length into = in_piece old.books.sup.block_size c.args.at (length into) done index from n first in
    let long : length part ≡ n = c.read_part.auto.into ∙ part_length done n into inside in
    let still = open_rested sp old.books new.books (g.D.Disk.state old.disk) (g.D.Disk.state new.disk) (open_of h places into done fault) e.rests e.state opened in (
      open_again sp new.books (g.D.Disk.state new.disk) h places into (take done into ++ (part ++ drop (done + n - done) (drop done into))) done fault still (part_long done n into part inside long) (take-put_mid_below done (done + n - done) into part done (omega arith) (omega (arith, inside))),
      tt,
    )

pub returns-in-Err-clause-core : goal.returns-in-Err-clause-core
returns-in-Err-clause-core g c = λ t0 adopted sp core. c.in-Err.ensures.core t0 adopted sp.view core

pub read_part-requires-clause-buffer : goal.read_part-requires-clause-buffer
read_part-requires-clause-buffer g c = length-take-le c.args.size c.args.block.now c.requires.room ∙ c.requires.size
