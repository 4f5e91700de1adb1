use Rattle.std.proofs.Common.{◌≡◌, ◌<◌, ◌≤◌, ◌+◌, ◌-◌, ◌*◌, min, ℕ, length, take, sym, ◌∙◌, ap, subst, arith}
use Rattle.std.specs.Prelude.{slice_index}
use Rattle.std.proofs.lemmas.List.{length-take-le}
use Rattle.bfs_disk.specs.Blocks.{contents_of}
use Rattle.bfs_super.specs.declared.sup.Super.{Super}
use Rattle.bfs_device.specs.Layouts.{layout_of}
use Rattle.bfs_device.specs.Books.{Books}
use Rattle.bfs_device_blocks.proofs.Going.{rested_twice}
use Rattle.bfs_pieces.specs.Pieces.{IsPieceOf}
use Rattle.bfs_pieces.specs.Parts.{IsPartOf}
use Rattle.bfs_pieces.proofs.Parting.{part_length, part_long, part_taken}
use Rattle.bfs_pieces.proofs.Spreading.{at_next, part_inside, piece_more}
use Rattle.bfs_pieces.proofs.piece.read_piece.Goals as goal

pub loop-done-preserved : goal.loop-done-preserved
loop-done-preserved g c =
    let old = c.args.device.now in
    let l = c.loop-done in
    let v = l.invariant in
    let e = c.in-Ok.ensures in
    let size = old.books.sup.block_size in
    let count = length c.args.into.now in
    let n = c.least-count.result in
    let part = c.read_part.new.into in
    let left : l.done < count = omega (arith, c.loop-done-test.true, v.long) in
    let is : n ≡ min (count - l.done) (size - l.from) = c.least-count.ensures ∙ ap (λ (k : ℕ). min (k - l.done) (length c.args.block.now - l.from)) v.long ∙ ap (λ (k : ℕ). min (count - l.done) (k - l.from)) c.requires.buffer in
    let fits = part_inside size c.args.skip count l.index l.from l.done n v.so is in
    let inside : l.done + n ≤ length l.into = omega (arith, fits.1, left, v.long) in
    let long : length part ≡ n = omega (arith, c.read_part.auto.into, part_length l.done n l.into inside) in
    let front : length (take l.done l.into) ≡ l.done = length-take-le l.done l.into (omega (arith, inside)) in
    let taken = part_taken l.done n l.into part inside long in
    let place : c.args.skip + length (take l.done l.into) ≡ size * l.index + l.from = (let p = v.so.place left in omega (arith, p, front)) in
    let sup : l.device.books.sup ≡ old.books.sup = ap (λ (x : Books). x.sup) v.rests in
    record {
      so = at_next size c.args.skip count l.index l.from l.done n v.so left is;
      long = part_long l.done n l.into part inside long ∙ v.long;
      buffer = omega (arith, c.read_part.auto.block, v.buffer);
      bytes = λ st at.
          let here : IsPartOf (contents_of st (layout_of old.books.sup).sectors (slice_index c.args.places.now l.index)) l.from part =
          subst (λ (s : Super). IsPartOf (contents_of st (layout_of s).sectors (slice_index c.args.places.now l.index)) l.from part) sup (e.bytes st (v.state ∙ at)) in
          subst (IsPieceOf (contents_of st (layout_of old.books.sup).sectors) size c.args.places.now c.args.skip) (sym taken)
          (piece_more (contents_of st (layout_of old.books.sup).sectors) size c.args.places.now c.args.skip l.index l.from (take l.done l.into) part (v.bytes st at) place (omega (arith, fits.0, long)) here);
      unmoved = λ none. absurd (let some : 0 < n = grind (arith, is, left, v.so.inside) in omega (arith, none, some));
      rests = rested_twice old.books l.device.books c.read_part.new.device.books v.rests e.rests;
      state = e.state ∙ v.state;
      size = e.size ∙ v.size;
      core = λ t0 adopted sp core. e.core t0 adopted sp (v.core t0 adopted sp core);
      faults = omega (arith, v.faults, e.faults);
      disk_clock = omega (arith, v.disk_clock, e.disk_clock);
      stops = e.stops ∙ v.stops;
    }
