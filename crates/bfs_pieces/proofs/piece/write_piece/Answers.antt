use Rattle.std.proofs.Common.{◌≡◌, ◌<◌, ◌≤◌, ◌+◌, ◌-◌, ◌*◌, min, ℕ, List, length, take, drop, refl, sym, ◌∙◌, ap, subst, arith}
use Rattle.std.specs.Prelude.{slice_index}
use Rattle.std.proofs.lemmas.List.{length-take-le, take_all}
use Rattle.bfs_disk.specs.Blocks.{contents_of}
use Rattle.bfs_super.specs.declared.sup.Super.{Super}
use Rattle.bfs_device.specs.Layouts.{IsData, layout_of}
use Rattle.bfs_device.specs.Books.{Books}
use Rattle.bfs_pieces.specs.Pieces.{IsPieceOf}
use Rattle.bfs_pieces.specs.Parts.{IsPartOf, ReadsBut}
use Rattle.bfs_pieces.proofs.Parting.{part_length, parts_joined}
use Rattle.bfs_pieces.proofs.Spreading.{at_next, at_start, index_low, part_inside, piece_more, piece_none}
use Rattle.bfs_pieces.proofs.Stepping.{others_more, rest_on, step_written}
use Rattle.bfs_pieces.proofs.Halting.{halted_since}
use Rattle.bfs_pieces.proofs.piece.write_piece.Goals as goal

pub loop-done-preserved : goal.loop-done-preserved
loop-done-preserved g c =
    let old = c.args.device.now in
    let l = c.loop-done in
    let v = l.invariant in
    let e = c.in-Ok.ensures in
    let new = c.write_part.new.device in
    let size = old.books.sup.block_size in
    let all = c.args.from.now in
    let n = c.least-count.result in
    let part : List ℕ = take (l.done + n - l.done) (drop l.done all) in
    let left : l.done < length all = omega (arith, c.loop-done-test.true) in
    let is : n ≡ min (length all - l.done) (size - l.skipped) = c.least-count.ensures ∙ ap (λ (k : ℕ). min (length all - l.done) (k - l.skipped)) c.requires.buffer in
    let fits = part_inside size c.args.skip (length all) l.index l.skipped l.done n v.so is in
    let inside : l.done + n ≤ length all = omega (arith, fits.1, left) in
    let long : length part ≡ n = part_length l.done n all inside in
    let front : length (take l.done all) ≡ l.done = length-take-le l.done all (omega (arith, inside)) in
    let place : c.args.skip + length (take l.done all) ≡ size * l.index + l.skipped = (let p = v.so.place left in omega (arith, p, front)) in
    let sup : l.device.books.sup ≡ old.books.sup = ap (λ (x : Books). x.sup) v.rest in
    record {
      so = at_next size c.args.skip (length all) l.index l.skipped l.done n v.so left is;
      buffer = omega (arith, c.write_part.auto.block, v.buffer);
      written = λ t0 adopted sp id at core behind held unknown.
          let was = v.written t0 adopted sp id at core behind held unknown in
          let got = step_written t0 adopted sp l.device.books (g.D.Disk.state l.device.disk) (g.D.Disk.clock l.device.disk) (g.D.Disk.since l.device.disk) was.0 (layout_of old.books.sup).sectors size id at (length all) c.args.skip c.args.places.now (take l.done all)
          (ap (λ (s : Super). s.block_size) sup) was.1 l.index l.skipped l.done v.so left front old.books.sup sup refl new.books (g.D.Disk.state new.disk) (g.D.Disk.clock new.disk) (g.D.Disk.since new.disk) n part long inside unknown (λ before. e.core t0 adopted sp before behind) e.others in (
            got.0,
            λ next after.
                let still = got.1 next after in
                let here : IsPartOf (contents_of next (layout_of old.books.sup).sectors (slice_index c.args.places.now l.index)) l.skipped part =
                subst (λ (s : Super). IsPartOf (contents_of next (layout_of s).sectors (slice_index c.args.places.now l.index)) l.skipped part) sup (e.bytes next after) in (
                  still.0,
                  subst (IsPieceOf (contents_of next (layout_of old.books.sup).sectors) size c.args.places.now c.args.skip) (sym (parts_joined l.done n all))
                      (piece_more (contents_of next (layout_of old.books.sup).sectors) size c.args.places.now c.args.skip l.index l.skipped (take l.done all) part still.1 place (omega (arith, fits.0, long)) here),
                ),
          );
      others = others_more (g.D.Disk.state old.disk) (g.D.Disk.state l.device.disk) (g.D.Disk.state new.disk) (layout_of old.books.sup).sectors c.args.places.now l.index (index_low size c.args.skip (length all) l.index l.skipped l.done (length c.args.places.now) v.so left c.requires.covers) e.silent
          (subst (λ (s : Super). ReadsBut (layout_of s).sectors (slice_index c.args.places.now l.index) (g.D.Disk.state l.device.disk) (g.D.Disk.state new.disk)) sup e.others) v.others;
      unmoved = λ none. absurd (let some : 0 < n = grind (arith, is, left, v.so.inside) in omega (arith, none, some));
      rest = rest_on old.books l.device.books new.books v.rest e.rest e.stop;
      size = e.size ∙ v.size;
      faults = omega (arith, v.faults, e.faults);
      disk_clock = omega (arith, v.disk_clock, e.disk_clock);
      stops = omega (arith, v.stops, e.stops);
    }

pub loop-done-init : goal.loop-done-init
loop-done-init g c =
    let old = c.args.device.now in
    let size = old.books.sup.block_size in
    record {
      so = at_start size c.args.skip (length c.args.from.now) c.requires.skip;
      buffer = c.requires.buffer;
      written = λ t0 adopted sp id at core behind held unknown. (core, λ next is. (held next is, piece_none (contents_of next (layout_of old.books.sup).sectors) size c.args.places.now c.args.skip c.args.from.now));
      others = λ next is. (next, is, λ k none. refl);
      unmoved = λ none. refl;
      rest = refl;
      size = refl;
      faults = omega arith;
      disk_clock = omega arith;
      stops = omega arith;
    }

pub write_part-requires-clause-data : goal.write_part-requires-clause-data
write_part-requires-clause-data g c =
    let l = c.loop-done in
    let v = l.invariant in
    let left : l.done < length c.args.from.now = omega (arith, c.loop-done-test.true) in
    let low : l.index < length c.args.places.now = index_low c.args.device.now.books.sup.block_size c.args.skip (length c.args.from.now) l.index l.skipped l.done (length c.args.places.now) v.so left c.requires.covers in
    let sup : l.device.books.sup ≡ c.args.device.now.books.sup = ap (λ (x : Books). x.sup) v.rest in
    subst (λ (s : Super). IsData (layout_of s) (slice_index c.args.places.now l.index)) (sym sup) (c.requires.data l.index 0 low)

pub returns-in-Err-clause-written : goal.returns-in-Err-clause-written
returns-in-Err-clause-written g c = λ t0 adopted sp id at core behind held unknown.
    let old = c.args.device.now in
    let l = c.loop-done in
    let v = l.invariant in
    let e = c.in-Err.ensures in
    let new = c.write_part.new.device in
    let size = old.books.sup.block_size in
    let all = c.args.from.now in
    let n = c.least-count.result in
    let part : List ℕ = take (l.done + n - l.done) (drop l.done all) in
    let left : l.done < length all = omega (arith, c.loop-done-test.true) in
    let is : n ≡ min (length all - l.done) (size - l.skipped) = c.least-count.ensures ∙ ap (λ (k : ℕ). min (length all - l.done) (k - l.skipped)) c.requires.buffer in
    let fits = part_inside size c.args.skip (length all) l.index l.skipped l.done n v.so is in
    let inside : l.done + n ≤ length all = omega (arith, fits.1, left) in
    let long : length part ≡ n = part_length l.done n all inside in
    let front : length (take l.done all) ≡ l.done = length-take-le l.done all (omega (arith, inside)) in
    let sup : l.device.books.sup ≡ old.books.sup = ap (λ (x : Books). x.sup) v.rest in
    let was = v.written t0 adopted sp id at core behind held unknown in
    let got = step_written t0 adopted sp l.device.books (g.D.Disk.state l.device.disk) (g.D.Disk.clock l.device.disk) (g.D.Disk.since l.device.disk) was.0 (layout_of old.books.sup).sectors size id at (length all) c.args.skip c.args.places.now (take l.done all)
    (ap (λ (s : Super). s.block_size) sup) was.1 l.index l.skipped l.done v.so left front old.books.sup sup refl new.books (g.D.Disk.state new.disk) (g.D.Disk.clock new.disk) (g.D.Disk.since new.disk) n part long inside unknown (λ before. e.core t0 adopted sp before behind) e.others in
    (got.0, λ next after. ((got.1 next after).0, tt))

pub returns-clause-written : goal.returns-clause-written
returns-clause-written g c = λ t0 adopted sp id at core behind held unknown.
    let old = c.args.device.now in
    let l = c.loop-done in
    let v = l.invariant in
    let all = c.args.from.now in
    let le : length all ≤ l.done = omega (arith, c.loop-done-test.false, v.so.low) in
    let was = v.written t0 adopted sp id at core behind held unknown in (
      was.0,
      λ next is.
          let h = was.1 next is in
          (h.0, subst (IsPieceOf (contents_of next (layout_of old.books.sup).sectors) old.books.sup.block_size c.args.places.now c.args.skip) (take_all l.done all le) h.1),
    )

pub returns-in-Err-clause-others : goal.returns-in-Err-clause-others
returns-in-Err-clause-others g c =
    let old = c.args.device.now in
    let l = c.loop-done in
    let v = l.invariant in
    let e = c.in-Err.ensures in
    let new = c.write_part.new.device in
    let size = old.books.sup.block_size in
    let all = c.args.from.now in
    let left : l.done < length all = omega (arith, c.loop-done-test.true) in
    let sup : l.device.books.sup ≡ old.books.sup = ap (λ (x : Books). x.sup) v.rest in
    others_more (g.D.Disk.state old.disk) (g.D.Disk.state l.device.disk) (g.D.Disk.state new.disk) (layout_of old.books.sup).sectors c.args.places.now l.index (index_low size c.args.skip (length all) l.index l.skipped l.done (length c.args.places.now) v.so left c.requires.covers) e.silent
    (subst (λ (s : Super). ReadsBut (layout_of s).sectors (slice_index c.args.places.now l.index) (g.D.Disk.state l.device.disk) (g.D.Disk.state new.disk)) sup e.others) v.others

pub returns-clause-others : goal.returns-clause-others
returns-clause-others g c = c.loop-done.invariant.others

pub returns-in-Err-clause-halted : goal.returns-in-Err-clause-halted
returns-in-Err-clause-halted g c = halted_since c.write_part.new.device.books.stop (g.D.Disk.stops c.args.device.now.disk) (g.D.Disk.stops c.loop-done.device.disk) (g.D.Disk.stops c.write_part.new.device.disk) c.in-Err.fault c.loop-done.invariant.stops c.in-Err.ensures.halted
