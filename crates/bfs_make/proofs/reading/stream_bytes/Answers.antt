use Rattle.std.proofs.Common.{◌∙◌, ◌≤◌, ◌<◌, ◌+◌, ◌-◌, ℕ, List, min, refl, sym, subst, arith}
use Rattle.bfs_stream.specs.Sizes.{sizes_of}
use Rattle.bfs_stream.specs.Places.{places_at}
use Rattle.bfs_stream.specs.Told.{contents}
use Rattle.bfs_stream.proofs.Placed.{some_size}
use Rattle.bfs_stream.proofs.Sized.{valid_sizes}
use Rattle.bfs_make.proofs.Pieces.{IsPartly, sized_at, told_all, partly_start, partly_inside, partly_next, partly_end}
use Rattle.bfs_make.proofs.reading.stream_bytes.Goals as goal

pub loop-left-init : goal.loop-left-init
loop-left-init g c = record {
  told = refl;
  changed = refl;
  pairs = refl;
  size = refl;
  frame = refl;
  later = record { faults = omega arith; stops = refl; stop = refl };
  few = omega arith;
  partly = λ m is stands told fits.
      let s = c.args.site.sup.block_size in
      let places = places_at (sizes_of c.args.site.sup) (contents m) c.args.id in
      subst (λ (l : List ℕ). IsPartly (contents m) s places 0 c.args.size c.args.size l) (sym c.new-bytes.ensures.items) (partly_start (contents m) s places c.args.size fits);
}

pub returns-in-Err-clause-found : goal.returns-in-Err-clause-found
returns-in-Err-clause-found g c m is stands told fits =
    let s = c.args.site.sup.block_size in
    let i = c.loop-left.invariant in
    let places = places_at (sizes_of c.args.site.sup) (contents m) c.args.id in
    c.in-Err.ensures.sound m (i.told ∙ is) stands
    (partly_inside (contents m) s places c.loop-left.index c.loop-left.left c.args.size c.loop-left.bytes.items c.loop-left-test.true (i.partly m is stands told fits))

pub loop-left-preserved : goal.loop-left-preserved
loop-left-preserved g c =
    let s = c.args.site.sup.block_size in
    let i = c.loop-left.invariant in
    let e = c.in-Ok.ensures in
    let more : 0 < c.loop-left.left = c.loop-left-test.true in
    let some : 0 < s = some_size (sizes_of c.args.site.sup) (valid_sizes c.args.site.sup c.requires.valid) in
    record {
      told = e.told ∙ i.told;
      changed = e.changed ∙ i.changed;
      pairs = e.pairs ∙ i.pairs;
      size = e.size ∙ i.size;
      frame = e.frame ∙ i.frame;
      later = record { faults = omega (arith, i.later.faults, e.later.faults); stops = e.later.stops ∙ i.later.stops; stop = e.later.stop ∙ i.later.stop };
      few = omega (arith, i.few, more, some, e.part);
      partly = λ m is stands told fits.
          let places = places_at (sizes_of c.args.site.sup) (contents m) c.args.id in
          let found = e.found m (i.told ∙ is) stands told in
          let sized = sized_at s (g.B.Blocks.size c.args.under.now) (g.B.Blocks.told c.args.under.now) m c.requires.size is (g.met.B.Blocks.sized c.args.under.now) in
          let next = partly_next (contents m) s places c.loop-left.index c.loop-left.left c.args.size found.0 c.loop-left.bytes.items (told_all s m places sized told) found.1 (i.partly m is stands told fits) in
          subst (λ (p : ℕ). IsPartly (contents m) s places (c.loop-left.index + 1) (c.loop-left.left - p) c.args.size c.push_block.new.bytes.items) (sym e.part)
          (subst (λ (l : List ℕ). IsPartly (contents m) s places (c.loop-left.index + 1) (c.loop-left.left - min c.loop-left.left s) c.args.size l) (sym found.2) next);
    }

pub returns-clause-found : goal.returns-clause-found
returns-clause-found g c m is stands told fits =
    let s = c.args.site.sup.block_size in
    let i = c.loop-left.invariant in
    let places = places_at (sizes_of c.args.site.sup) (contents m) c.args.id in
    let over : c.loop-left.left ≤ 0 = c.loop-left-test.false in
    partly_end (contents m) s places c.loop-left.index c.loop-left.left c.args.size c.loop-left.bytes.items (omega (arith, over)) (i.partly m is stands told fits)
