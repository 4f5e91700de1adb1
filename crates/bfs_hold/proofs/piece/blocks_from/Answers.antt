use Rattle.std.proofs.Common.{◌≡◌, ◌∷◌, [], ◌∙◌, ℕ, take, drop, length, All, arith, ap, sym, subst}
use Rattle.std.proofs.lemmas.List.Elements.{All-push}
use Rattle.std.proofs.lemmas.List.{length-append}
use Rattle.bfs_stream.specs.Places.{places_at}
use Rattle.bfs_stream.specs.Sizes.{sizes_of}
use Rattle.bfs_stream.specs.Told.{contents}
use Rattle.bfs_stream.proofs.Arrays.{later_twice}
use Rattle.bfs_hold.specs.Places.{IsDataOf}
use Rattle.bfs_hold.proofs.Listed.{one_more}
use Rattle.bfs_hold.proofs.piece.blocks_from.Goals as goal

pub loop-k-preserved : goal.loop-k-preserved
loop-k-preserved g c = record {
  told = c.in-Ok.ensures.told ∙ c.loop-k.invariant.told;
  changed = c.in-Ok.ensures.changed ∙ c.loop-k.invariant.changed;
  pairs = c.in-Ok.ensures.pairs ∙ c.loop-k.invariant.pairs;
  size = c.in-Ok.ensures.size ∙ c.loop-k.invariant.size;
  frame = c.in-Ok.ensures.frame ∙ c.loop-k.invariant.frame;
  later = later_twice (g.B.Blocks.counts c.args.under.now) (g.B.Blocks.counts c.loop-k.under) (g.B.Blocks.counts c.block_at.new.under) c.loop-k.invariant.later c.in-Ok.ensures.later;
  count =
      let all = ap length c.in-Ok-push.ensures.items in
      let two = length-append c.loop-k.places.items (c.in-Ok.block ∷ []) in
      let before = c.loop-k.invariant.count in
      omega (arith, all, two, before);
  good = subst (λ l. All (IsDataOf c.args.sup.now) l) (sym c.in-Ok-push.ensures.items) (All-push (IsDataOf c.args.sup.now) c.loop-k.places.items c.in-Ok.block c.loop-k.invariant.good c.in-Ok.ensures.good);
  found = λ m told stands all few.
      let k = c.loop-k.k in
      let test = c.loop-k-test.true in
      let blocks = places_at (sizes_of c.args.sup.now) (contents m) c.args.id in
      let there = c.in-Ok.ensures.found m (c.loop-k.invariant.told ∙ told) stands all (omega (arith, test, few)) in
      one_more blocks c.loop-k.places.items c.push.new.self.items c.args.first k c.in-Ok.block there (c.loop-k.invariant.found m told stands all few) c.in-Ok-push.ensures.items;
}

pub returns-clause-found : goal.returns-clause-found
returns-clause-found g c m told stands all few =
    let k = c.loop-k.k in
    let test = c.loop-k-test.false in
    let fits = c.loop-k.auto.k-end in
    let e : k ≡ c.args.blocks = omega (arith, test, fits) in
    subst (λ (n : ℕ). c.loop-k.places.items ≡ take n (drop c.args.first (places_at (sizes_of c.args.sup.now) (contents m) c.args.id))) e (c.loop-k.invariant.found m told stands all few)
