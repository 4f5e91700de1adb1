use Rattle.std.proofs.Common.{◌≡◌, ◌+◌, ◌*◌, ◌∙◌, ℕ, List, ap, sym, subst, arith}
use Rattle.std.specs.Prelude.{length}
use Rattle.bfs_bytes.specs.declared.Run.{Run}
use Rattle.bfs_txn.specs.Told.{AreOfBlock}
use Rattle.bfs_stream.specs.Sizes.{first_block}
use Rattle.bfs_stream.specs.Places.{used_runs}
use Rattle.bfs_stream.specs.Told.{contents}
use Rattle.bfs_stream.proofs.Arrays.{has_counted, read_is, array_is, later_twice}
use Rattle.bfs_stream.proofs.Counts.{counted_end, counted_more, counted_all}
use Rattle.bfs_stream.proofs.stream.Stream.used_in.Goals as goal

pub returns-then-here-runs-clause-used : goal.returns-then-here-runs-clause-used
returns-then-here-runs-clause-used g c m is told =
    let s = c.args.self.now.sizes in
    let i = c.loop-i.i in
    let first = first_block s c.args.array in
    let end = c.from-i-end.ensures in
    let place : c.first_block-first.result + i ≡ first + i = let e = c.first_block-first.ensures.value in omega arith in
    let of : AreOfBlock (g.B.Blocks.told c.loop-i.under) (first + i) c.get.new.into = subst (λ k. AreOfBlock (g.B.Blocks.told c.loop-i.under) k c.get.new.into) place c.in-Ok.ensures.bytes in
    let into = read_is m (g.B.Blocks.told c.loop-i.under) (first + i) c.get.new.into (c.loop-i.invariant.told ∙ is) (told (first + i) (has_counted first c.args.array.len (first + i) (omega arith) (omega arith))) of in
    counted_end s (contents m) first c.args.array.len i c.loop-i.used c.runs_per_block-runs.result c.count_used-here.result c.get.new.into (omega arith) c.runs_per_block-runs.ensures.value into
    (c.loop-i.invariant.counted m is told) (c.count_used-here.ensures.ends (let h = c.if-here-runs.true in omega (arith, h)))
    ∙ ap (λ (l : List Run). length (used_runs l)) (sym (array_is s (contents m) c.args.array))

pub loop-i-preserved : goal.loop-i-preserved
loop-i-preserved g c =
    let full : c.count_used-here.result ≡ c.runs_per_block-runs.result = let h = c.if-here-runs.false in let le = c.count_used-here.ensures.few in omega (arith, h, le) in
    record {
      long = let e = c.loop-i.auto.bytes in let f = c.requires.length in omega arith;
      told = c.in-Ok.ensures.told ∙ c.loop-i.invariant.told;
      size = c.in-Ok.ensures.size ∙ c.loop-i.invariant.size;
      changed = c.in-Ok.ensures.changed ∙ c.loop-i.invariant.changed;
      frame = c.in-Ok.ensures.frame ∙ c.loop-i.invariant.frame;
      later = later_twice (g.B.Blocks.counts c.args.under.now) (g.B.Blocks.counts c.loop-i.under) (g.B.Blocks.counts c.get.new.self) c.loop-i.invariant.later c.in-Ok.ensures.cause.later;
      full = let e = c.loop-i.invariant.full in let i : ℕ = c.loop-i.i in let r : ℕ = c.runs_per_block-runs.result in let z : (i + 1) * r ≡ i * r + r = omega arith in omega (arith, e, full, z);
      counted = λ m is told.
          let s = c.args.self.now.sizes in
          let i = c.loop-i.i in
          let first = first_block s c.args.array in
          let end = c.from-i-end.ensures in
          let place : c.first_block-first.result + i ≡ first + i = let e = c.first_block-first.ensures.value in omega arith in
          let of : AreOfBlock (g.B.Blocks.told c.loop-i.under) (first + i) c.get.new.into = subst (λ k. AreOfBlock (g.B.Blocks.told c.loop-i.under) k c.get.new.into) place c.in-Ok.ensures.bytes in
          let into = read_is m (g.B.Blocks.told c.loop-i.under) (first + i) c.get.new.into (c.loop-i.invariant.told ∙ is) (told (first + i) (has_counted first c.args.array.len (first + i) (omega arith) (omega arith))) of in
          counted_more s (contents m) first c.args.array.len i c.loop-i.used c.runs_per_block-runs.result c.count_used-here.result c.get.new.into (omega arith) c.runs_per_block-runs.ensures.value into
          (c.loop-i.invariant.counted m is told) (c.count_used-here.ensures.all full) full;
    }

pub returns-clause-used : goal.returns-clause-used
returns-clause-used g c m is told =
    let s = c.args.self.now.sizes in
    let end = c.from-i-end.ensures in
    counted_all s (contents m) (first_block s c.args.array) c.args.array.len c.loop-i.i c.loop-i.used (omega arith) (c.loop-i.invariant.counted m is told)
    ∙ ap (λ (l : List Run). length (used_runs l)) (sym (array_is s (contents m) c.args.array))
