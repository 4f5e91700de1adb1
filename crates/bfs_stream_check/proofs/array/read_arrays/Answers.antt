use Rattle.std.proofs.Common.{◌≡◌, ◌≤◌, ◌*◌, ◌∙◌, ℕ, Bool, sym, subst, arith, true, refl, get_or, pos}
use Rattle.bfs_bytes.specs.declared.Run.{Run}
use Rattle.bfs_stream.specs.Sizes.{array_length, runs_per_block}
use Rattle.bfs_stream.specs.Places.{array_runs}
use Rattle.bfs_stream.specs.Told.{contents}
use Rattle.bfs_stream.proofs.Arrays.{later_twice}
use Rattle.bfs_stream_check.specs.Read.{sizes_in, IsTaken}
use Rattle.bfs_stream_check.proofs.Flat.{same_get}
use Rattle.bfs_stream_check.proofs.Blocks.{flat_stop, flat_joined, flat_fault, flat_end}
use Rattle.bfs_stream_check.proofs.Sized.{few_runs}
use Rattle.bfs_stream_check.proofs.array.read_arrays.Goals as goal

abbrev no_run : Run
no_run = record { group = pos 0; start = 0; len = 0 }

pub returns-then-not-full-clause-taken : goal.returns-then-not-full-clause-taken
returns-then-not-full-clause-taken g c m is all =
    let s = sizes_in c.args.bounds in
    let xs = c.args.arrays.now in
    let x : Run = get_or xs c.loop-i.i no_run in
    (flat_stop (array_runs s (contents m)) xs c.loop-i.i x c.loop-i-test.true (same_get xs c.loop-i.i x no_run c.loop-i-test.true)
    c.args.into.now.items c.loop-i.into.items c.read_array.new.into.items (c.loop-i.invariant.taken m is all)
    (subst (λ (b : Bool). IsTaken (array_runs s (contents m) x) c.loop-i.into.items c.read_array.new.into.items b) c.if-not-full.true (c.in-Ok.ensures.taken m (c.loop-i.invariant.told ∙ is) all))).items

pub returns-in-Err-clause-wrong : goal.returns-in-Err-clause-wrong
returns-in-Err-clause-wrong g c m is all =
    let s = sizes_in c.args.bounds in
    let xs = c.args.arrays.now in
    let x : Run = get_or xs c.loop-i.i no_run in
    flat_fault (array_runs s (contents m)) xs c.loop-i.i x c.loop-i-test.true (same_get xs c.loop-i.i x no_run c.loop-i-test.true)
    c.args.into.now.items c.loop-i.into.items c.loop-i.into.items (c.loop-i.invariant.taken m is all) s true c.in-Err.fault (c.in-Err.ensures.wrong m (c.loop-i.invariant.told ∙ is) all)

pub loop-i-preserved : goal.loop-i-preserved
loop-i-preserved g c =
    let s = sizes_in c.args.bounds in
    let xs = c.args.arrays.now in
    let x : Run = get_or xs c.loop-i.i no_run in record {
      long = c.in-Ok.ensures.length;
      told = c.in-Ok.ensures.told ∙ c.loop-i.invariant.told;
      size = c.in-Ok.ensures.size ∙ c.loop-i.invariant.size;
      changed = c.in-Ok.ensures.changed ∙ c.loop-i.invariant.changed;
      pairs = c.in-Ok.ensures.pairs ∙ c.loop-i.invariant.pairs;
      frame = c.in-Ok.ensures.frame ∙ c.loop-i.invariant.frame;
      later = later_twice (g.B.Blocks.counts c.args.under.now) (g.B.Blocks.counts c.loop-i.under) (g.B.Blocks.counts c.read_array.new.under) c.loop-i.invariant.later c.in-Ok.ensures.later;
      sound = λ all. c.in-Ok.ensures.sound (c.loop-i.invariant.sound all);
      few =
          let long : x.len ≡ array_length s = (c.requires.arrays c.loop-i.i no_run c.loop-i-test.true).long refl in
          let small : x.len * runs_per_block s ≤ 1024 = subst (λ (n : ℕ). n * runs_per_block s ≤ 1024) (sym long) (few_runs s c.requires.sizes) in
          let a = c.loop-i.invariant.few in
          let b = c.in-Ok.ensures.few in
          omega (arith, a, b, small);
      taken = λ m is all.
          flat_joined (array_runs s (contents m)) xs c.loop-i.i x c.loop-i-test.true (same_get xs c.loop-i.i x no_run c.loop-i-test.true)
          c.args.into.now.items c.loop-i.into.items c.read_array.new.into.items (c.loop-i.invariant.taken m is all)
          (subst (λ (b : Bool). IsTaken (array_runs s (contents m) x) c.loop-i.into.items c.read_array.new.into.items b) c.if-not-full.false (c.in-Ok.ensures.taken m (c.loop-i.invariant.told ∙ is) all));
    }

pub returns-clause-taken : goal.returns-clause-taken
returns-clause-taken g c m is all =
    let s = sizes_in c.args.bounds in
    (flat_end (array_runs s (contents m)) c.args.arrays.now c.loop-i.i c.args.into.now.items c.loop-i.into.items (omega arith) (c.loop-i.invariant.taken m is all)).items
