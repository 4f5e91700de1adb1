use Rattle.std.proofs.Common.{◌≡◌, ◌+◌, ◌*◌, ◌∙◌, ℕ, Bool, subst, arith}
use Rattle.bfs_inode.specs.Inode.{runs_in}
use Rattle.bfs_stream.specs.Sizes.{first_block}
use Rattle.bfs_stream.proofs.Arrays.{later_twice}
use Rattle.bfs_stream_check.specs.Read.{sizes_in, IsTaken}
use Rattle.bfs_stream_check.proofs.Blocks.{array_stop, array_joined, array_fault, array_end}
use Rattle.bfs_stream_check.proofs.array.read_array.Goals as goal

pub returns-then-not-full-clause-taken : goal.returns-then-not-full-clause-taken
returns-then-not-full-clause-taken g c m is all =
    let s = sizes_in c.args.bounds in
    let end = c.from-i-end.ensures in
    let block_is : c.start_of-first.result + c.loop-i.i ≡ first_block s c.args.array + c.loop-i.i = let e = c.start_of-first.ensures.value in omega (arith, e) in
    array_stop s m all c.args.array c.requires.array.inside c.loop-i.i c.block_runs-count.result (c.start_of-first.result + c.loop-i.i) c.get.new.into (g.B.Blocks.told c.loop-i.under)
    (omega arith) c.block_runs-count.ensures.value block_is (c.loop-i.invariant.told ∙ is) c.in-Ok.ensures.bytes
    c.args.into.now.items c.loop-i.into.items c.take_runs.new.into.items (c.loop-i.invariant.taken m is all)
    (subst (λ (b : Bool). IsTaken (runs_in c.block_runs-count.result c.get.new.into 0) c.loop-i.into.items c.take_runs.new.into.items b) c.if-not-full.true c.in-Ok-take_runs.ensures.taken)

pub returns-in-Err-take_runs-clause-wrong : goal.returns-in-Err-take_runs-clause-wrong
returns-in-Err-take_runs-clause-wrong g c m is all =
    let s = sizes_in c.args.bounds in
    let end = c.from-i-end.ensures in
    let block_is : c.start_of-first.result + c.loop-i.i ≡ first_block s c.args.array + c.loop-i.i = let e = c.start_of-first.ensures.value in omega (arith, e) in
    array_fault s m all c.args.array c.requires.array.inside c.loop-i.i c.block_runs-count.result (c.start_of-first.result + c.loop-i.i) c.get.new.into (g.B.Blocks.told c.loop-i.under)
    (omega arith) c.block_runs-count.ensures.value block_is (c.loop-i.invariant.told ∙ is) c.in-Ok.ensures.bytes
    c.args.into.now.items c.loop-i.into.items c.loop-i.into.items (c.loop-i.invariant.taken m is all) c.args.whole c.in-Err-take_runs.fault c.in-Err-take_runs.ensures.wrong

pub returns-in-Err-take_runs-clause-cause : goal.returns-in-Err-take_runs-clause-cause
returns-in-Err-take_runs-clause-cause g c = c.in-Err-take_runs.ensures.cause (g.B.Blocks.counts c.args.under.now) (g.B.Blocks.counts c.get.new.self)

pub loop-i-preserved : goal.loop-i-preserved
loop-i-preserved g c = record {
  long = let e = c.loop-i.auto.bytes in let f = c.requires.length in omega arith;
  told = c.in-Ok.ensures.told ∙ c.loop-i.invariant.told;
  size = c.in-Ok.ensures.size ∙ c.loop-i.invariant.size;
  changed = c.in-Ok.ensures.changed ∙ c.loop-i.invariant.changed;
  pairs = c.in-Ok.ensures.pairs ∙ c.loop-i.invariant.pairs;
  frame = c.in-Ok.ensures.frame ∙ c.loop-i.invariant.frame;
  later = later_twice (g.B.Blocks.counts c.args.under.now) (g.B.Blocks.counts c.loop-i.under) (g.B.Blocks.counts c.get.new.self) c.loop-i.invariant.later c.in-Ok.ensures.cause.later;
  sound = λ all. c.in-Ok-take_runs.ensures.sound (c.loop-i.invariant.sound all);
  few = let i : ℕ = c.loop-i.i in let r : ℕ = c.block_runs-count.result in let z : (i + 1) * r ≡ i * r + r = omega arith in let a = c.loop-i.invariant.few in let b = c.in-Ok-take_runs.ensures.few in omega (arith, a, b, z);
  taken = λ m is all.
      let s = sizes_in c.args.bounds in
      let end = c.from-i-end.ensures in
      let block_is : c.start_of-first.result + c.loop-i.i ≡ first_block s c.args.array + c.loop-i.i = let e = c.start_of-first.ensures.value in omega (arith, e) in
      array_joined s m all c.args.array c.requires.array.inside c.loop-i.i c.block_runs-count.result (c.start_of-first.result + c.loop-i.i) c.get.new.into (g.B.Blocks.told c.loop-i.under)
      (omega arith) c.block_runs-count.ensures.value block_is (c.loop-i.invariant.told ∙ is) c.in-Ok.ensures.bytes
      c.args.into.now.items c.loop-i.into.items c.take_runs.new.into.items (c.loop-i.invariant.taken m is all)
      (subst (λ (b : Bool). IsTaken (runs_in c.block_runs-count.result c.get.new.into 0) c.loop-i.into.items c.take_runs.new.into.items b) c.if-not-full.false c.in-Ok-take_runs.ensures.taken);
}

pub returns-clause-taken : goal.returns-clause-taken
returns-clause-taken g c m is all =
    let end = c.from-i-end.ensures in
    array_end (sizes_in c.args.bounds) m c.args.array c.loop-i.i c.args.into.now.items c.loop-i.into.items (omega arith) (c.loop-i.invariant.taken m is all)
