use Rattle.std.proofs.Common.{◌+◌, ◌∙◌, ℕ, ap, arith, pos}
use Rattle.bfs_bytes.specs.declared.Run.{Run}
use Rattle.bfs_stream_check.proofs.Counted.{counted_next}
use Rattle.bfs_stream_check.proofs.count.count_blocks.Goals as goal

pub loop-i-preserved : goal.loop-i-preserved
loop-i-preserved c =
    let none : Run = record { group = pos 0; start = 0; len = 0 } in record {
      value = λ s. ap (λ (n : ℕ). c.loop-i.count + n) c.length_of-count.ensures.value ∙ counted_next s c.args.runs.now c.loop-i.i c.loop-i.count none c.loop-i-test.true (c.loop-i.invariant.value s);
      few = let a = c.length_of-count.ensures.few in let b = c.loop-i.invariant.few in omega (arith, a, b);
    }
