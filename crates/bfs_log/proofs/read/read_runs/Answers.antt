use Rattle.std.proofs.Common.{◌≡◌, ◌∙◌, ◌-◌, ◌++◌, ℕ, length, replicate, set, sym, ap, arith}
use Rattle.bfs_bytes.specs.declared.Run.{Run}
use Rattle.bfs_log.specs.Entry.{runs_from}
use Rattle.bfs_log.specs.Found.{no_run}
use Rattle.bfs_log.proofs.Listed.{filled, length-runs_from}
use Rattle.bfs_log.proofs.read.read_runs.Goals as goal

pub loop-i-preserved : goal.loop-i-preserved
loop-i-preserved c =
    ap (λ (r : Run). set c.loop-i.runs c.loop-i.i r) c.run_at.ensures
    ∙ filled c.loop-i.i 8 c.args.block.now c.loop-i.runs (omega arith) c.loop-i.invariant

pub returns : goal.returns
returns c =
    let all : c.loop-i.i ≡ c.args.count = omega arith in
    let long : length (runs_from c.args.count 8 c.args.block.now) ≡ c.args.count = length-runs_from c.args.count 8 c.args.block.now in
    record {
      count = sym long;
      runs_then_none = c.loop-i.invariant
          ∙ ap (λ (k : ℕ). runs_from k 8 c.args.block.now ++ replicate (127 - k) no_run) all
          ∙ ap (λ (k : ℕ). runs_from c.args.count 8 c.args.block.now ++ replicate (127 - k) no_run) (sym long);
    }
