use Rattle.std.proofs.Common.{◌∙◌, sym, arith}
use Rattle.bfs_inode.specs.Inode.{runs_in}
use Rattle.bfs_inode.proofs.Runs.{length-runs_in, get_or-runs_in}
use Rattle.bfs_stream.proofs.Counts.{used_next, used_ends, used_all}
use Rattle.bfs_stream.proofs.count.count_used.Goals as goal

pub returns-then-run_at-eq0-clause-ends : goal.returns-then-run_at-eq0-clause-ends
returns-then-run_at-eq0-clause-ends c small more =
    let size = length-runs_in c.args.runs c.args.bytes.now c.args.at in
    let is = get_or-runs_in c.args.runs c.args.bytes.now c.args.at c.loop-i.i c.run_at.result (omega arith) ∙ sym c.run_at.ensures in
    used_ends (runs_in c.args.runs c.args.bytes.now c.args.at) c.loop-i.i c.run_at.result (omega arith) is c.loop-i.invariant (omega arith) more

pub loop-i-preserved : goal.loop-i-preserved
loop-i-preserved c =
    let size = length-runs_in c.args.runs c.args.bytes.now c.args.at in
    let is = get_or-runs_in c.args.runs c.args.bytes.now c.args.at c.loop-i.i c.run_at.result (omega arith) ∙ sym c.run_at.ensures in
    used_next (runs_in c.args.runs c.args.bytes.now c.args.at) c.loop-i.i c.run_at.result (omega arith) is c.loop-i.invariant (λ e. let f = c.if-run_at-eq0.false in omega (arith, e, f))

pub returns-clause-all : goal.returns-clause-all
returns-clause-all c full more =
    let size = length-runs_in c.args.runs c.args.bytes.now c.args.at in
    used_all (runs_in c.args.runs c.args.bytes.now c.args.at) c.loop-i.i c.args.runs (omega arith) size c.loop-i.invariant more
