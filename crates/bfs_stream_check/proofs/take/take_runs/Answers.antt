use Rattle.std.proofs.Common.{◌<◌, ◌+◌, List, ap, sym, subst, arith, take, drop, length, true, false, refl, inl}
use Rattle.bfs_bytes.specs.declared.Run.{Run}
use Rattle.bfs_inode.specs.Inode.{runs_in}
use Rattle.bfs_stream_check.specs.declared.fault.ReadFault.TheVariants.{Wrong}
use Rattle.bfs_stream_check.specs.Read.{sizes_in, IsRunOf, IsTaken}
use Rattle.bfs_stream_check.proofs.Takes.{IsOn, on_more, taken_end, taken_all, all_more}
use Rattle.bfs_stream_check.proofs.TakesRuns.{runs_next, runs_split, runs_all, fault_at}
use Rattle.bfs_stream_check.proofs.take.take_runs.Goals as goal

pub returns-then-run-eq0-clause-taken : goal.returns-then-run-eq0-clause-taken
returns-then-run-eq0-clause-taken c =
    let is = sym c.run_at-run.ensures in
    let inside : c.loop-i.i < c.args.count = omega arith in
    subst (λ (l : List Run). IsTaken l c.args.into.now.items c.loop-i.into.items false) (sym (runs_split c.args.count c.args.bytes.now c.args.at c.loop-i.i c.run_at-run.result inside is))
    (taken_end (take c.loop-i.i (runs_in c.args.count c.args.bytes.now c.args.at)) c.args.into.now.items c.loop-i.into.items c.run_at-run.result (drop (c.loop-i.i + 1) (runs_in c.args.count c.args.bytes.now c.args.at)) c.loop-i.invariant.on c.if-run-eq0.true)

pub returns-then-run-eq0-clause-sound : goal.returns-then-run-eq0-clause-sound
returns-then-run-eq0-clause-sound c = c.loop-i.invariant.sound

pub returns-then-run-eq0-clause-few : goal.returns-then-run-eq0-clause-few
returns-then-run-eq0-clause-few c = let e = c.loop-i.invariant.few in omega (arith, e)

pub returns-in-Err-clause-wrong : goal.returns-in-Err-clause-wrong
returns-in-Err-clause-wrong c =
    let is = sym c.run_at-run.ensures in
    let inside : c.loop-i.i < c.args.count = omega arith in
    fault_at c.args.count c.args.bytes.now c.args.at c.loop-i.i c.run_at-run.result inside is (sizes_in c.args.bounds) c.args.whole (Wrong c.in-Err.wrong) c.loop-i.invariant.on.used
    (λ e. let f = c.if-run-eq0.false in omega (arith, e, f)) (c.run_at-run.result, inl refl, c.in-Err.ensures.wrong)

pub loop-i-preserved : goal.loop-i-preserved
loop-i-preserved c =
    let is = sym c.run_at-run.ensures in
    let inside : c.loop-i.i < c.args.count = omega arith in
    let items = c.in-Ok-push.ensures.items in record {
      on = subst (λ (l : List Run). IsOn l c.args.into.now.items c.push.new.self.items) (sym (runs_next c.args.count c.args.bytes.now c.args.at c.loop-i.i c.run_at-run.result inside is))
          (on_more (take c.loop-i.i (runs_in c.args.count c.args.bytes.now c.args.at)) c.args.into.now.items c.loop-i.into.items c.push.new.self.items c.run_at-run.result c.loop-i.invariant.on (λ e. let f = c.if-run-eq0.false in omega (arith, e, f)) items);
      sound = λ all. all_more (IsRunOf (sizes_in c.args.bounds) c.args.whole) c.loop-i.into.items c.push.new.self.items c.run_at-run.result items (c.loop-i.invariant.sound all) c.in-Ok.ensures.sound;
      few = let e = ap length items in let f = c.loop-i.invariant.few in let g = c.in-Ok-push.ensures.len in omega (arith, e, f, g);
    }

pub returns-clause-taken : goal.returns-clause-taken
returns-clause-taken c =
    subst (λ (l : List Run). IsTaken l c.args.into.now.items c.loop-i.into.items true) (runs_all c.args.count c.args.bytes.now c.args.at c.loop-i.i (omega arith))
    (taken_all (take c.loop-i.i (runs_in c.args.count c.args.bytes.now c.args.at)) c.args.into.now.items c.loop-i.into.items c.loop-i.invariant.on)
