use Rattle.std.proofs.Common.{◌≡◌, ◌+◌, ◌-◌, ◌∙◌, ℕ, List, take, inl, inr, ap, sym, subst, arith, Some, true, false}
use Rattle.bfs_inode.specs.Inode.{runs_in}
use Rattle.bfs_inode.proofs.Runs.{length-runs_in, get_or-runs_in}
use Rattle.std.proofs.lemmas.List.{take_all}
use Rattle.bfs_bytes.specs.declared.Run.{Run}
use Rattle.bfs_stream.specs.Scans.{IsPast}
use Rattle.bfs_stream.proofs.Passed.{past_more, past_scanned, stopped}
use Rattle.bfs_stream.proofs.Levels.{IsScanned, scanned_more, scanned_found, scanned_broken, scanned_all}
use Rattle.bfs_stream.proofs.stream.Stream.scan.Goals as goal

pub loop-i-init : goal.loop-i-init
loop-i-init c =
    let past = c.pass-passed.ensures.past in record {
      scanned = past_scanned c.args.self.now.sizes (runs_in c.args.runs c.args.bytes.now c.args.at) c.args.place c.pass-passed.result.0 c.pass-passed.result.1 past;
      past = past;
    }

pub returns-then-not-holds-clause-scan : goal.returns-then-not-holds-clause-scan
returns-then-not-holds-clause-scan c =
    let size = length-runs_in c.args.runs c.args.bytes.now c.args.at in
    let is = get_or-runs_in c.args.runs c.args.bytes.now c.args.at c.loop-i.i c.run_at-run.result (omega arith) ∙ sym c.run_at-run.ensures in
    scanned_broken c.args.self.now.sizes (runs_in c.args.runs c.args.bytes.now c.args.at) c.args.place c.loop-i.i c.loop-i.left c.run_at-run.result (omega arith) is c.loop-i.invariant.scanned (λ some inside. let bad : false ≡ true = c.if-not-holds.ensures.1 inside in cc)

pub returns-then-len-eq0-clause-scan : goal.returns-then-len-eq0-clause-scan
returns-then-len-eq0-clause-scan c =
    let size = length-runs_in c.args.runs c.args.bytes.now c.args.at in
    let is = get_or-runs_in c.args.runs c.args.bytes.now c.args.at c.loop-i.i c.run_at-run.result (omega arith) ∙ sym c.run_at-run.ensures in
    let len = c.from-len.ensures in
    scanned_broken c.args.self.now.sizes (runs_in c.args.runs c.args.bytes.now c.args.at) c.args.place c.loop-i.i c.loop-i.left c.run_at-run.result (omega arith) is c.loop-i.invariant.scanned (λ some inside. absurd (some (omega arith)))

pub returns-then-left-len-clause-scan : goal.returns-then-left-len-clause-scan
returns-then-left-len-clause-scan c more =
    let size = length-runs_in c.args.runs c.args.bytes.now c.args.at in
    let is = get_or-runs_in c.args.runs c.args.bytes.now c.args.at c.loop-i.i c.run_at-run.result (omega arith) ∙ sym c.run_at-run.ensures in
    let len = c.from-len.ensures in
    scanned_found c.args.self.now.sizes (runs_in c.args.runs c.args.bytes.now c.args.at) c.args.place c.loop-i.i c.loop-i.left c.run_at-run.result (omega arith) is c.loop-i.invariant.scanned (omega arith) more
    ∙ ap (λ (n : ℕ). Some (n + c.loop-i.left)) (sym c.first_block.ensures.value)

pub loop-i-preserved : goal.loop-i-preserved
loop-i-preserved c =
    let size = length-runs_in c.args.runs c.args.bytes.now c.args.at in
    let is = get_or-runs_in c.args.runs c.args.bytes.now c.args.at c.loop-i.i c.run_at-run.result (omega arith) ∙ sym c.run_at-run.ensures in
    let len = c.from-len.ensures in record {
      scanned =
          subst (λ (n : ℕ). IsScanned c.args.self.now.sizes (runs_in c.args.runs c.args.bytes.now c.args.at) c.args.place (c.loop-i.i + 1) (c.loop-i.left - n)) (sym len)
          (scanned_more c.args.self.now.sizes (runs_in c.args.runs c.args.bytes.now c.args.at) c.args.place c.loop-i.i c.loop-i.left c.run_at-run.result (omega arith) is c.loop-i.invariant.scanned (λ e. omega arith) (omega arith));
      past =
          subst (λ (n : ℕ). IsPast c.args.self.now.sizes (take (c.loop-i.i + 1) (runs_in c.args.runs c.args.bytes.now c.args.at)) c.args.place (c.loop-i.left - n)) (sym len)
          (past_more c.args.self.now.sizes (runs_in c.args.runs c.args.bytes.now c.args.at) c.loop-i.i c.args.place c.loop-i.left c.run_at-run.result (omega arith) is c.loop-i.invariant.past (λ e. omega arith) (omega arith));
    }

pub returns-clause-scan : goal.returns-clause-scan
returns-clause-scan c more =
    let size = length-runs_in c.args.runs c.args.bytes.now c.args.at in
    scanned_all c.args.self.now.sizes (runs_in c.args.runs c.args.bytes.now c.args.at) c.args.place c.loop-i.i c.loop-i.left (omega arith) c.loop-i.invariant.scanned more

pub returns-then-not-holds-clause-stopped : goal.returns-then-not-holds-clause-stopped
returns-then-not-holds-clause-stopped c =
    let size = length-runs_in c.args.runs c.args.bytes.now c.args.at in
    let is = get_or-runs_in c.args.runs c.args.bytes.now c.args.at c.loop-i.i c.run_at-run.result (omega arith) ∙ sym c.run_at-run.ensures in
    let len = c.from-len.ensures in
    (c.loop-i.i, stopped c.args.self.now.sizes (runs_in c.args.runs c.args.bytes.now c.args.at) c.loop-i.i c.args.place c.loop-i.left c.run_at-run.result (omega arith) is c.loop-i.invariant.past (inr (omega arith, λ inside. let bad : false ≡ true = c.if-not-holds.ensures.1 inside in cc)))

pub returns-then-len-eq0-clause-stopped : goal.returns-then-len-eq0-clause-stopped
returns-then-len-eq0-clause-stopped c =
    let size = length-runs_in c.args.runs c.args.bytes.now c.args.at in
    let is = get_or-runs_in c.args.runs c.args.bytes.now c.args.at c.loop-i.i c.run_at-run.result (omega arith) ∙ sym c.run_at-run.ensures in
    let len = c.from-len.ensures in
    (c.loop-i.i, stopped c.args.self.now.sizes (runs_in c.args.runs c.args.bytes.now c.args.at) c.loop-i.i c.args.place c.loop-i.left c.run_at-run.result (omega arith) is c.loop-i.invariant.past (inl (omega arith)))

pub returns-clause-stopped : goal.returns-clause-stopped
returns-clause-stopped c =
    let size = length-runs_in c.args.runs c.args.bytes.now c.args.at in
    subst (λ (l : List Run). IsPast c.args.self.now.sizes l c.args.place c.loop-i.left) (take_all c.loop-i.i (runs_in c.args.runs c.args.bytes.now c.args.at) (omega arith)) c.loop-i.invariant.past
