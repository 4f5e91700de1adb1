use Rattle.std.proofs.Common.{◌≡◌, ◌+◌, inl, inr, ⊎_elim, subst, rules}
use Rattle.std.specs.Prelude.{IfOk}
use Rattle.bfs_tool.specs.Shell.{soak_text}
use Rattle.bfs_tool.proofs.Shells.{run_unread, run_wrong}
use Rattle.bfs_tool.proofs.soaking.soak.Goals as goal

pub returns-clause-ends : goal.returns-clause-ends
returns-clause-ends g c =
    let run = c.run_workload-run.result.0 in
    let same : c.from.result ≡ c.args.count = search rules in
    let text = subst (λ n. IfOk c.summary_of-text.result (λ v. v.items ≡ soak_text (4 + n) run)) same c.summary_of-text.ensures in (
      run,
      c.print_run-shown.ensures.ends,
      c.print_run-shown.ensures.printed (soak_text (4 + c.args.count) run) text,
      c.print_run-shown.ensures.whole (soak_text (4 + c.args.count) run) text,
      (λ image held. ((λ why is. c.run_workload-run.ensures.unmounted image held why is), (λ not i left. c.run_workload-run.ensures.unmounted_moments image held not i left))),
      c.run_workload-run.ensures.run,
      c.run_workload-run.ensures.failures,
    )

pub returns-clause-others : goal.returns-clause-others
returns-clause-others g c = λ other.
    let run = c.run_workload-run.result.0 in
    let n = c.print_run-shown.ensures in
    ⊎_elim (λ two. n.others (inl two))
    (⊎_elim (λ five. c.run_workload-run.ensures.unread (run_unread run (n.unread five)))
    (⊎_elim (λ eight. n.others (inr (inl eight)))
    (⊎_elim (λ nine. run_wrong run c.run_workload-run.ensures.good (n.bad_line nine))
    (λ rest. n.others (inr (inr rest)))))) other
