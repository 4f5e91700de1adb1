use Rattle.std.proofs.Common.{◌≡◌, ◌∙◌, inl, inr, ⊎_elim, subst}
use Rattle.bfs_ports.specs.Ports.{appended}
use Rattle.bfs_tool.specs.Tool.{Prints}
use Rattle.bfs_tool.specs.Check.{checking_text}
use Rattle.bfs_tool.proofs.Checks.{reported}
use Rattle.bfs_tool.proofs.tool.print_checking.Goals as goal

pub returns-in-Ok-clause-ends : goal.returns-in-Ok-clause-ends
returns-in-Ok-clause-ends g c =
    let checking = c.args.checking.now in
    let old = g.W.Sink.written c.args.out.now in
    let new = g.W.Sink.written c.report.new.out in
    let text : c.deref.result.now ≡ checking_text checking = c.deref.ensures.value ∙ c.in-Ok.ensures.text in
    inr (
      reported checking c.status.result c.report.result c.status.ensures (⊎_elim (λ same. inl same) (λ failed. inr (failed.0, failed.1)) c.report.ensures.status),
      subst (Prints old new (g.W.Sink.faults c.args.out.now) (g.W.Sink.faults c.report.new.out)) text c.report.ensures.printed,
      (λ ok. subst (λ t. new ≡ appended old t) text (c.report.ensures.whole ok)),
    )
