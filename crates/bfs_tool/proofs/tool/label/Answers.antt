use Rattle.std.proofs.Common.{sym, ◌∙◌, ⊎_elim}
use Rattle.bfs_tool.proofs.Held.{done_of}
use Rattle.bfs_tool.proofs.tool.label.Goals as goal

pub returns-clause-done : goal.returns-clause-done
returns-clause-done g c = λ image held is.
    c.relabel-ending.ensures.done image held (done_of _ (sym c.status.ensures ∙ ⊎_elim (λ same. sym same ∙ is) (λ failed. failed.0) c.report.ensures.status))
