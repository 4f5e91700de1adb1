use Rattle.std.proofs.Common.{⊎_elim, sym, ◌∙◌}
use Rattle.bfs_tool.proofs.Made.{made_of, never_six}
use Rattle.bfs_tool.proofs.tool.make.Goals as goal

pub returns-clause-made : goal.returns-clause-made
returns-clause-made g c = λ image held is.
    let making = c.make_volume-making.result in
    c.make_volume-making.ensures.made image held
    (⊎_elim
    (λ same. ⊎_elim (λ zero. made_of making (sym c.status.ensures ∙ sym same ∙ zero)) (λ six. absurd (never_six making (sym c.status.ensures ∙ sym same ∙ six))) is)
    (λ failed. made_of making (sym c.status.ensures ∙ failed.0))
    c.report.ensures.status)
