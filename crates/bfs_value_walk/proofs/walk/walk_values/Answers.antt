use Rattle.std.proofs.Common.{◌∙◌, ◌++◌, List, ap}
use Rattle.bfs_values.specs.Rows.{rows_in}
use Rattle.bfs_range.specs.declared.ranged.RangedRow.{RangedRow}
use Rattle.bfs_range.specs.Answers.{answer_of}
use Rattle.bfs_value_walk.proofs.Pairing.{written}
use Rattle.bfs_value_walk.proofs.walk.walk_values.Goals as goal

pub returns-in-Ok-clause-written : goal.returns-in-Ok-clause-written
returns-in-Ok-clause-written g c = λ b told.
    let w = c.in-Ok.ensures.whole b told in
    written c.args.kind b c.into_ranged.result (w.0, c.into_ranged.ensures ∙ w.1 ∙ ap (λ (l : List RangedRow). l ++ answer_of b (rows_in c.args.kind b)) c.new-kept.ensures)
