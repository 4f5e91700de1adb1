use Rattle.std.proofs.Common.{◌∙◌, ◌++◌, List, ap}
use Rattle.bfs_stream.specs.Told.{contents}
use Rattle.bfs_values.specs.Rows.{rows_in}
use Rattle.bfs_range.specs.declared.ranged.RangedRow.{RangedRow}
use Rattle.bfs_range.specs.Answers.{answer_of}
use Rattle.bfs_sound.specs.Inodes.{content}
use Rattle.bfs_sound.specs.Whole.{volume_of}
use Rattle.bfs_value_walk.proofs.Pairing.{written}
use Rattle.bfs_index_walk.proofs.values.read_values.Goals as goal

pub returns-in-Ok-clause-written : goal.returns-in-Ok-clause-written
returns-in-Ok-clause-written g c m told =
    let b = content (volume_of c.args.sup.now (contents m)) c.args.id in
    let w = c.in-Ok.ensures.whole m told in
    written c.args.kind b c.into_ranged.result (w.0, c.into_ranged.ensures ∙ w.1 ∙ ap (λ (l : List RangedRow). l ++ answer_of b (rows_in c.args.kind b)) c.new-kept.ensures)
