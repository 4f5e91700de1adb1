use Rattle.std.proofs.Common.{◌∙◌, ℕ, List, length, ap}
use Rattle.std.specs.Prelude.{◌==◌}
use Rattle.std.specs.List.{filter}
use Rattle.bfs_base.specs.declared.kind.KeyKind.TheVariants.{Text}
use Rattle.bfs_node.specs.Page.{Row}
use Rattle.bfs_range.specs.Answers.{answer_of}
use Rattle.bfs_range.specs.declared.ranged.RangedRow.{RangedRow}
use Rattle.bfs_stream_pages.specs.Held.{stream_of}
use Rattle.bfs_values.specs.Rows.{rows_in}
use Rattle.bfs_make.specs.Sites.{stream_in}
use Rattle.bfs_attr.proofs.Listed.{all_between}
use Rattle.bfs_attrs.proofs.Single.{is_row, same_count}
use Rattle.bfs_attrs.proofs.rows.names_one.Goals as goal

pub returns-in-Ok-clause-found : goal.returns-in-Ok-clause-found
returns-in-Ok-clause-found g c m told has =
    let bytes : List ℕ = stream_of (stream_in c.args.site c.args.directory) m in
    let rows : List Row = rows_in Text bytes in
    c.is_one.ensures
    ∙ ap (λ (l : List RangedRow). length (filter is_row l) == 1) (c.in-Ok.ensures.rows m told has.0 ∙ ap (answer_of bytes) (all_between rows))
    ∙ ap (λ (k : ℕ). k == 1) (same_count bytes rows)

pub returns-in-Err-clause-found : goal.returns-in-Err-clause-found
returns-in-Err-clause-found g c m told has = c.in-Err.ensures.rows m told has.0
