use Rattle.std.proofs.Common.{◌≡◌, ◌∙◌, rules, w64, to_z, of_z}
use Rattle.bfs_range.proofs.Answering.{answer-here}
use Rattle.bfs_range.proofs.rows.take_row.Goals as goal

pub returns-clause-sure : goal.returns-clause-sure
returns-clause-sure g c b e read =
    let signed : to_z w64 (of_z w64 c.row_value.result) ≡ c.row_value.result = search rules in (
      record { key = c.in-Ok-from_slice.key; numbers = c.in-Ok.numbers },
      c.in-Ok-push.ensures.items,
      answer-here c.args.kind b c.args.page.now c.args.leaf c.args.i (to_z w64 (of_z w64 c.row_value.result)) c.in-Ok-from_slice.key c.in-Ok.numbers read c.requires.inside (signed ∙ c.row_value.ensures) (c.in-Ok.ensures.sure b e) (c.in-Ok-from_slice.ensures ∙ c.row_key.ensures),
    )
