use Rattle.std.proofs.Common.{rules, ◌≡◌, ◌++◌, ◌∷◌, [], ◌∙◌, ℤ, List, sym, ap, subst, w64, to_z, of_z}
use Rattle.bfs_node.specs.Page.{Row, rows_of, row_in}
use Rattle.bfs_range.specs.declared.ranged.RangedRow.{RangedRow}
use Rattle.bfs_range.specs.Answers.{answer_row, answer_of}
use Rattle.bfs_values.specs.Values.{values_in}
use Rattle.bfs_value_walk.specs.Met.{AreMarked, IsNext}
use Rattle.bfs_value_walk.proofs.Rowing.{answer_more}
use Rattle.bfs_value_walk.proofs.rows.take_row.Goals as goal

pub returns-in-Err-clause-wrong : goal.returns-in-Err-clause-wrong
returns-in-Err-clause-wrong g c = λ kind b done rest begin told next start.
    let r : Row = row_in (rows_of c.args.page.now) c.args.i in
    let signed : to_z w64 (of_z w64 c.row_value-value.result) ≡ c.row_value-value.result = search rules in
    let is : to_z w64 (of_z w64 c.row_value-value.result) ≡ r.1 = signed ∙ c.row_value-value.ensures in
    c.in-Err.ensures.wrong kind b done rest r.0 told (subst (λ (z : ℤ). IsNext kind b c.args.leaf done (r.0, z) rest) (sym is) next) start.met

pub returns-in-Ok-take-clause-taken : goal.returns-in-Ok-take-clause-taken
returns-in-Ok-take-clause-taken g c = λ kind b done begin told start.
    let r : Row = row_in (rows_of c.args.page.now) c.args.i in
    let size = g.P.Pages.size c.args.pages.now in
    let signed : to_z w64 (of_z w64 c.row_value-value.result) ≡ c.row_value-value.result = search rules in
    let is : to_z w64 (of_z w64 c.row_value-value.result) ≡ r.1 = signed ∙ c.row_value-value.ensures in
    let numbers : c.in-Ok.numbers ≡ values_in b r.1 = c.in-Ok.ensures.numbers kind b done told start.met ∙ ap (values_in b) is in
    let row : record { key = c.row_key.result.now; numbers = c.in-Ok.numbers } ≡ answer_row b r = λ t. record { key = c.row_key.ensures t; numbers = numbers t } in
    record {
      met = subst (λ (z : ℤ). AreMarked kind b (done ++ (r.0, z) ∷ []) size c.take_value.new.marks c.take_value.new.names) is (c.in-Ok.ensures.met kind b done r.0 told start.met);
      are = subst (λ (l : List RangedRow). g.T.RowSink.took begin c.take.new.self l) (ap (λ (x : RangedRow). answer_of b done ++ x ∷ []) row ∙ sym (answer_more b done r)) (c.in-Ok-take.ensures.took begin (answer_of b done) start.are);
    }
