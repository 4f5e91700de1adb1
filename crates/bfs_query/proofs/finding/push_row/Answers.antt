use Rattle.std.proofs.Common.{◌∙◌, ◌++◌, ◌∷◌, [], ap}
use Rattle.bfs_tree.specs.declared.rows.FoundRow.{FoundRow}
use Rattle.bfs_query.proofs.finding.push_row.Goals as goal

pub returns-in-Ok-add-clause-row : goal.returns-in-Ok-add-clause-row
returns-in-Ok-add-clause-row g c v m w tree lists told sized ready h same =
    c.in-Ok-add.ensures.added ∙ ap (λ (x : FoundRow). c.args.rows.now.items ++ x ∷ []) (c.in-Ok.ensures.row v m w tree lists told sized ready h same)

pub returns-in-Err-clause-row : goal.returns-in-Err-clause-row
returns-in-Err-clause-row g c v m w tree lists told sized ready h same = c.in-Err.ensures.row v m w tree lists told sized ready h same

pub returns-in-Err-add-clause-cause : goal.returns-in-Err-add-clause-cause
returns-in-Err-add-clause-cause g c = c.in-Err-add.ensures.cause (g.B.Blocks.counts c.args.under.now) (g.B.Blocks.counts c.row_of.new.under)
