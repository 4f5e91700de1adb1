use Rattle.std.proofs.Common.{◌≡◌, ◌++◌, ◌∙◌, ℕ, List, OnOk, sym, subst}
use Rattle.bfs_node.specs.Page.{Row, rows_of}
use Rattle.bfs_pages.specs.Trees.{page_in}
use Rattle.bfs_pages.proofs.OfKind.{if_some}
use Rattle.bfs_value_walk.specs.Taken.{AreTaken}
use Rattle.bfs_value_walk.proofs.Rowing.{rows_here, next_rows}
use Rattle.bfs_value_walk.proofs.leaves.take_leaf.Goals as goal

pub returns-clause-taken : goal.returns-clause-taken
returns-clause-taken g c = λ b done begin told start.
    let kind = c.args.kind in
    let size = g.P.Pages.size c.args.pages.now in
    let page = if_some (λ (z : List ℕ). c.look_at_leaf.new.page ≡ page_in z c.args.at) _ b c.in-Ok.ensures.read told in
    let same = rows_here kind b c.args.at c.look_at_leaf.new.page page c.in-Ok.ensures.good c.in-Ok.ensures.leaf in
    let here = subst (λ s. AreTaken kind b done s c.args.marks.now c.args.names.now (g.T.RowSink.took begin c.args.taken.now)) (sym c.in-Ok.ensures.size) start in
    let now = c.take_rows.ensures.taken kind b done begin (c.in-Ok.ensures.told ∙ told) here in
    subst (λ (rs : List Row). OnOk c.take_rows.result (AreTaken kind b (done ++ rs) size c.take_rows.new.marks c.take_rows.new.names (g.T.RowSink.took begin c.take_rows.new.taken))) (sym same)
    (subst (λ s. OnOk c.take_rows.result (AreTaken kind b (done ++ rows_of c.look_at_leaf.new.page) s c.take_rows.new.marks c.take_rows.new.names (g.T.RowSink.took begin c.take_rows.new.taken))) c.in-Ok.ensures.size now)

pub returns-clause-wrong : goal.returns-clause-wrong
returns-clause-wrong g c = λ b done rest begin told there split start.
    let kind = c.args.kind in
    let page = if_some (λ (z : List ℕ). c.look_at_leaf.new.page ≡ page_in z c.args.at) _ b c.in-Ok.ensures.read told in
    let here = subst (λ s. AreTaken kind b done s c.args.marks.now c.args.names.now (g.T.RowSink.took begin c.args.taken.now)) (sym c.in-Ok.ensures.size) start in
    c.take_rows.ensures.wrong kind b done rest begin (c.in-Ok.ensures.told ∙ told) (next_rows kind b c.args.at c.look_at_leaf.new.page page c.in-Ok.ensures.good c.in-Ok.ensures.leaf done rest there split) here
