use Rattle.std.proofs.Common.{◌≡◌, ◌++◌, ◌∙◌, List, ℕ, sym, ap}
use Rattle.bfs_node.specs.Page.{Row}
use Rattle.bfs_pages.specs.Trees.{page_in}
use Rattle.bfs_pages.proofs.OfKind.{if_some}
use Rattle.bfs_names_walk.specs.Rows.{as_rows}
use Rattle.bfs_names_walk.proofs.Gathered.{rows_here}
use Rattle.bfs_names_walk.proofs.leaves.take_leaf.Goals as goal

pub returns-in-Ok-take_rows-clause-taken : goal.returns-in-Ok-take_rows-clause-taken
returns-in-Ok-take_rows-clause-taken g c = λ b told.
    let page = if_some (λ (z : List ℕ). c.look_at_leaf.new.page ≡ page_in z c.args.at) _ b c.in-Ok.ensures.read told in
    c.in-Ok-take_rows.ensures ∙ ap (λ (l : List Row). as_rows c.args.rows.now.items ++ l) (sym (rows_here b c.args.at c.look_at_leaf.new.page page c.in-Ok.ensures.good c.in-Ok.ensures.leaf))
