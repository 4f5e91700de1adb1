use Rattle.std.proofs.Common.{ap, sym, ◌∙◌, subst}
use Rattle.bfs_node.specs.Page.{rows_of, links_of, HasLayout}
use Rattle.bfs_node.proofs.PageLayout.{layout-of}
use Rattle.bfs_node.proofs.RowsRead.{rows_of-is}
use Rattle.bfs_node.proofs.edit.remove_row.Goals as goal

pub returns-clause-page : goal.returns-clause-page
returns-clause-page c = subst HasLayout (sym c.copy_from_slice.ensures.after) (layout-of c.make_without_row.new.page _ c.make_without_row.ensures.rows)

pub returns-clause-rows : goal.returns-clause-rows
returns-clause-rows c = ap rows_of c.copy_from_slice.ensures.after ∙ rows_of-is c.make_without_row.new.page _ c.make_without_row.ensures.rows

pub returns-clause-links : goal.returns-clause-links
returns-clause-links c = ap links_of c.copy_from_slice.ensures.after ∙ c.make_without_row.ensures.links
