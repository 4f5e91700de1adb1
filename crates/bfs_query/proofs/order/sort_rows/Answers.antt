use Rattle.std.proofs.Common.{rules}
use Rattle.std.specs.Cmp.{on_total}
use Rattle.std.specs.Cmp.Lexicographic.{nat_list_cmp_total}
use Rattle.bfs_base.specs.Keys.{text_cmp}
use Rattle.bfs_tree.specs.declared.rows.AttributeRow.{AttributeRow}
use Rattle.bfs_tree.proofs.Sorting.{sorted-by}
use Rattle.bfs_query.proofs.order.sort_rows.Goals as goal

pub returns : goal.returns
returns c = sorted-by (λ (a b : AttributeRow). text_cmp a.name b.name) (on_total (λ (a : AttributeRow). a.name) nat_list_cmp_total) _ _ (λ a r f' k. search rules) c.in_ok-sort_by.ensures.sorted c.sort_by.ensures.stable
