use Rattle.std.proofs.Common.{rules}
use Rattle.std.specs.Cmp.Lexicographic.{nat_list_cmp_total}
use Rattle.bfs_base.specs.Keys.{text_cmp}
use Rattle.bfs_tree.proofs.Sorting.{sorted-by}
use Rattle.bfs_plain.proofs.sorts.sort_names.Goals as goal

pub returns : goal.returns
returns c = sorted-by text_cmp nat_list_cmp_total _ _ (λ a r f' k. search rules) c.in_ok-sort_by.ensures.sorted c.sort_by.ensures.stable
