use Rattle.std.proofs.Common.{ap, ◌∙◌, rules, map as each}
use Rattle.std.specs.Cmp.{on_total}
use Rattle.bfs_tree.specs.Listings.{pair_cmp}
use Rattle.bfs_plain.specs.Plain.{pair_of}
use Rattle.bfs_tree.proofs.Sorting.{sorted-by, order-shown, pair_cmp_total}
use Rattle.bfs_plain.proofs.sorts.sort_pairs.Goals as goal

pub returns : goal.returns
returns c =
    ap (each pair_of)
    (sorted-by (λ a b. pair_cmp c.args.kind (pair_of a) (pair_of b)) (on_total pair_of (pair_cmp_total c.args.kind)) _ _ (λ a r f' k. search rules) c.in_ok-sort_by.ensures.sorted
    c.sort_by.ensures.stable)
    ∙ order-shown pair_of (pair_cmp c.args.kind) c.args.pairs.now.items
