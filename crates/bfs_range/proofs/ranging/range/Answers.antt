use Rattle.std.proofs.Common.{◌≤◌, ◌+◌, ℕ, List, Option, Some, ap, sym, ◌∙◌, subst}
use Rattle.std.specs.Option.{option_copied}
use Rattle.bfs_node.specs.Page.{Row}
use Rattle.bfs_pages.specs.Order.{Key}
use Rattle.bfs_pages.specs.Shapes.{tree_rows}
use Rattle.bfs_pages.specs.Trees.{header_in, state_of}
use Rattle.bfs_range.specs.Answers.{answer_of}
use Rattle.bfs_range.specs.Leaves.{leaf_list, first_leaf, right_of, leaves_upto}
use Rattle.bfs_values.specs.Reached.{AllMean}
use Rattle.bfs_range.specs.Meant.{pages_of}
use Rattle.bfs_range.specs.Ranges.{rows_between}
use Rattle.bfs_range.proofs.Least.{between-least, first-least}
use Rattle.bfs_range.proofs.ranging.range.Goals as goal

pub returns-in-Ok-clause-ranged : goal.returns-in-Ok-clause-ranged
returns-in-Ok-clause-ranged g c b reached t fs told tree a =
    let high : Option Key = option_copied c.args.high in
    let e = ap (λ (z : Key). rows_between c.args.kind (Some z) high (tree_rows t)) c.low_or_least-from.ensures.bytes ∙ between-least c.args.kind c.requires.kind (option_copied c.args.low) high (tree_rows t) in
    c.new.ensures ∙ c.in-Ok.ensures.ranged b reached t fs told tree (subst (λ (z : List Row). AllMean b z) (sym e) a) ∙ ap (λ (z : List Row). answer_of b z) e

pub returns-in-Ok-clause-steps : goal.returns-in-Ok-clause-steps
returns-in-Ok-clause-steps g c b reached t fs told tree a =
    let high : Option Key = option_copied c.args.high in
    let e = ap (λ (z : Key). rows_between c.args.kind (Some z) high (tree_rows t)) c.low_or_least-from.ensures.bytes ∙ between-least c.args.kind c.requires.kind (option_copied c.args.low) high (tree_rows t) in
    let f = ap (λ (z : Key). first_leaf c.args.kind (state_of c.args.kind b).levels t (Some z)) c.low_or_least-from.ensures.bytes ∙ first-least c.args.kind c.requires.kind (state_of c.args.kind b) reached t fs tree.holds (option_copied c.args.low) in
    subst (λ (z : List Row). c.range_from.new.steps ≤ c.args.steps.now + (header_in b).levels + 1 + leaves_upto c.args.kind high (right_of (first_leaf c.args.kind (state_of c.args.kind b).levels t (option_copied c.args.low)) (leaf_list t)) + pages_of b z) e
    (subst (λ (x : ℕ). c.range_from.new.steps ≤ c.args.steps.now + (header_in b).levels + 1 + leaves_upto c.args.kind high (right_of x (leaf_list t)) + pages_of b (rows_between c.args.kind (Some c.low_or_least-from.result.now) high (tree_rows t))) f
    (c.in-Ok.ensures.steps b reached t fs told tree (subst (λ (z : List Row). AllMean b z) (sym e) a)))

pub returns-in-Err-clause-ranged : goal.returns-in-Err-clause-ranged
returns-in-Err-clause-ranged g c b reached t fs told tree a =
    let high : Option Key = option_copied c.args.high in
    let e = ap (λ (z : Key). rows_between c.args.kind (Some z) high (tree_rows t)) c.low_or_least-from.ensures.bytes ∙ between-least c.args.kind c.requires.kind (option_copied c.args.low) high (tree_rows t) in
    c.in-Err.ensures.ranged b reached t fs told tree (subst (λ (z : List Row). AllMean b z) (sym e) a)

pub returns-in-Err-clause-steps : goal.returns-in-Err-clause-steps
returns-in-Err-clause-steps g c b reached t fs told tree a =
    let high : Option Key = option_copied c.args.high in
    let e = ap (λ (z : Key). rows_between c.args.kind (Some z) high (tree_rows t)) c.low_or_least-from.ensures.bytes ∙ between-least c.args.kind c.requires.kind (option_copied c.args.low) high (tree_rows t) in
    let f = ap (λ (z : Key). first_leaf c.args.kind (state_of c.args.kind b).levels t (Some z)) c.low_or_least-from.ensures.bytes ∙ first-least c.args.kind c.requires.kind (state_of c.args.kind b) reached t fs tree.holds (option_copied c.args.low) in
    subst (λ (z : List Row). c.range_from.new.steps ≤ c.args.steps.now + (header_in b).levels + 1 + leaves_upto c.args.kind high (right_of (first_leaf c.args.kind (state_of c.args.kind b).levels t (option_copied c.args.low)) (leaf_list t)) + pages_of b z) e
    (subst (λ (x : ℕ). c.range_from.new.steps ≤ c.args.steps.now + (header_in b).levels + 1 + leaves_upto c.args.kind high (right_of x (leaf_list t)) + pages_of b (rows_between c.args.kind (Some c.low_or_least-from.result.now) high (tree_rows t))) f
    (c.in-Err.ensures.steps b reached t fs told tree (subst (λ (z : List Row). AllMean b z) (sym e) a)))
