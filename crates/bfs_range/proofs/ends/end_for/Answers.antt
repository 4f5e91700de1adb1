use Rattle.std.proofs.Common.{◌+◌, Option, None, ap, sym, subst, arith}
use Rattle.std.specs.Option.{option_copied}
use Rattle.bfs_node.specs.Page.{rows_of}
use Rattle.bfs_pages.specs.Order.{Key}
use Rattle.bfs_pages.proofs.Sorted.{by-index}
use Rattle.bfs_range.specs.Ends.{EndsAt}
use Rattle.bfs_range.proofs.Between.{ends-found, ends-missed, ends-open}
use Rattle.bfs_range.proofs.ends.end_for.Goals as goal

pub overflow_add-result : goal.overflow_add-result
overflow_add-result c = omega (arith, c.in-Ok.ensures.inside, c.row_count-count.ensures, c.row_count-count.type_inv)

pub returns-in-Ok-clause-first : goal.returns-in-Ok-clause-first
returns-in-Ok-clause-first c up =
    subst (λ (z : Option Key). EndsAt c.args.kind (rows_of c.args.page.now) z (c.in-Ok.i + 1)) (sym (ap (λ o. option_copied o) c.in-Some.is))
    (ends-found c.args.kind (rows_of c.args.page.now) c.in-Some.key.now c.in-Ok.i up (c.in-Ok.ensures.place (by-index c.args.kind (rows_of c.args.page.now) up)))

pub returns-in-Err-clause-first : goal.returns-in-Err-clause-first
returns-in-Err-clause-first c up =
    subst (λ (z : Option Key). EndsAt c.args.kind (rows_of c.args.page.now) z c.in-Err.i) (sym (ap (λ o. option_copied o) c.in-Some.is))
    (ends-missed c.args.kind (rows_of c.args.page.now) c.in-Some.key.now c.in-Err.i (c.in-Err.ensures.place (by-index c.args.kind (rows_of c.args.page.now) up)))

pub returns-in-None-clause-first : goal.returns-in-None-clause-first
returns-in-None-clause-first c up =
    subst (λ (z : Option Key). EndsAt c.args.kind (rows_of c.args.page.now) z c.row_count-count.result) (sym (ap (λ o. option_copied o) c.in-None.is))
    (subst (EndsAt c.args.kind (rows_of c.args.page.now) None) (sym c.row_count-count.ensures) (ends-open c.args.kind (rows_of c.args.page.now)))
