use Rattle.std.proofs.Common.{rules, ◌≡◌, ◌<◌, Some, sym, ap, ◌∙◌, w64, to_z, of_z, length, arith}
use Rattle.bfs_node.specs.Page.{rows_of, overflow_of}
use Rattle.bfs_pages.specs.Trees.{place_of}
use Rattle.bfs_walk.proofs.Going.{child_at, child_last, child_none}
use Rattle.bfs_walk.proofs.way.child_of.Goals as goal

pub returns-then-i-count : goal.returns-then-i-count
returns-then-i-count c =
    let same : to_z w64 (of_z w64 c.row_value.result) ≡ c.row_value.result = search rules in
    ap Some (c.place.ensures ∙ ap place_of (same ∙ c.row_value.ensures)) ∙ sym (child_at (rows_of c.args.page.now) (overflow_of c.args.page.now) c.args.i (omega (arith, c.if-i-count.true, c.row_count-count.ensures)))

pub returns-then-i-count-2 : goal.returns-then-i-count-2
returns-then-i-count-2 c =
    let same : to_z w64 (of_z w64 c.overflow_link.result) ≡ c.overflow_link.result = search rules in
    ap Some (c.place-then-i-count-2.ensures ∙ ap place_of (same ∙ c.overflow_link.ensures)) ∙ sym (child_last (rows_of c.args.page.now) (overflow_of c.args.page.now) c.args.i (c.if-i-count-2.true ∙ c.row_count-count.ensures))

pub returns-else-i-count-2 : goal.returns-else-i-count-2
returns-else-i-count-2 c =
    let behind : length (rows_of c.args.page.now) < c.args.i = by_case in
    sym (child_none (rows_of c.args.page.now) (overflow_of c.args.page.now) c.args.i behind)
  where
    by_case : length (rows_of c.args.page.now) < c.args.i
    by_case = grind (arith, c.if-i-count.false, c.if-i-count-2.false, c.row_count-count.ensures)
