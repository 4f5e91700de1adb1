use Rattle.std.proofs.Common.{◌≡◌, ◌<◌, ◌+◌, ◌-◌, ◌∙◌, ap, sym, arith, take, drop}
use Rattle.bfs_node.specs.Page.{count_at, start_at, end_at, key_of}
use Rattle.bfs_node.proofs.PageLayout.{length-rows_of, row_in-rows_of, end-within}
use Rattle.bfs_node.proofs.read.row_key.Goals as goal

pub key_start-requires-clause-place : goal.key_start-requires-clause-place
key_start-requires-clause-place c = omega (arith, c.requires.place)

pub overflow_add-key_start : goal.overflow_add-key_start
overflow_add-key_start c =
    let lt : c.args.i < count_at c.args.page.now = omega (arith, length-rows_of c.args.page.now, c.requires.place) in
    omega (arith, c.key_start.ensures.field, c.requires.page.ascend c.args.i lt, end-within c.args.page.now c.requires.page c.args.i lt, c.requires.page.bounds)

pub key_end-requires-clause-place : goal.key_end-requires-clause-place
key_end-requires-clause-place c = omega (arith, length-rows_of c.args.page.now, c.requires.place)

pub cut-requires-clause-order : goal.cut-requires-clause-order
cut-requires-clause-order c =
    let lt : c.args.i < count_at c.args.page.now = omega (arith, length-rows_of c.args.page.now, c.requires.place) in
    omega (arith, c.key_start.ensures.field, c.key_end.ensures.end, c.requires.page.ascend c.args.i lt)

pub returns : goal.returns
returns c =
    let lt : c.args.i < count_at c.args.page.now = omega (arith, length-rows_of c.args.page.now, c.requires.place) in
    let len : 28 + c.key_end.result - (28 + c.key_start.result) ≡ end_at c.args.page.now c.args.i - start_at c.args.page.now c.args.i = omega (arith, c.key_start.ensures.field, c.key_end.ensures.end) in
    c.cut.ensures ∙ ap (λ n. take n (drop (28 + c.key_start.result) c.args.page.now)) len
    ∙ ap (λ s. take (end_at c.args.page.now c.args.i - start_at c.args.page.now c.args.i) (drop (28 + s) c.args.page.now)) c.key_start.ensures.field
    ∙ sym (ap key_of (row_in-rows_of c.args.page.now c.args.i lt))
