use Rattle.std.proofs.Common.{◌∙◌, true, false, cond, sym, ap, arith}
use Rattle.bfs_tree_check.proofs.Rising.{not_is, test_none, test_row, test_bound}
use Rattle.bfs_tree_check.proofs.order.may_follow.Goals as goal

pub is_above-requires-clause-last : goal.is_above-requires-clause-last
is_above-requires-clause-last c = c.requires.last (λ e. let f = c.if-length-eq0.false in omega (arith, e, f))

pub is_above-requires-2-clause-key : goal.is_above-requires-2-clause-key
is_above-requires-2-clause-key c = c.requires.last (λ e. let f = c.if-length-eq0.false in omega (arith, e, f))

pub returns-then-length-eq0 : goal.returns-then-length-eq0
returns-then-length-eq0 c = sym (test_none c.args.kind c.args.last.now c.args.key.now c.args.row c.if-length-eq0.true)

pub returns-then-row : goal.returns-then-row
returns-then-row c = c.is_above.ensures ∙ sym (test_row c.args.kind c.args.last.now c.args.key.now c.args.row (λ e. let f = c.if-length-eq0.false in omega (arith, e, f)) c.if-row.true)

pub returns : goal.returns
returns c = not_is c.is_above-2.result ∙ ap (λ b. cond b false true) c.is_above-2.ensures ∙ sym (test_bound c.args.kind c.args.last.now c.args.key.now c.args.row (λ e. let f = c.if-length-eq0.false in omega (arith, e, f)) c.if-row.false)
