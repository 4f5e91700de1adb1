use Rattle.std.proofs.Common.{rules, ◌≡◌, ◌+◌, List, drop, take, get_or, sym, subst}
use Rattle.std.specs.List.{flat_map}
use Rattle.bfs_range.specs.declared.ranged.RangedRow.{RangedRow}
use Rattle.bfs_index_check.specs.Compared.{Pair, pairs_of, row_pairs, Ascends, IsTold}
use Rattle.bfs_index_check.proofs.Prefixes.{rows_from}
use Rattle.bfs_index_check.proofs.compare.hold_rows.Goals as goal

pub returns-in-Err-clause-wrong : goal.returns-in-Err-clause-wrong
returns-in-Err-clause-wrong c up other =
    let r : RangedRow = c.index-rows-i.result in
    let rows : List RangedRow = c.args.rows.now in
    let item : r ≡ get_or rows c.loop-i.i r = search rules in
    let split = rows_from rows c.loop-i.i r c.loop-i-test.true item in
    subst (λ (fs : List Pair). IsTold c.args.index.now c.args.kind (pairs_of c.args.wanted.now) fs c.in-Err.fault) (sym split)
    (c.in-Err.ensures.wrong (flat_map row_pairs (take c.loop-i.i rows)) (flat_map row_pairs (drop (c.loop-i.i + 1) rows)) c.loop-i.invariant.met up (subst (Ascends c.args.kind) split other))
