use Rattle.std.proofs.Common.{rules, ◌≡◌, ◌≤◌, List, length, get_or, arith}
use Rattle.bfs_sound.specs.Attributes.{attribute_directory}
use Rattle.bfs_sound.specs.Inodes.{rows_of}
use Rattle.bfs_names_walk.specs.declared.row.NameRow.{NameRow}
use Rattle.bfs_attr_walk.proofs.Attributing.{row_there}
use Rattle.bfs_nodes_walk.proofs.Others.{next_other, all_other}
use Rattle.bfs_nodes_walk.proofs.names.check_rows.Goals as goal

pub loop-i-init : goal.loop-i-init
loop-i-init c items is = tt

pub loop-i-preserved : goal.loop-i-preserved
loop-i-preserved c items is =
    let r : NameRow = c.index-rows-i.result in
    let rows : List NameRow = c.args.rows.now in
    let item : r ≡ get_or rows c.loop-i.i r = search rules in
    next_other items rows c.loop-i.i r c.loop-i-test.true item (c.loop-i.invariant items is) (c.in-Ok.ensures.apart items is)

pub returns-in-Err-clause-wrong : goal.returns-in-Err-clause-wrong
returns-in-Err-clause-wrong c v same reached are =
    let r : NameRow = c.index-rows-i.result in
    let rows : List NameRow = c.args.rows.now in
    let item : r ≡ get_or rows c.loop-i.i r = search rules in
    c.in-Err.ensures.wrong v same reached (λ p. row_there rows (rows_of v (attribute_directory v c.args.id)) c.loop-i.i r c.loop-i-test.true item are p)

pub returns-clause-apart : goal.returns-clause-apart
returns-clause-apart c items is =
    let past : length c.args.rows.now ≤ c.loop-i.i = omega arith in
    all_other items c.args.rows.now c.loop-i.i past (c.loop-i.invariant items is)
