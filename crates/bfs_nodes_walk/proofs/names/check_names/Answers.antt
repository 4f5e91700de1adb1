use Rattle.std.proofs.Common.{◌∙◌, ◌≤◌, ℕ, List, length, length-drop, drop, sym, ap, subst, arith}
use Rattle.bfs_smalldata.specs.Items.{items_of}
use Rattle.bfs_node_check.proofs.Walked.{rest_part, some_items}
use Rattle.bfs_names_walk.specs.Rows.{as_rows}
use Rattle.bfs_node_walk.specs.Listed.{proper}
use Rattle.bfs_nodes_walk.proofs.Among.{attributes_right}
use Rattle.bfs_nodes_walk.proofs.names.check_names.Goals as goal

pub check_area-requires : goal.check_area-requires
check_area-requires c =
    let long = length-drop 232 c.args.bytes.now in
    let few = c.requires.few in
    record { few = subst (λ (l : List ℕ). length l ≤ 8192) (sym (rest_part 232 c.args.bytes.now)) (let h : length (drop 232 c.args.bytes.now) ≤ 8192 = omega (arith, long, few) in h) }

pub returns-in-Ok-clause-right : goal.returns-in-Ok-clause-right
returns-in-Ok-clause-right c v same dir are =
    let bytes : List ℕ = c.args.bytes.now in
    let part = rest_part 232 bytes in
    let got = some_items (items_of _) c.in-Ok.ensures.some in
    attributes_right v c.args.id got.0 (proper (as_rows c.args.rows.now)) (ap (λ (l : List ℕ). items_of (drop 232 l)) same ∙ ap items_of (sym part) ∙ got.1) (c.in-Ok.ensures.distinct got.0 got.1) dir are (c.in-Ok.ensures.apart got.0 got.1)

pub returns-in-Err-clause-wrong : goal.returns-in-Err-clause-wrong
returns-in-Err-clause-wrong c v same reached are = c.in-Err.ensures.wrong v (ap (λ (l : List ℕ). drop 232 l) same ∙ sym (rest_part 232 c.args.bytes.now)) reached are
