use Rattle.std.proofs.Common.{◌≡◌, ◌∙◌, ◌+◌, ◌-◌, ℕ, List, take, drop, Some, ap, arith}
use Rattle.bfs_node_check.proofs.Named.{own_found}
use Rattle.bfs_node_check.proofs.name.own_name_in.Goals as goal

pub returns-then-item-eq-TEXT : goal.returns-then-item-eq-TEXT
returns-then-item-eq-TEXT c items is =
    let area : List ℕ = c.args.area.now in
    let item = c.in-Some.item in
    let size : item.at + item.len - item.at ≡ item.len = omega arith in
    ap (λ (n : ℕ). Some (take n (drop item.at area))) size ∙ own_found area items is item c.in-Some.ensures c.if-item-eq-TEXT.true
