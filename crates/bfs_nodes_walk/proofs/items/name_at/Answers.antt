use Rattle.std.proofs.Common.{◌≡◌, ◌+◌, ◌-◌, ◌∙◌, ℕ, take, drop, sym, ap, arith}
use Rattle.bfs_smalldata.specs.Items.{name_size}
use Rattle.bfs_node_check.proofs.Walked.{part_there}
use Rattle.bfs_nodes_walk.proofs.items.name_at.Goals as goal

pub returns : goal.returns
returns c =
    let area = c.args.area.now in
    let at = c.args.at in
    let size : at + 8 + c.name_size_at-size.result - (at + 8) ≡ c.name_size_at-size.result = omega arith in
    ap (λ (n : ℕ). take n (drop (at + 8) area)) (size ∙ c.name_size_at-size.ensures.value) ∙ sym (part_there (name_size (drop at area)) 8 at area)
