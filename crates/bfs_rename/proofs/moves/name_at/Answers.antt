use Rattle.std.proofs.Common.{◌≡◌, ◌∙◌, ◌+◌, ◌-◌, ℕ, take, drop, sym, ap, arith}
use Rattle.bfs_smalldata.specs.Items.{name_size, item_in}
use Rattle.bfs_smalldata.proofs.Reading.{part_dropped}
use Rattle.bfs_attr.proofs.Walked.{unsigned_there}
use Rattle.bfs_rename.proofs.moves.name_at.Goals as goal

pub returns-in-Ok : goal.returns-in-Ok
returns-in-Ok c =
    let area = c.args.area.now in
    let at = c.args.at in
    let size : c.from-size.result ≡ name_size (drop at area) = c.from-size.ensures ∙ c.u16_at.ensures ∙ sym (unsigned_there 2 area at 4) in
    let long : at + 8 + c.from-size.result - (at + 8) ≡ c.from-size.result = omega arith in
    let name : take (at + 8 + c.from-size.result - (at + 8)) (drop (at + 8) area) ≡ (item_in (drop at area)).name =
    ap (λ (n : ℕ). take n (drop (at + 8) area)) (long ∙ size) ∙ sym (part_dropped (name_size (drop at area)) 8 at area) in
    c.in-Ok.ensures ∙ name
