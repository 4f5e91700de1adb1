use Rattle.std.proofs.Common.{◌≡◌, ◌∙◌, ◌+◌, ◌-◌, ℕ, List, take, drop, sym, ap, ap₂, arith}
use Rattle.bfs_bytes.specs.Fields.{unsigned_at}
use Rattle.bfs_smalldata.specs.Items.{Item, name_size, item_in}
use Rattle.bfs_smalldata.proofs.Reading.{part_dropped}
use Rattle.bfs_sound.specs.Attributes.{is_name_item}
use Rattle.bfs_attr.proofs.Walked.{unsigned_there}
use Rattle.bfs_attr.proofs.longest.is_name_at.Goals as goal

pub returns : goal.returns
returns c =
    let area = c.args.area.now in
    let at = c.args.at in
    let item : Item = item_in (drop at area) in
    let kind : c.u32_at-kind.result ≡ item.kind = c.u32_at-kind.ensures ∙ sym (unsigned_there 4 area at 0 ∙ ap (unsigned_at 4 area) (let e : at + 0 ≡ at = omega arith in e)) in
    let size : c.from-size.result ≡ name_size (drop at area) = c.from-size.ensures ∙ c.u16_at.ensures ∙ sym (unsigned_there 2 area at 4) in
    let long : at + 8 + c.from-size.result - (at + 8) ≡ c.from-size.result = omega arith in
    let name : take (at + 8 + c.from-size.result - (at + 8)) (drop (at + 8) area) ≡ item.name =
    ap (λ (n : ℕ). take n (drop (at + 8) area)) (long ∙ size) ∙ sym (part_dropped (name_size (drop at area)) 8 at area) in
    c.is_own_name.ensures item.bytes ∙ ap₂ (λ (k : ℕ) (n : List ℕ). is_name_item (record { kind = k; name = n; bytes = item.bytes })) kind name
