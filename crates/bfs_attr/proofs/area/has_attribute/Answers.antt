use Rattle.std.proofs.Common.{◌≡◌, ◌∙◌, ℕ, List, take, drop, ap}
use Rattle.bfs_sound.specs.Attributes.{is_name_item}
use Rattle.bfs_attr.proofs.Named.{found_item, is_attribute}
use Rattle.bfs_attr.proofs.area.has_attribute.Goals as goal

pub returns-in-Some : goal.returns-in-Some
returns-in-Some c =
    let area = c.args.area.now in
    let name = c.args.name.now in
    let place = c.in-Some.place in
    let f = found_item area name place (take place.len (drop place.at area)) c.requires c.in-Some.ensures (λ item p. p.bytes) in
    let own : c.is_own_name.result ≡ is_name_item f.item =
    c.is_own_name.ensures f.item.bytes
    ∙ ap (λ (n : List ℕ). is_name_item (record { kind = place.kind; name = n; bytes = f.item.bytes })) f.name_is
    ∙ ap (λ (k : ℕ). is_name_item (record { kind = k; name = f.item.name; bytes = f.item.bytes })) f.kind_is in
    is_attribute c.is_own_name.result area name f.items f.item f.are f.is own
