use Rattle.std.proofs.Common.{◌≡◌, ◌∙◌, ◌+◌, ◌-◌, ℕ, List, true, false, Option, take, drop, sym, ap, subst, arith}
use Rattle.std.specs.Prelude.{IfSome}
use Rattle.bfs_smalldata.specs.Items.{Item}
use Rattle.bfs_sound.specs.Attributes.{is_name_item}
use Rattle.bfs_attr.proofs.Named.{found_item}
use Rattle.bfs_attr.proofs.small.found_in.Goals as goal

pub returns-then-is_own_name : goal.returns-then-is_own_name
returns-then-is_own_name c =
    let area = c.args.area.now in
    let name = c.args.name.now in
    let place = c.in-Some.place in
    let f = found_item area name place (take place.len (drop place.at area)) c.requires c.in-Some.ensures (λ item p. p.bytes) in
    let own : is_name_item f.item ≡ true =
    ap (λ (k : ℕ). is_name_item (record { kind = k; name = f.item.name; bytes = f.item.bytes })) (sym f.kind_is)
    ∙ ap (λ (n : List ℕ). is_name_item (record { kind = place.kind; name = n; bytes = f.item.bytes })) (sym f.name_is)
    ∙ sym (c.is_own_name.ensures f.item.bytes) ∙ c.if-is_own_name.true in
    (f.items, f.are, subst (λ (o : Option Item). IfSome o (λ item. is_name_item item ≡ true)) (sym f.is) own)

pub returns-in-Ok : goal.returns-in-Ok
returns-in-Ok c =
    let area = c.args.area.now in
    let name = c.args.name.now in
    let place = c.in-Some.place in
    let size : place.at + place.len - place.at ≡ place.len = omega arith in
    let f = found_item area name place (take (place.at + place.len - place.at) (drop place.at area)) c.requires c.in-Some.ensures
    (λ item p. ap (λ (n : ℕ). take n (drop place.at area)) size ∙ p.bytes) in
    let own : is_name_item f.item ≡ false =
    ap (λ (k : ℕ). is_name_item (record { kind = k; name = f.item.name; bytes = f.item.bytes })) (sym f.kind_is)
    ∙ ap (λ (n : List ℕ). is_name_item (record { kind = place.kind; name = n; bytes = f.item.bytes })) (sym f.name_is)
    ∙ sym (c.is_own_name.ensures f.item.bytes) ∙ c.if-is_own_name.false in
    (f.items, f.item, f.are, f.is, own, c.in-Ok.ensures.0 ∙ f.kind_is, c.in-Ok.ensures.1 ∙ f.bytes_are)
