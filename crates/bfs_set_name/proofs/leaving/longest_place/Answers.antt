use Rattle.std.proofs.Common.{◌≤◌, ◌+◌, ◌∙◌, ℕ, Option, Some, length, drop, refl, sym, ap, subst, arith}
use Rattle.std.specs.Option.{option_map}
use Rattle.bfs_smalldata.specs.Items.{items_of}
use Rattle.bfs_attr.proofs.Tops.{area_is}
use Rattle.bfs_set_name.specs.Renamed.{IsPlaced, longest_in}
use Rattle.bfs_set_name.proofs.Placed.{placed, placed_none, place_inside, some_list, at_area}
use Rattle.bfs_set_name.proofs.leaving.longest_place.Goals as goal

pub returns-in-Err-clause-placed : goal.returns-in-Err-clause-placed
returns-in-Err-clause-placed c =
    let block = c.args.block.now in
    placed_none block (ap items_of (sym (area_is block block refl)) ∙ c.in-Err.ensures.err.0)

pub returns-in-None-clause-placed : goal.returns-in-None-clause-placed
returns-in-None-clause-placed c =
    let block = c.args.block.now in
    let some = some_list block c.in-Ok.ensures.ok.0 c.in-Ok.ensures.ok.1 in
    subst (λ (o : Option ℕ). IsPlaced block (longest_in (drop 232 block)) (option_map (λ at. 232 + at) o)) c.in-None.is
    (placed block c.longest_attribute.result some (at_area block c.longest_attribute.result c.longest_attribute.ensures))

pub returns-in-Some-clause-placed : goal.returns-in-Some-clause-placed
returns-in-Some-clause-placed c =
    let block = c.args.block.now in
    let some = some_list block c.in-Ok.ensures.ok.0 c.in-Ok.ensures.ok.1 in
    subst (λ (o : Option ℕ). IsPlaced block (longest_in (drop 232 block)) (option_map (λ at. 232 + at) o)) c.in-Some.is
    (placed block c.longest_attribute.result some (at_area block c.longest_attribute.result c.longest_attribute.ensures))

pub returns-in-Some-clause-inside : goal.returns-in-Some-clause-inside
returns-in-Some-clause-inside c =
    let block = c.args.block.now in
    let some = some_list block c.in-Ok.ensures.ok.0 c.in-Ok.ensures.ok.1 in
    let placed : IsPlaced block (longest_in (drop 232 block)) (Some (232 + c.in-Some.at)) =
    subst (λ (o : Option ℕ). IsPlaced block (longest_in (drop 232 block)) (option_map (λ at. 232 + at) o)) c.in-Some.is
    (placed block c.longest_attribute.result some (at_area block c.longest_attribute.result c.longest_attribute.ensures)) in
    let inside : 232 + c.in-Some.at + 8 ≤ length block = place_inside block (longest_in (drop 232 block)) (Some (232 + c.in-Some.at)) placed in
    omega (arith, inside)

pub overflow_add-result : goal.overflow_add-result
overflow_add-result c =
    let block = c.args.block.now in
    let some = some_list block c.in-Ok.ensures.ok.0 c.in-Ok.ensures.ok.1 in
    let placed : IsPlaced block (longest_in (drop 232 block)) (Some (232 + c.in-Some.at)) =
    subst (λ (o : Option ℕ). IsPlaced block (longest_in (drop 232 block)) (option_map (λ at. 232 + at) o)) c.in-Some.is
    (placed block c.longest_attribute.result some (at_area block c.longest_attribute.result c.longest_attribute.ensures)) in
    let inside : 232 + c.in-Some.at + 8 ≤ length block = place_inside block (longest_in (drop 232 block)) (Some (232 + c.in-Some.at)) placed in
    omega (arith, inside)
