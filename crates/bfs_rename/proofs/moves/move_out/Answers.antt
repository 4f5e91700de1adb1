use Rattle.std.proofs.Common.{◌≡◌, ◌∙◌, ℕ, List, Some, length, refl, sym, ap, subst, ◌≤◌}
use Rattle.std.specs.Option.{option_map}
use Rattle.bfs_smalldata.specs.Edits.{without}
use Rattle.bfs_smalldata.specs.Items.{Item, items_of}
use Rattle.bfs_sound.specs.Attributes.{own_name}
use Rattle.bfs_sound.specs.Need.{moving}
use Rattle.bfs_rename.specs.Moving.{AreMoving}
use Rattle.bfs_rename.proofs.Shrinking.{count_few, from_own, own_plain}
use Rattle.bfs_rename.proofs.moves.move_out.Goals as goal

pub make_room-requires-clause-few : goal.make_room-requires-clause-few
make_room-requires-clause-few c = count_few c.take.new.area 8192 (subst (λ (k : ℕ). k ≤ 8192) (sym c.take.auto.area) c.requires.few)

pub returns-in-Ok-clause-moving : goal.returns-in-Ok-clause-moving
returns-in-Ok-clause-moving c items item is distinct found own =
    let left : List Item = without own_name items in
    let now : items_of c.take.new.area ≡ Some left = c.take.ensures.items ∙ ap (option_map (without own_name)) is in
    subst (λ (xs : List Item). AreMoving c.args.block_size xs c.in-Ok.moving)
    (ap (λ (r : ℕ). moving (length left) r left) c.room_beside-room.ensures ∙ from_own (length c.args.area.now) c.args.name (Some items) items item refl distinct found own)
    (c.in-Ok.ensures.moving left now (own_plain items item distinct found own))
