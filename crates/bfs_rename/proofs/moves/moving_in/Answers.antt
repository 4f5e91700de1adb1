use Rattle.std.proofs.Common.{◌≡◌, ◌∙◌, ℕ, List, Some, length, ap, subst}
use Rattle.bfs_smalldata.specs.Items.{items_of}
use Rattle.bfs_sound.specs.Need.{moving_from}
use Rattle.bfs_rename.specs.Moving.{AreMoving}
use Rattle.bfs_rename.proofs.moves.moving_in.Goals as goal

pub returns-in-Ok-move_out-clause-moving : goal.returns-in-Ok-move_out-clause-moving
returns-in-Ok-move_out-clause-moving c items item is distinct found own =
    let same : c.deref_mut.result.now ≡ c.args.area.now = c.deref_mut.ensures.value ∙ c.in-Ok.ensures.items in
    subst (λ (a : List ℕ). AreMoving c.args.block_size (moving_from (length a) c.args.name (Some items)) c.in-Ok-move_out.moving) same
    (c.in-Ok-move_out.ensures.moving items item (ap items_of same ∙ is) distinct found own)
