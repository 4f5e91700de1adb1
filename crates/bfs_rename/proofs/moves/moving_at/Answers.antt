use Rattle.std.proofs.Common.{◌≡◌, ◌∙◌, ◌-◌, ℕ, List, Some, None, length, take, drop, sym, ap, subst, length-drop}
use Rattle.bfs_smalldata.specs.Items.{items_of}
use Rattle.bfs_look.proofs.Climbing.{take_whole}
use Rattle.bfs_sound.specs.Need.{moving_from}
use Rattle.bfs_rename.specs.Moving.{AreMoving}
use Rattle.bfs_rename.proofs.moves.moving_at.Goals as goal

pub returns-in-Err-clause-moving : goal.returns-in-Err-clause-moving
returns-in-Err-clause-moving c items item is distinct found own =
    let b = c.args.block.now in
    let e : take (length b - 232) (drop 232 b) ≡ drop 232 b = ap (λ (n : ℕ). take n (drop 232 b)) (sym (length-drop 232 b)) ∙ take_whole (drop 232 b) in
    let bad : None ≡ Some items = sym c.in-Err.ensures.err.0 ∙ ap items_of e ∙ is in
    absurd cc

pub returns-in-Ok-moving_in-clause-moving : goal.returns-in-Ok-moving_in-clause-moving
returns-in-Ok-moving_in-clause-moving c items item is distinct found own =
    let b = c.args.block.now in
    let e : take (length b - 232) (drop 232 b) ≡ drop 232 b = ap (λ (n : ℕ). take n (drop 232 b)) (sym (length-drop 232 b)) ∙ take_whole (drop 232 b) in
    subst (λ (a : List ℕ). AreMoving c.args.site.sup.block_size (moving_from (length a) c.args.name (Some items)) c.in-Ok-moving_in.moving) e
    (c.in-Ok-moving_in.ensures.moving items item (ap items_of e ∙ is) distinct found own)
