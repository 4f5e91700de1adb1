use Rattle.std.proofs.Common.{◌≡◌, ◌∙◌, ℕ, List, Some, length, drop, sym, ap, subst}
use Rattle.bfs_smalldata.specs.Items.{items_of}
use Rattle.bfs_sound.specs.Need.{moving_from}
use Rattle.bfs_stream.specs.Told.{contents}
use Rattle.bfs_look.proofs.Known.{node_has, node_told}
use Rattle.bfs_rename.specs.Moving.{AreMoving}
use Rattle.bfs_rename.proofs.moves.moving_of.Goals as goal

pub returns-in-Ok-moving_at-clause-moving : goal.returns-in-Ok-moving_at-clause-moving
returns-in-Ok-moving_at-clause-moving g c v m tree lists n told ready is apart =
    let s = c.args.site.sup in
    let id = c.args.id in
    let h = node_has s v m tree lists ready id n is in
    let own = h.called.name (λ e. apart (e ∙ sym ready.root)) in
    let block : c.deref.result.now ≡ contents m id = c.deref.ensures.value ∙ c.in-Ok.ensures.read m told (node_told s v m tree lists ready id n is) in
    let at = c.in-Ok-moving_at.ensures.moving h.items own.0 (ap (λ (b : List ℕ). items_of (drop 232 b)) block ∙ h.area) h.distinct own.1 own.2 in
    subst (λ o. AreMoving s.block_size (moving_from (length (drop 232 (contents m id))) (length c.args.name.now) o) c.in-Ok-moving_at.moving) (sym h.area)
    (subst (λ (b : List ℕ). AreMoving s.block_size (moving_from (length (drop 232 b)) (length c.args.name.now) (Some h.items)) c.in-Ok-moving_at.moving) block at)

pub returns-clause-moving : goal.returns-clause-moving
returns-clause-moving g c v m tree lists n told ready is apart =
    let s = c.args.site.sup in
    let id = c.args.id in
    let h = node_has s v m tree lists ready id n is in
    let own = h.called.name (λ e. apart (e ∙ sym ready.root)) in
    let block : c.deref.result.now ≡ contents m id = c.deref.ensures.value ∙ c.in-Ok.ensures.read m told (node_told s v m tree lists ready id n is) in
    c.in-Err-moving_at.ensures.moving h.items own.0 (ap (λ (b : List ℕ). items_of (drop 232 b)) block ∙ h.area) h.distinct own.1 own.2

pub returns-clause-cause : goal.returns-clause-cause
returns-clause-cause g c = c.in-Err-moving_at.ensures.cause (g.B.Blocks.counts c.args.under.now) (g.B.Blocks.counts c.read_block.new.under)
