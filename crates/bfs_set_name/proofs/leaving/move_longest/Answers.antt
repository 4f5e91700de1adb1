use Rattle.std.proofs.Common.{◌≡◌, ◌∙◌, ℕ, List, Bool, Option, length, drop, sym, ap, subst, arith, max}
use Rattle.std.specs.Prelude.{OnOk, IfErr}
use Rattle.bfs_super.specs.Conditions.{ceil}
use Rattle.bfs_smalldata.specs.Items.{Item}
use Rattle.bfs_stream.specs.Told.{contents}
use Rattle.bfs_attr.specs.Bearers.{bearer_of}
use Rattle.bfs_attr.specs.SmallData.{attribute_in}
use Rattle.bfs_attrs.specs.Moved.{IsWithin, HasMovedOut, IsNotMoved}
use Rattle.bfs_attrs.proofs.Begins.{add_wider_kept}
use Rattle.bfs_attrs.proofs.Moves.{undone_moved}
use Rattle.bfs_set_name.specs.Renamed.{IsShortNamed, IsPlaced, longest_in}
use Rattle.bfs_set_name.proofs.Placed.{begun, is_here, none_placed}
use Rattle.bfs_set_name.proofs.Nexts.{next_within, block_undone, block_added}
use Rattle.bfs_set_name.proofs.leaving.move_longest.Goals as goal

pub returns-in-Err-clause-faults : goal.returns-in-Err-clause-faults
returns-in-Err-clause-faults g c m item told next =
    undone_moved (bearer_of c.args.inode c.args.site.sup) c.args.bitmap.now m item.name (attribute_in item) (ceil (length item.bytes) c.args.site.sup.block_size) c.blocked.result
    (block_undone (g.E.Blocks.counts c.args.edits.now) (g.E.Blocks.counts c.read_block.new.under) c.in-Err.fault c.blocked.result c.blocked.ensures c.in-Err.ensures.cause)

pub returns-in-Err-clause-cause : goal.returns-in-Err-clause-cause
returns-in-Err-clause-cause g c =
    block_added (g.E.Blocks.counts c.args.edits.now) (g.E.Blocks.counts c.read_block.new.under) c.in-Err.fault c.blocked.result c.blocked.ensures c.in-Err.ensures.cause (max 1 (ceil 2048 c.args.site.sup.block_size))

pub returns-in-None-clause-faults : goal.returns-in-None-clause-faults
returns-in-None-clause-faults g c m item told next =
    let same : c.deref.result.now ≡ contents m c.args.inode = c.deref.ensures.value ∙ c.in-Ok.ensures.read m told next.holds.inode in
    absurd (none_placed c.deref.result.now (longest_in (drop 232 c.deref.result.now)) item
    (subst (λ (o : Option ℕ). IsPlaced c.deref.result.now (longest_in (drop 232 c.deref.result.now)) o) c.in-None.is c.longest_place.ensures.placed)
    (ap (λ (l : List ℕ). longest_in (drop 232 l)) same ∙ next.first))

pub move_item-requires-clause-begins : goal.move_item-requires-clause-begins
move_item-requires-clause-begins g c =
    (begun c.deref.result.now c.deref-in-Some.result.now c.in-Some.at (c.deref-in-Some.ensures.value ∙ sym c.deref.ensures.value)
    (subst (λ (o : Option ℕ). IsPlaced c.deref.result.now (longest_in (drop 232 c.deref.result.now)) o) c.in-Some.is c.longest_place.ensures.placed)).2.goes_on

pub move_item-requires-clause-whole : goal.move_item-requires-clause-whole
move_item-requires-clause-whole g c =
    (begun c.deref.result.now c.deref-in-Some.result.now c.in-Some.at (c.deref-in-Some.ensures.value ∙ sym c.deref.ensures.value)
    (subst (λ (o : Option ℕ). IsPlaced c.deref.result.now (longest_in (drop 232 c.deref.result.now)) o) c.in-Some.is c.longest_place.ensures.placed)).2.inside

pub move_item-requires-clause-named : goal.move_item-requires-clause-named
move_item-requires-clause-named g c m told =
    let told0 = sym c.in-Ok.ensures.told ∙ told in
    let next = c.requires.next m told0 in
    let same : c.deref.result.now ≡ contents m c.args.inode = c.deref.ensures.value ∙ c.in-Ok.ensures.read m told0 next.1.holds.inode in
    subst IsShortNamed
    (is_here c.deref.result.now c.deref-in-Some.result.now c.in-Some.at (c.deref-in-Some.ensures.value ∙ sym c.deref.ensures.value) (contents m c.args.inode) next.0
    (subst (λ (o : Option ℕ). IsPlaced c.deref.result.now (longest_in (drop 232 c.deref.result.now)) o) c.in-Some.is c.longest_place.ensures.placed) same next.1.first)
    next.1.short

pub move_item-requires-clause-within : goal.move_item-requires-clause-within
move_item-requires-clause-within g c m told =
    let b = bearer_of c.args.inode c.args.site.sup in
    let told0 = sym c.in-Ok.ensures.told ∙ told in
    let next = c.requires.next m told0 in
    let same : c.deref.result.now ≡ contents m c.args.inode = c.deref.ensures.value ∙ c.in-Ok.ensures.read m told0 next.1.holds.inode in
    subst (λ (x : Item). IsWithin b c.args.bitmap.now m x.name (attribute_in x))
    (is_here c.deref.result.now c.deref-in-Some.result.now c.in-Some.at (c.deref-in-Some.ensures.value ∙ sym c.deref.ensures.value) (contents m c.args.inode) next.0
    (subst (λ (o : Option ℕ). IsPlaced c.deref.result.now (longest_in (drop 232 c.deref.result.now)) o) c.in-Some.is c.longest_place.ensures.placed) same next.1.first)
    (next_within c.longest_can_move.ensures b c.args.bitmap.now m next.0 next.1)

pub returns-clause-moved : goal.returns-clause-moved
returns-clause-moved g c m item told next =
    let b = bearer_of c.args.inode c.args.site.sup in
    let told1 = c.in-Ok.ensures.told ∙ told in
    let same : c.deref.result.now ≡ contents m c.args.inode = c.deref.ensures.value ∙ c.in-Ok.ensures.read m told next.holds.inode in
    let here =
    is_here c.deref.result.now c.deref-in-Some.result.now c.in-Some.at (c.deref-in-Some.ensures.value ∙ sym c.deref.ensures.value) (contents m c.args.inode) item
    (subst (λ (o : Option ℕ). IsPlaced c.deref.result.now (longest_in (drop 232 c.deref.result.now)) o) c.in-Some.is c.longest_place.ensures.placed) same next.first in
    subst (λ (x : Item × (ℕ → Bool)). OnOk c.move_item.result (HasMovedOut b c.args.bitmap.now c.move_item.new.bitmap m x.0.name (g.E.Blocks.told c.move_item.new.edits) x.1 (g.E.Blocks.changed c.move_item.new.edits)))
    (λ i. (sym here i, c.in-Ok.ensures.changed i))
    (c.move_item.ensures.moved m told1)

pub returns-clause-keeps : goal.returns-clause-keeps
returns-clause-keeps g c m told = c.move_item.ensures.keeps m (c.in-Ok.ensures.told ∙ told)

pub returns-clause-faults : goal.returns-clause-faults
returns-clause-faults g c m item told next =
    let b = bearer_of c.args.inode c.args.site.sup in
    let told1 = c.in-Ok.ensures.told ∙ told in
    let same : c.deref.result.now ≡ contents m c.args.inode = c.deref.ensures.value ∙ c.in-Ok.ensures.read m told next.holds.inode in
    let here =
    is_here c.deref.result.now c.deref-in-Some.result.now c.in-Some.at (c.deref-in-Some.ensures.value ∙ sym c.deref.ensures.value) (contents m c.args.inode) item
    (subst (λ (o : Option ℕ). IsPlaced c.deref.result.now (longest_in (drop 232 c.deref.result.now)) o) c.in-Some.is c.longest_place.ensures.placed) same next.first in
    subst (λ (x : Item). IfErr c.move_item.result (IsNotMoved b c.args.bitmap.now m x.name (attribute_in x) (ceil (length x.bytes) c.args.site.sup.block_size))) (sym here)
    (c.move_item.ensures.faults m told1)

pub returns-clause-stays : goal.returns-clause-stays
returns-clause-stays g c k changed = c.move_item.ensures.stays k (ap (λ (f : ℕ → Bool). f k) c.in-Ok.ensures.changed ∙ changed)

pub returns-clause-cause : goal.returns-clause-cause
returns-clause-cause g c =
    let n = max 1 (ceil 2048 c.args.site.sup.block_size) in
    add_wider_kept n n (g.E.Blocks.counts c.args.edits.now) (g.E.Blocks.counts c.read_block.new.under) (g.E.Blocks.counts c.move_item.new.edits) c.move_item.result (omega arith) c.in-Ok.ensures.later c.move_item.ensures.cause
