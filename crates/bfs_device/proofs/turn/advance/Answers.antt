use Rattle.std.proofs.Common.{◌≡◌, ◌∙◌, drop, arith, refl, ap}
use Rattle.bfs_txn.specs.declared.group.Group.{Group}
use Rattle.bfs_device.specs.Layouts.{layout_of}
use Rattle.bfs_device.specs.Steps.{front_phase}
use Rattle.bfs_device.proofs.Sizes.{ring_low}
use Rattle.bfs_device.proofs.Fronts.{front_list, front_next, left_ready}
use Rattle.bfs_device.proofs.turn.advance.Goals as goal

pub next-next-requires-clause-few : goal.next-next-requires-clause-few
next-next-requires-clause-few c =
    let j = c.args.journal.now in
    let next = front_next (layout_of j.sup) j.sup.block_size j.left _ j.groups.items c.index-group.result.now c.requires.ready.follow c.requires.some c.index-group.ensures in
    omega (arith, next.sealed.room, ring_low j.sup c.requires.ready.valid)

pub returns-in-TailSafe-clause-ready : goal.returns-in-TailSafe-clause-ready
returns-in-TailSafe-clause-ready c =
    let j = c.args.journal.now in
    let g = c.remove-group.result in
    let groups = front_list j.groups.items g c.requires.some c.remove-group.ensures.value in
    let index = front_list j.groups.items c.index-group.result.now c.requires.some c.index-group.ensures in
    let same : c.index-group.result.now ≡ g = cc (groups, index) in
    left_ready j _ g (drop 1 j.groups.items) c.requires.ready groups c.in-TailSafe.is c.closed-journal.ensures refl c.remove-group.ensures.items (c.front-journal.ensures ∙ ap front_phase (c.deref.ensures.value ∙ c.remove-group.ensures.items)) (ap (λ (x : Group). x.last) same) c.remove-group.ensures.capacity refl refl refl
