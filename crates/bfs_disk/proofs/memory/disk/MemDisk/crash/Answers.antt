use Rattle.std.proofs.Common.{◌≡◌, ◌*◌, ◌/◌, ℕ, List, length, refl, sym, ◌∙◌, ap, subst}
use Rattle.bfs_disk.specs.Memory.{state_after, kept_bytes}
use Rattle.bfs_disk.specs.MemoryLaws.{record_whole, filled_of}
use Rattle.bfs_disk.proofs.Record.{length-kept, picked_image, picked_of}
use Rattle.bfs_disk.proofs.memory.disk.MemDisk.crash.Goals as goal

pub picked-requires-clause-same : goal.picked-requires-clause-same
picked-requires-clause-same c = let d = c.args.self.now in
    ap length (c.in_ok-image.ensures ∙ ap (kept_bytes d.calls.items) c.deref.ensures.value) ∙ length-kept d.calls.items d.bytes.items d.recorded ∙ ap length (sym c.deref-2.ensures.value)

pub picked-requires-clause-whole : goal.picked-requires-clause-whole
picked-requires-clause-whole c = let d = c.args.self.now in subst (λ (l : List ℕ). length l ≡ 512 * (length l / 512)) (sym c.deref-2.ensures.value) (record_whole d.calls.items d.bytes.items d.recorded)

pub returns-clause-picked : goal.returns-clause-picked
returns-clause-picked c = let d = c.args.self.now in (
  state_after d.calls.items d.bytes.items,
  refl,
  picked_of c.args.pick d.calls.items d.bytes.items d.recorded _ _ _ c.deref-2.ensures.value (c.in_ok-image.ensures ∙ ap (kept_bytes d.calls.items) c.deref.ensures.value) c.picked.ensures.size c.picked.ensures.each,
)

pub returns-clause-left : goal.returns-clause-left
returns-clause-left c = let d = c.args.self.now in
    picked_image c.args.pick (state_after d.calls.items d.bytes.items) c.picked.result.items (filled_of d.calls.items d.bytes.items d.recorded)
    (picked_of c.args.pick d.calls.items d.bytes.items d.recorded _ _ _ c.deref-2.ensures.value (c.in_ok-image.ensures ∙ ap (kept_bytes d.calls.items) c.deref.ensures.value) c.picked.ensures.size c.picked.ensures.each)
