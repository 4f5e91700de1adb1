use Rattle.std.proofs.Common.{◌≡◌, ◌⊎◌, ℕ, List, inl, refl, subst, ◌+◌, ◌*◌, ◌≤◌, length, ap, ◌∙◌, Some, arith, ◌∷◌}
use Rattle.bfs_disk.specs.Memory.{state_after}
use Rattle.bfs_disk.specs.MemoryLaws.{record_whole}
use Rattle.bfs_disk.proofs.Record.{state_written, record_written, elapses_written, elapses_failed, elapses_kept, recorded_as, elapses_as}
use Rattle.bfs_disk.specs.State.{State, IsImage, written}
use Rattle.bfs_disk.proofs.Calls.{half_image}
use Rattle.bfs_disk.specs.declared.memory.Call.TheVariants.{Write}
use Rattle.bfs_disk.proofs.memory.disk.MemDiskDisk.write.Goals as goal

pub invariant_of-self-in-Ok : goal.invariant_of-self-in-Ok
invariant_of-self-in-Ok c =
    let d = c.args.self.now in
    let old = c.in-Ok.ensures.calls in
    let fits : 512 * c.args.at + length c.args.from.now ≤ length d.bytes.items = omega (arith, c.requires.whole, c.requires.range, record_whole d.calls.items d.bytes.items d.recorded) in
    record { recorded = recorded_as old.2 c.in-Ok.ensures.bytes (record_written d.idle d.calls.items d.bytes.items c.args.from.now c.args.at old.0 fits old.1 c.requires.whole c.see.ensures d.recorded) }

pub returns-in-Ok-clause-written : goal.returns-in-Ok-clause-written
returns-in-Ok-clause-written c =
    let d = c.args.self.now in
    let old = c.in-Ok.ensures.calls in
    let fits : 512 * c.args.at + length c.args.from.now ≤ length d.bytes.items = omega (arith, c.requires.whole, c.requires.range, record_whole d.calls.items d.bytes.items d.recorded) in
    ap Some (ap (λ cs. state_after cs c.overwrite.new.bytes.items) old.2 ∙ ap (state_after (Write c.args.at old.0 d.idle ∷ d.calls.items)) c.in-Ok.ensures.bytes
    ∙ state_written d.idle d.calls.items d.bytes.items c.args.from.now c.args.at old.0 fits old.1)

pub returns-in-Ok-clause-time : goal.returns-in-Ok-clause-time
returns-in-Ok-clause-time c =
    let d = c.args.self.now in
    let old = c.in-Ok.ensures.calls in
    let fits : 512 * c.args.at + length c.args.from.now ≤ length d.bytes.items = omega (arith, c.requires.whole, c.requires.range, record_whole d.calls.items d.bytes.items d.recorded) in
    elapses_as c.in-Ok.ensures.idle old.2 c.in-Ok.ensures.bytes (elapses_written d.idle d.calls.items d.bytes.items c.args.from.now c.args.at old.0 fits old.1 _)

-- a write may also leave what was there
still : (s : State) (at : ℕ) (bytes c : List ℕ) → IsImage s c → IsImage (written s at bytes) c
still s at bytes c image = half_image s s at bytes c (record { size = refl; each = λ k. inl refl }) image

pub returns-then-is_planned-clause-time : goal.returns-then-is_planned-clause-time
returns-then-is_planned-clause-time c =
    let d = c.args.self.now in
    elapses_failed _ d.idle d.calls.items d.bytes.items c.refuse.new.idle _ (λ i image. still (state_after d.calls.items d.bytes.items) c.args.at c.args.from.now i image) c.refuse.ensures.idle

pub returns-in-Err-clause-time : goal.returns-in-Err-clause-time
returns-in-Err-clause-time c =
    let d = c.args.self.now in
    elapses_kept c.refuse-in-Err.new.idle c.in-Err.ensures.calls_kept c.in-Err.ensures.bytes_kept
    (elapses_failed _ d.idle d.calls.items d.bytes.items c.refuse-in-Err.new.idle _ (λ i image. still (state_after d.calls.items d.bytes.items) c.args.at c.args.from.now i image)
    (subst (λ (n : ℕ). (c.refuse-in-Err.new.idle ≡ n) ⊎ (c.refuse-in-Err.new.idle ≡ n + 1)) c.in-Err.ensures.idle_kept c.refuse-in-Err.ensures.idle))
