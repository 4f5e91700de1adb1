use Rattle.std.proofs.Common.{◌≡◌, ◌+◌, ◌-◌, ◌*◌, ◌/◌, ◌<◌, ℕ, ap, subst, length, sym, ◌∙◌, arith}
use Rattle.bfs_base.specs.Images.{sector}
use Rattle.bfs_base.proofs.Sectors.{sector_part}
use Rattle.bfs_disk.proofs.Record.{newest_after, elapses_idle, elapses_failed}
use Rattle.bfs_disk.proofs.memory.disk.MemDiskDisk.read.Goals as goal

pub returns-in-Ok-clause-bytes : goal.returns-in-Ok-clause-bytes
returns-in-Ok-clause-bytes c = λ k lt.
    let at = c.args.at in
    let n = length c.args.into.now in
    let len : length c.copy_from_slice.new.self ≡ n = c.copy_from_slice.ensures.len in
    let in_part : k < n / 512 = subst (λ (m : ℕ). k < m / 512) len lt in
    ap (sector k) c.copy_from_slice.ensures.after
    ∙ sector_part at k (512 * at + n - 512 * at) c.deref-in-Ok.result.now (omega (arith, c.requires.whole, in_part))
    ∙ ap (sector (at + k)) c.deref-in-Ok.ensures.value
    ∙ sym (newest_after c.args.self.now.calls.items c.args.self.now.bytes.items c.args.self.now.recorded (at + k))

pub returns-in-Ok-clause-time : goal.returns-in-Ok-clause-time
returns-in-Ok-clause-time c = let d = c.args.self.now in elapses_idle _ d.idle d.calls.items d.bytes.items c.count.new.idle c.in-Ok.ensures.ok

pub returns-in-Err-clause-time : goal.returns-in-Err-clause-time
returns-in-Err-clause-time c = let d = c.args.self.now in elapses_failed _ d.idle d.calls.items d.bytes.items c.count.new.idle _ (λ i image. image) c.in-Err.ensures.err
