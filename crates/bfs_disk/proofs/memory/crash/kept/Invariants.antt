use Rattle.std.proofs.Common.{◌≡◌, drop, true}
use Rattle.bfs_disk.specs.Memory.{is_record, kept_bytes}
use Rattle.bfs_disk.proofs.memory.crash.kept.Given as goal

abbrev pub invariant-loop-at : goal.invariant-loop-at
invariant-loop-at l = (kept_bytes (drop l.at l.calls.items) l.image.items ≡ kept_bytes l.calls.items l.bytes) × (is_record (drop l.at l.calls.items) l.image.items ≡ true)
