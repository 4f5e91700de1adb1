use Rattle.std.proofs.Common.{◌≡◌, ◌+◌, ◌*◌, ◌++◌, pos, length, take, map}
use Rattle.std.specs.List.{flat_map}
use Rattle.bfs_bytes.specs.Fields.{signed32_bytes, run_bytes}
use Rattle.bfs_log.specs.Entry.{run_at_block}
use Rattle.bfs_log.proofs.print.write_entry.Given as goal

abbrev pub invariant-loop-i : goal.invariant-loop-i
invariant-loop-i l =
    take (8 + 8 * l.i) l.block
    ≡ signed32_bytes (pos (length l.blocks)) ++ signed32_bytes (pos 127) ++ flat_map run_bytes (map (run_at_block l.geometry) (take l.i l.blocks))
