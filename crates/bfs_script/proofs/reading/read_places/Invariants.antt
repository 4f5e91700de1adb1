use Rattle.std.proofs.Common.{◌≡◌, ◌<◌, ◌≤◌, ◌++◌, ◌-◌, length, drop}
use Rattle.std.specs.List.{All}
use Rattle.bfs_text.specs.Cutting.{lines_of}
use Rattle.bfs_script.specs.Scripts.{script_of, said_from, bad_line, bad_from, line_too_far}
use Rattle.bfs_script.specs.Places.{lines_at, IsPlace, IsNumber}
use Rattle.bfs_script.proofs.reading.read_places.Given as goal

abbrev pub invariant-loop-at : goal.invariant-loop-at
invariant-loop-at l = record {
  script : script_of l.bytes ≡ lines_at l.bytes l.places.items ++ said_from l.number (lines_of (drop l.at l.bytes));
  bad : bad_line l.bytes ≡ bad_from (line_too_far l.bytes) l.number (lines_of (drop l.at l.bytes));
  few : l.number ≤ 1048577;
  number : l.at < length l.bytes → IsNumber l.bytes l.at l.number;
  near : l.at < length l.bytes → l.at ≤ 268435456;
  places : All (IsPlace l.bytes) l.places.items;
}

abbrev pub decreases-loop-at : goal.decreases-loop-at
decreases-loop-at l = length l.bytes - l.at
