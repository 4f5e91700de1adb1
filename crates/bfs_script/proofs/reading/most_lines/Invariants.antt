use Rattle.std.proofs.Common.{◌≤◌}
use Rattle.bfs_script.proofs.reading.most_lines.Given as goal

abbrev pub invariant-bytes : goal.invariant-bytes
invariant-bytes l = l.feeds ≤ l.at
