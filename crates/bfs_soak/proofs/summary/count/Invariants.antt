use Rattle.std.proofs.Common.{◌≡◌, ◌≤◌, ◌+◌, take}
use Rattle.bfs_soak.specs.Summary.{count_ok, count_refused}
use Rattle.bfs_soak.proofs.summary.count.Given as goal

abbrev pub invariant-entries : goal.invariant-entries
invariant-entries l = record {
  ok : l.ok ≡ count_ok (take l.at l.history);
  refused : l.refused ≡ count_refused (take l.at l.history);
  few : l.ok + l.refused ≤ l.at;
}
