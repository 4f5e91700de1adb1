use Rattle.std.proofs.Common.{◌≡◌, ◌≤◌, take, drop}
use Rattle.std.specs.List.{All}
use Rattle.bfs_words.specs.Numbers.{spelled}
use Rattle.bfs_words.proofs.number.read_number.Given as goal

abbrev pub invariant-digits : goal.invariant-digits
invariant-digits l = record {
  value : spelled l.value (drop l.at l.word) ≡ spelled 0 l.word;
  digits : All (λ d. (48 ≤ d) × (d ≤ 57)) (take l.at l.word);
  low : l.value ≤ l.most;
}
