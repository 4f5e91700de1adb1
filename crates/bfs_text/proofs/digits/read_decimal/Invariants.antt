use Rattle.std.proofs.Common.{◌≡◌, drop}
use Rattle.std.specs.List.{list_all}
use Rattle.bfs_text.specs.Words.{is_digit, spelled}
use Rattle.bfs_text.proofs.digits.read_decimal.Given as goal

abbrev pub invariant-digits : goal.invariant-digits
invariant-digits l =
    (list_all (is_digit 10) l.word ≡ list_all (is_digit 10) (drop l.at l.word))
    × (spelled 10 0 l.word ≡ spelled 10 l.value (drop l.at l.word))
