use Rattle.std.proofs.Common.{◌≡◌, ◌<◌, ◌^◌, drop}
use Rattle.std.specs.List.{list_all}
use Rattle.bfs_text.specs.Words.{is_digit, spelled}
use Rattle.bfs_text.proofs.digits.read_digits.Given as goal

abbrev pub invariant-digits : goal.invariant-digits
invariant-digits l =
    (list_all (is_digit l.base) l.word ≡ list_all (is_digit l.base) (drop l.at l.word))
    × (spelled l.base 0 l.word ≡ spelled l.base l.value (drop l.at l.word))
    × (l.value < 10 ^ l.at)
