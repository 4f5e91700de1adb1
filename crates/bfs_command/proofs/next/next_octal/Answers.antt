use Rattle.std.proofs.Common.{rules, arith, ◌≡◌, Some}
use Rattle.bfs_text.specs.Words.{digits_of}
use Rattle.bfs_text.proofs.Octal.{octal_is_small}
use Rattle.bfs_command.proofs.next.next_octal.Goals as goal

pub overflow_cast-result : goal.overflow_cast-result
overflow_cast-result c =
    let is : digits_of 8 1 4 c.in_ok-word.word.now ≡ Some c.in_ok-number.number = search rules in
    let small = octal_is_small c.in_ok-word.word.now c.in_ok-number.number is in
    omega (arith, small)
