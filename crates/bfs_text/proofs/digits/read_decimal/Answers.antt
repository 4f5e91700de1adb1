use Rattle.std.proofs.Common.{rules, arith, ◌≡◌, ◌+◌, ◌-◌, ◌*◌, ◌<◌, length, get_or}
use Rattle.bfs_text.proofs.Numbers.{too_large}
use Rattle.bfs_text.proofs.digits.read_decimal.Goals as goal

pub returns-in_default : goal.returns-in_default
returns-in_default c = λ n is.
    let lt : c.digits.at < length c.args.word.now = search rules in
    let not_less : ¬ (c.digits.value * 10 < 18446744073709551616) = c.in_default.ensures in
    too_large c.args.word.now c.digits.value c.digits.at n lt c.digits.invariant.1 (omega (arith, not_less)) is

pub returns-in_default-checked_add : goal.returns-in_default-checked_add
returns-in_default-checked_add c = λ n is.
    let lt : c.digits.at < length c.args.word.now = search rules in
    let digit : c.from-digit.result ≡ get_or c.args.word.now c.digits.at 0 = search rules in
    let not_less : ¬ (c.in-Some.tens + (c.from-digit.result - 48) < 18446744073709551616) = c.in_default-checked_add.ensures in
    let tens : c.in-Some.tens ≡ c.digits.value * 10 = search rules in
    too_large c.args.word.now c.digits.value c.digits.at n lt c.digits.invariant.1 (omega (arith, not_less, tens, digit)) is
