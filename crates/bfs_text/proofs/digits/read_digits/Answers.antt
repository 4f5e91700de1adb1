use Rattle.std.proofs.Common.{◌<◌, ◌≤◌, arith, rules}
use Rattle.bfs_text.proofs.Numbers.{fits_in}
use Rattle.bfs_text.proofs.digits.read_digits.Goals as goal

pub overflow_mul-value : goal.overflow_mul-value
overflow_mul-value c =
    let few : c.digits.at ≤ 18 = search rules in
    let fits = fits_in c.args.base c.digits.value c.digits.at c.requires.base c.digits.invariant.2 few in
    omega (arith, fits)

pub overflow_add-value : goal.overflow_add-value
overflow_add-value c =
    let few : c.digits.at ≤ 18 = search rules in
    let fits = fits_in c.args.base c.digits.value c.digits.at c.requires.base c.digits.invariant.2 few in
    let small : c.from-digit.result < 256 = search rules in
    omega (arith, fits, small)
