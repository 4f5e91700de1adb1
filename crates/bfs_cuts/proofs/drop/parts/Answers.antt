use Rattle.std.proofs.Common.{◌≡◌, ◌≤◌, ◌<◌, ◌+◌, ◌-◌, ◌*◌, ◌/◌, ◌%◌, ℕ, arith}
use Rattle.std.proofs.Math.Nat.{div-add-mod, mod-lt}
use Rattle.bfs_cuts.proofs.drop.parts.Goals as goal

before_of : (count length : ℕ) → 1 ≤ count → 1 ≤ length → length * ((count - 1) / length + 1 - 1) < count
before_of count length some long =
    let parts = div-add-mod (count - 1) length in
    let q : ℕ = (count - 1) / length in
    let e : q + 1 - 1 ≡ q = omega arith in
    let f : length * (q + 1 - 1) ≡ length * q = grind (arith, e) in
    omega (arith, parts, some, f)

enough_of : (count length : ℕ) → 1 ≤ count → 1 ≤ length → count ≤ length * ((count - 1) / length + 1)
enough_of count length some long =
    let parts = div-add-mod (count - 1) length in
    let small : (count - 1) % length < length = mod-lt (count - 1) (omega (arith, long)) in
    let q : ℕ = (count - 1) / length in
    let f : length * (q + 1) ≡ length * q + length = grind arith in
    omega (arith, parts, some, small, f)

pub returns-clause-before : goal.returns-clause-before
returns-clause-before c = before_of c.args.count c.args.length c.requires.some c.requires.long

pub returns-clause-enough : goal.returns-clause-enough
returns-clause-enough c = enough_of c.args.count c.args.length c.requires.some c.requires.long
