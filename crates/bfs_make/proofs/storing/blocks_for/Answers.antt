use Rattle.std.proofs.Common.{rules, ◌≡◌, ◌≤◌, ◌<◌, ◌+◌, ◌-◌, ◌*◌, ◌/◌, ◌^◌, ℕ, sym, subst, arith}
use Rattle.bfs_make.proofs.Stored.{ceil_enough, ceil_few}
use Rattle.bfs_make.proofs.storing.blocks_for.Goals as goal

pub returns-clause-enough : goal.returns-clause-enough
returns-clause-enough c =
    let a : c.from.result ≡ c.args.size = search rules in
    let b : c.from-2.result ≡ c.args.size = search rules in
    subst (λ (k : ℕ). c.args.len ≤ c.args.size * ((c.args.len + (k - 1)) / c.from-2.result)) (sym a)
    (subst (λ (k : ℕ). c.args.len ≤ c.args.size * ((c.args.len + (c.args.size - 1)) / k)) (sym b) (ceil_enough c.args.len c.args.size (let h = c.requires.size in omega (arith, h))))

pub returns-clause-few : goal.returns-clause-few
returns-clause-few c =
    let a : c.from.result ≡ c.args.size = search rules in
    let b : c.from-2.result ≡ c.args.size = search rules in
    subst (λ (k : ℕ). (c.args.len + (k - 1)) / c.from-2.result < 2 ^ 63) (sym a)
    (subst (λ (k : ℕ). (c.args.len + (c.args.size - 1)) / k < 2 ^ 63) (sym b) (ceil_few c.args.len c.args.size c.requires.size c.requires.short c.requires.len))
