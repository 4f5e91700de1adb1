use Rattle.std.proofs.Common.{ℕ, ◌≡◌, ◌+◌, ◌-◌, ◌*◌, ◌^◌, refl, sym, ap, ◌∙◌, arith, rules}
use Rattle.std.proofs.lemmas.Nat.{pow-add}
use Rattle.bfs_super.proofs.geometry.plan_with_log.Goals as goal

pub returns-clause-ok : goal.returns-clause-ok
returns-clause-ok c =
    let first = c.first_shift-first.result in
    let shift = c.shift_of-shift.result in
    let split : shift ≡ shift - first + first = omega (arith, c.shift_of-shift.ensures.from) in
    record {
      block_size = refl;
      blocks = refl;
      shift = (c.first_shift-first.result, c.first_shift-first.ensures.power, c.shift_of-shift.ensures);
      per_group = ap (λ (n : ℕ). 2 ^ n) split ∙ pow-add 2 (shift - first) first ∙ ap (λ (n : ℕ). n * 2 ^ first) (sym c.power.ensures) ∙ ap (λ (n : ℕ). c.power.result * n) c.first_shift-first.ensures.power;
      groups = search rules;
      log = search rules;
      root = search rules;
      indices = search rules;
      used = search rules;
      room = search rules;
    }
