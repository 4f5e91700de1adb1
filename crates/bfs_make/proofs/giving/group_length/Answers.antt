use Rattle.std.proofs.Common.{rules, ◌≡◌, ◌≤◌, ◌^◌, ◌∙◌, ℕ, sym, ap, subst, to_z, of_z}
use Rattle.std.specs.Int.{w32}
use Rattle.bfs_super.specs.Conditions.{natural}
use Rattle.bfs_stream.proofs.Sized.{shift_16}
use Rattle.bfs_make.proofs.giving.group_length.Goals as goal

pub power-requires : goal.power-requires
power-requires c =
    let same : to_z w32 (of_z w32 c.args.sup.ag_shift) ≡ c.args.sup.ag_shift = search rules in
    subst (λ (k : ℕ). k ≤ 16) (sym (c.natural_int.ensures ∙ ap natural same)) (shift_16 c.args.sup c.requires)

pub returns : goal.returns
returns c =
    let same : to_z w32 (of_z w32 c.args.sup.ag_shift) ≡ c.args.sup.ag_shift = search rules in
    c.power.ensures ∙ ap (λ (n : ℕ). 2 ^ n) (c.natural_int.ensures ∙ ap natural same)
