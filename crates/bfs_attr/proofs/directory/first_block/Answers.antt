use Rattle.std.proofs.Common.{rules, ◌≡◌, ◌∙◌, ◌+◌, ◌*◌, ℕ, ℤ, pos, true, ap, subst, arith}
use mir.Val.{to_z, of_z}
use mir.Syntax.{w32}
use lib.Signed.{lt_z}
use Rattle.bfs_super.specs.Conditions.{natural, group_blocks}
use Rattle.bfs_attr.proofs.Tops.{below_none}
use Rattle.bfs_attr.proofs.directory.first_block.Goals as goal

pub returns-then-run-lt0 : goal.returns-then-run-lt0
returns-then-run-lt0 c =
    let int : to_z w32 (of_z w32 c.args.run.group) ≡ c.args.run.group = search rules in
    let none : natural c.args.run.group ≡ 0 = below_none c.args.run.group (subst (λ (z : ℤ). lt_z z (pos 0) ≡ true) int c.if-run-lt0.true) in
    let zero : natural c.args.run.group * group_blocks c.args.sup ≡ 0 = ap (λ (n : ℕ). n * group_blocks c.args.sup) none ∙ (let z : 0 * group_blocks c.args.sup ≡ 0 = grind arith in z) in
    c.from.ensures ∙ (let e : c.args.run.start ≡ natural c.args.run.group * group_blocks c.args.sup + c.args.run.start = omega (arith, zero) in e)
