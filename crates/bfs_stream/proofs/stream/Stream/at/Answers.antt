use Rattle.std.proofs.Common.{◌≡◌, ◌∙◌, ap, ◌^◌, ℕ, rules}
use mir.Val.{to_z, of_z}
use mir.Syntax.{w32, w64}
use Rattle.bfs_super.specs.Conditions.{natural}
use Rattle.bfs_stream.proofs.Sized.{sizes_at}
use Rattle.bfs_stream.proofs.stream.Stream.at.Goals as goal

pub invariant_of-result : goal.invariant_of-result
invariant_of-result c =
    let long : to_z w64 (of_z w64 c.args.sup.now.num_blocks) ≡ c.args.sup.now.num_blocks = search rules in
    let int : to_z w32 (of_z w32 c.args.sup.now.ag_shift) ≡ c.args.sup.now.ag_shift = search rules in
    sizes_at c.args.sup.now c.args.inode c.natural_long.result c.power.result c.requires.valid c.requires.inside (c.natural_long.ensures ∙ ap natural long)
    (c.power.ensures ∙ ap (λ (n : ℕ). 2 ^ n) (c.natural_int.ensures ∙ ap natural int))
