use Rattle.std.proofs.Common.{rules, ◌≡◌, ◌^◌, ◌∙◌, ap, ℕ, w32, w64, to_z, of_z}
use Rattle.bfs_super.specs.Conditions.{natural}
use Rattle.bfs_stream_check.proofs.Sized.{sizes_of_valid}
use Rattle.bfs_stream_check.proofs.bounds.Bounds.of.Goals as goal

pub returns-clause-sizes : goal.returns-clause-sizes
returns-clause-sizes c =
    let long : to_z w64 (of_z w64 c.args.sup.now.num_blocks) ≡ c.args.sup.now.num_blocks = search rules in
    let int : to_z w32 (of_z w32 c.args.sup.now.ag_shift) ≡ c.args.sup.now.ag_shift = search rules in
    sizes_of_valid c.args.sup.now c.natural_long.result c.power.result c.requires (c.natural_long.ensures ∙ ap natural long)
    (c.power.ensures ∙ ap (λ (n : ℕ). 2 ^ n) (c.natural_int.ensures ∙ ap natural int))
