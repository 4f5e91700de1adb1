use Rattle.std.proofs.Common.{◌≡◌, ◌∙◌, ap, ◌^◌, ℕ, rules}
use mir.Val.{to_z, of_z}
use mir.Syntax.{w32, w64}
use Rattle.bfs_super.specs.Conditions.{natural}
use Rattle.bfs_bitmap.specs.Tallies.{first_tally}
use Rattle.bfs_bitmap.proofs.Sizes.{valid_at}
use Rattle.bfs_bitmap.proofs.Covered.{reserved_none}
use Rattle.bfs_bitmap.proofs.Left.{left_none}
use Rattle.bfs_bitmap.proofs.bitmap.Bitmap.of.Goals as goal

pub invariant_of-result : goal.invariant_of-result
invariant_of-result c =
    let long : to_z w64 (of_z w64 c.args.sup.now.num_blocks) ≡ c.args.sup.now.num_blocks = search rules in
    let int : to_z w32 (of_z w32 c.args.sup.now.ag_shift) ≡ c.args.sup.now.ag_shift = search rules in (
      valid_at c.args.sup.now c.new.result.items c.natural_long-blocks.result c.power.result c.natural_long.result c.first-tally.result c.requires c.new.ensures.items (c.natural_long-blocks.ensures ∙ ap natural long)
          (c.power.ensures ∙ ap (λ (n : ℕ). 2 ^ n) (c.natural_int.ensures ∙ ap natural int)) (c.first-tally.ensures ∙ ap first_tally c.min.ensures),
      reserved_none c.natural_long-blocks.result c.new.result.items c.new-2.result.items c.new.ensures.items c.new-2.ensures.items,
      left_none 0 c.new.result.items c.new.ensures.items,
    )
