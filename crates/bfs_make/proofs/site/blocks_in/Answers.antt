use Rattle.std.proofs.Common.{rules, ◌≡◌, ◌∙◌, ap}
use mir.Val.{to_z, of_z}
use mir.Syntax.{w64}
use Rattle.bfs_super.specs.Conditions.{natural}
use Rattle.bfs_make.proofs.site.blocks_in.Goals as goal

pub returns : goal.returns
returns c =
    let long : to_z w64 (of_z w64 c.args.sup.num_blocks) ≡ c.args.sup.num_blocks = search rules in
    c.natural_long.ensures ∙ ap natural long
