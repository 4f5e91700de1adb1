use Rattle.std.proofs.Common.{rules, ◌≡◌, [], ℤ, length, subst}
use mir.Syntax.{w64}
use mir.Val.{to_z, of_z}
use Rattle.bfs_super.specs.Geometry.{geometry_of}
use Rattle.bfs_stream.specs.Sizes.{sizes_of}
use Rattle.bfs_tree.specs.Trees.{new_node}
use Rattle.bfs_tree.specs.declared.call.Kind.TheVariants.{Link}
use Rattle.bfs_calls.specs.Made.{IsFilled}
use Rattle.bfs_calls.proofs.Faulting.{sound_unanswered}
use Rattle.bfs_calls.proofs.Newborn.{same_rows, link_no_dir}
use Rattle.bfs_calls.proofs.creating.fill_link.Goals as goal

pub returns-in-Ok-clause-filled : goal.returns-in-Ok-clause-filled
returns-in-Ok-clause-filled g c m tree lists told work absent apart =
    let e : to_z w64 (of_z w64 c.args.stamp) ≡ c.args.stamp = search rules in
    subst (λ (z : ℤ). IsFilled (geometry_of c.args.sup.now) c.args.bitmap.now c.args.bitmap.now m tree lists c.args.block c.args.dir (new_node Link c.args.name.now c.args.dir c.args.mode (length c.args.target.now) c.args.target.now z) (g.E.Blocks.told c.make_link.new.edits) (g.E.Blocks.changed c.args.edits.now) (g.E.Blocks.changed c.make_link.new.edits)) e (record {
      begun = lists;
      step = c.in-Ok.ensures.made c.args.bitmap.now m tree lists [] told work absent apart;
      rows = same_rows lists c.args.block c.args.dir Link link_no_dir;
    })

pub returns-in-Ok-make_long_link-clause-filled : goal.returns-in-Ok-make_long_link-clause-filled
returns-in-Ok-make_long_link-clause-filled g c m tree lists told work absent apart =
    let e : to_z w64 (of_z w64 c.args.stamp) ≡ c.args.stamp = search rules in
    subst (λ (z : ℤ). IsFilled (geometry_of c.args.sup.now) c.args.bitmap.now c.make_long_link.new.bitmap m tree lists c.args.block c.args.dir (new_node Link c.args.name.now c.args.dir c.args.mode (length c.args.target.now) c.args.target.now z) (g.E.Blocks.told c.make_long_link.new.edits) (g.E.Blocks.changed c.args.edits.now) (g.E.Blocks.changed c.make_long_link.new.edits)) e (record {
      begun = lists;
      step = c.in-Ok-make_long_link.ensures.made m tree lists [] told work absent apart;
      rows = same_rows lists c.args.block c.args.dir Link link_no_dir;
    })

pub returns-in-Err-make_long_link-clause-unanswered : goal.returns-in-Err-make_long_link-clause-unanswered
returns-in-Err-make_long_link-clause-unanswered g c m tree lists told work absent apart =
    sound_unanswered (record { id = c.args.block; sizes = sizes_of c.args.sup.now }) c.args.bitmap.now m c.in-Err-make_long_link.fault
    (c.in-Err-make_long_link.ensures.sound m tree lists [] told work absent apart)
