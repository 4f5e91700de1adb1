use Rattle.std.proofs.Common.{rules, ◌≡◌, [], List, ℕ, ℤ, length, sym, subst}
use mir.Syntax.{w64}
use mir.Val.{to_z, of_z}
use Rattle.std.specs.Prelude.{OnOk}
use Rattle.bfs_super.specs.Geometry.{geometry_of}
use Rattle.bfs_stream.specs.Sizes.{sizes_of}
use Rattle.bfs_tree.specs.Changes.{kind_made}
use Rattle.bfs_tree.specs.Names.{target_of}
use Rattle.bfs_tree.specs.Trees.{new_node}
use Rattle.bfs_tree.specs.declared.call.Kind.TheVariants.{File, Dir, Link}
use Rattle.bfs_tree.specs.declared.call.MakeKind.{MakeKind}
use Rattle.bfs_shift.specs.Lists.{with_rows}
use Rattle.bfs_shift.specs.TreeLaws.{first_rows}
use Rattle.bfs_calls.specs.Made.{IsFilled}
use Rattle.bfs_calls.proofs.Faulting.{sound_unanswered}
use Rattle.bfs_calls.proofs.Newborn.{same_rows, first_rows_come, file_no_dir}
use Rattle.bfs_calls.proofs.creating.fill.Goals as goal

pub returns-in-Ok-clause-filled : goal.returns-in-Ok-clause-filled
returns-in-Ok-clause-filled g c m tree lists told work absent apart =
    let e : to_z w64 (of_z w64 c.args.stamp) ≡ c.args.stamp = search rules in
    subst (λ (k : MakeKind). IsFilled (geometry_of c.args.sup.now) c.args.bitmap.now c.args.bitmap.now m tree lists c.args.block c.args.dir (new_node (kind_made k) c.args.name.now c.args.dir c.args.mode (length (target_of k)) (target_of k) c.args.stamp) (g.E.Blocks.told c.make_file.new.edits) (g.E.Blocks.changed c.args.edits.now) (g.E.Blocks.changed c.make_file.new.edits)) (sym c.in-File.is)
    (subst (λ (z : ℤ). IsFilled (geometry_of c.args.sup.now) c.args.bitmap.now c.args.bitmap.now m tree lists c.args.block c.args.dir (new_node File c.args.name.now c.args.dir c.args.mode 0 [] z) (g.E.Blocks.told c.make_file.new.edits) (g.E.Blocks.changed c.args.edits.now) (g.E.Blocks.changed c.make_file.new.edits)) e (record {
      begun = lists;
      step = c.in-Ok.ensures.made c.args.bitmap.now m tree lists [] told work absent apart;
      rows = same_rows lists c.args.block c.args.dir File file_no_dir;
    }))

pub returns-in-Ok-make_directory-clause-filled : goal.returns-in-Ok-make_directory-clause-filled
returns-in-Ok-make_directory-clause-filled g c m tree lists told work absent apart =
    let e : to_z w64 (of_z w64 c.args.stamp) ≡ c.args.stamp = search rules in
    subst (λ (k : MakeKind). IsFilled (geometry_of c.args.sup.now) c.args.bitmap.now c.make_directory.new.bitmap m tree lists c.args.block c.args.dir (new_node (kind_made k) c.args.name.now c.args.dir c.args.mode (length (target_of k)) (target_of k) c.args.stamp) (g.E.Blocks.told c.make_directory.new.edits) (g.E.Blocks.changed c.args.edits.now) (g.E.Blocks.changed c.make_directory.new.edits)) (sym c.in-Dir.is)
    (subst (λ (z : ℤ). IsFilled (geometry_of c.args.sup.now) c.args.bitmap.now c.make_directory.new.bitmap m tree lists c.args.block c.args.dir (new_node Dir c.args.name.now c.args.dir c.args.mode 0 [] z) (g.E.Blocks.told c.make_directory.new.edits) (g.E.Blocks.changed c.args.edits.now) (g.E.Blocks.changed c.make_directory.new.edits)) e (record {
      begun = with_rows lists c.args.block (first_rows c.args.block c.args.dir);
      step = c.in-Ok-make_directory.ensures.made m tree lists [] told work absent apart;
      rows = first_rows_come lists c.args.block c.args.dir Dir;
    }))

pub returns-in-Err-make_directory-clause-unanswered : goal.returns-in-Err-make_directory-clause-unanswered
returns-in-Err-make_directory-clause-unanswered g c m tree lists told work absent apart =
    sound_unanswered (record { id = c.args.block; sizes = sizes_of c.args.sup.now }) c.args.bitmap.now m c.in-Err-make_directory.fault
    (c.in-Err-make_directory.ensures.sound m tree lists [] told work absent apart)

pub returns-in-Link-clause-filled : goal.returns-in-Link-clause-filled
returns-in-Link-clause-filled g c m tree lists told work absent apart =
    let e : to_z w64 (of_z w64 c.args.stamp) ≡ c.args.stamp = search rules in
    let same : c.as_slice-target.result.now ≡ c.in-Link.target = search rules in
    subst (λ (k : MakeKind). OnOk c.fill_link.result (IsFilled (geometry_of c.args.sup.now) c.args.bitmap.now c.fill_link.new.bitmap m tree lists c.args.block c.args.dir (new_node (kind_made k) c.args.name.now c.args.dir c.args.mode (length (target_of k)) (target_of k) c.args.stamp) (g.E.Blocks.told c.fill_link.new.edits) (g.E.Blocks.changed c.args.edits.now) (g.E.Blocks.changed c.fill_link.new.edits))) (sym c.in-Link.is)
    (subst (λ (t : List ℕ). OnOk c.fill_link.result (IsFilled (geometry_of c.args.sup.now) c.args.bitmap.now c.fill_link.new.bitmap m tree lists c.args.block c.args.dir (new_node Link c.args.name.now c.args.dir c.args.mode (length t) t c.args.stamp) (g.E.Blocks.told c.fill_link.new.edits) (g.E.Blocks.changed c.args.edits.now) (g.E.Blocks.changed c.fill_link.new.edits))) same
    (subst (λ (z : ℤ). OnOk c.fill_link.result (IsFilled (geometry_of c.args.sup.now) c.args.bitmap.now c.fill_link.new.bitmap m tree lists c.args.block c.args.dir (new_node Link c.args.name.now c.args.dir c.args.mode (length c.as_slice-target.result.now) c.as_slice-target.result.now z) (g.E.Blocks.told c.fill_link.new.edits) (g.E.Blocks.changed c.args.edits.now) (g.E.Blocks.changed c.fill_link.new.edits))) e
    (c.fill_link.ensures.filled m tree lists told work absent apart)))
