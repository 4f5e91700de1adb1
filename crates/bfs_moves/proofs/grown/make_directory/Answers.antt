use Rattle.std.proofs.Common.{rules, ◌≡◌, ◌<◌, ◌∙◌, ◌≤◌, ℤ, [], length, sym, ap, subst, to_z, of_z, arith}
use Rattle.std.specs.Int.{w64}
use Rattle.std.specs.FinMap.{insert}
use Rattle.bfs_base.specs.declared.kind.KeyKind.TheVariants.{Text}
use Rattle.bfs_super.specs.Geometry.{geometry_of}
use Rattle.bfs_stream.proofs.Sized.{valid_sizes}
use Rattle.bfs_tree.specs.declared.call.Kind.TheVariants.{Dir}
use Rattle.bfs_tree.specs.Trees.{new_node}
use Rattle.bfs_values.specs.Reached.{IsWholeTree}
use Rattle.bfs_values.specs.Rows.{rows_in}
use Rattle.bfs_shift.specs.Lists.{with_rows}
use Rattle.bfs_shift.specs.TreeLaws.{first_rows}
use Rattle.bfs_shift.specs.Work.{IsStepped}
use Rattle.bfs_moves.proofs.Housed.{directory_step}
use Rattle.bfs_moves.proofs.grown.make_directory.Goals as goal

pub first_tree-requires-clause-block : goal.first_tree-requires-clause-block
first_tree-requires-clause-block g c =
    let few = (valid_sizes c.args.sup.now c.requires.valid).few_blocks in
    let low = c.requires.inside in
    omega (arith, few, low)

pub first_tree-requires-clause-parent : goal.first_tree-requires-clause-parent
first_tree-requires-clause-parent g c =
    let few = (valid_sizes c.args.sup.now c.requires.valid).few_blocks in
    let low = c.requires.parent in
    omega (arith, few, low)

pub write_grown-requires-clause-few : goal.write_grown-requires-clause-few
write_grown-requires-clause-few g c =
    let e : length c.deref.result.now ≡ 2048 = ap length c.deref.ensures.value ∙ c.in-Ok.ensures.length in
    omega (arith, e)

pub returns-in-Ok-write_grown-clause-made : goal.returns-in-Ok-write_grown-clause-made
returns-in-Ok-write_grown-clause-made g c m tree lists rest told work absent other =
    let s = c.args.sup.now in
    let v = c.args.bitmap.now in
    let now = c.write_grown.new.bitmap in
    let id = c.args.block in
    let parent = c.args.parent in
    let bytes = c.deref.result.now in
    let e = c.new_inode-new.ensures in
    let told_now = g.E.Blocks.told c.write_grown.new.edits in
    let old = g.E.Blocks.changed c.args.edits.now in
    let new = g.E.Blocks.changed c.write_grown.new.edits in
    let stamp : to_z w64 (of_z w64 c.args.stamp) ≡ c.args.stamp = search rules in
    subst (λ (z : ℤ). IsStepped (geometry_of s) v now m tree (record tree { nodes = insert tree.nodes id (new_node Dir c.args.name.now parent c.args.mode 0 [] z) }) (with_rows lists id (first_rows id parent)) rest told_now old new) (e.stamp ∙ stamp)
    (directory_step s v now m tree lists rest id parent c.new_inode-new.result c.args.name.now bytes c.args.mode told_now old new absent other e.number e.up c.requires.mode
    (c.in-Ok-write_grown.ensures.grown m tree lists rest told work) e.mode e.flags
    (subst (IsWholeTree Text) (sym c.deref.ensures.value) c.in-Ok.ensures.tree) (ap (rows_in Text) c.deref.ensures.value ∙ c.in-Ok.ensures.rows))

pub returns-clause-sound : goal.returns-clause-sound
returns-clause-sound g c m tree lists rest told work absent other = c.in-Err-write_grown.ensures.sound m tree lists rest told work

pub returns-in-Err-clause-sound : goal.returns-in-Err-clause-sound
returns-in-Err-clause-sound g c m tree lists rest told work absent other = ([], 0, omega arith, λ is. is)
