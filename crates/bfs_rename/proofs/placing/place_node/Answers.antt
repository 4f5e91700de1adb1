use Rattle.std.proofs.Common.{rules, ◌≡◌, ℤ, ℕ, subst}
use mir.Syntax.{w64}
use mir.Val.{to_z, of_z}
use Rattle.bfs_super.specs.Geometry.{geometry_of}
use Rattle.bfs_inode.specs.Refusals.{Names}
use Rattle.bfs_attr.proofs.Owned.{names_run}
use Rattle.bfs_shift.proofs.AtWork.{inode_told}
use Rattle.bfs_rename.specs.Sited.{IsParentSet}
use Rattle.bfs_rename.proofs.Parented.{parent_step}
use Rattle.bfs_rename.proofs.placing.place_node.Goals as goal

pub returns-in-Ok-write_parent-clause-placed : goal.returns-in-Ok-write_parent-clause-placed
returns-in-Ok-write_parent-clause-placed g c v m tree lists loose n told work is apart =
    let s = c.args.sup.now in
    let run = c.run_of-run.result in
    let time : to_z w64 (of_z w64 c.args.stamp) ≡ c.args.stamp = search rules in
    let names : Names run c.args.parent (geometry_of s).shift = subst (λ (k : ℕ). Names run k (geometry_of s).shift) c.run_of-run.ensures.block (names_run s run c.run_of-run.ensures.inside c.run_of-run.ensures.one) in
    parent_step s v m tree lists loose c.args.id n run c.args.parent c.args.stamp (g.E.Blocks.told c.write_parent.new.edits) (g.E.Blocks.changed c.args.edits.now) (g.E.Blocks.changed c.write_parent.new.edits) c.requires.valid work is
    (subst (λ (z : ℤ). IsParentSet c.args.id run z m (g.E.Blocks.told c.write_parent.new.edits)) time (c.in-Ok-write_parent.ensures.written m told (inode_told s v m tree lists loose c.args.id n work is))) c.write_parent.ensures.changed c.write_parent.ensures.stays names apart
