use Rattle.std.proofs.Common.{◌∙◌, ℕ, List, [], Bool, Option, refl, sym, subst, arith}
use Rattle.bfs_super.specs.Geometry.{geometry_of}
use Rattle.bfs_make.proofs.Pieces.{told_long, sized_at}
use Rattle.bfs_shift.specs.Work.{IsStepped}
use Rattle.bfs_shift.proofs.AtWork.{inode_told}
use Rattle.bfs_shift.proofs.Basics.{some_bytes}
use Rattle.bfs_attr_put.proofs.Bearing.{attributes_are}
use Rattle.bfs_give_name.specs.Named.{with_name}
use Rattle.bfs_give_name.proofs.Stepped.{named_step}
use Rattle.bfs_give_name.proofs.naming.give_name.Goals as goal

pub set_own_name-requires-clause-node : goal.set_own_name-requires-clause-node
set_own_name-requires-clause-node g c m told = c.requires.node m (sym c.in-Ok.ensures.told ∙ told)

pub returns-in-Ok-check_inode-clause-named : goal.returns-in-Ok-check_inode-clause-named
returns-in-Ok-check_inode-clause-named g c m tree lists n told work is apart =
    let s = c.args.sup.now in
    let v = c.args.bitmap.now in
    let now = c.set_own_name.new.bitmap in
    let id = c.args.id in
    let name = c.args.name.now in
    let told1 = c.in-Ok.ensures.told ∙ told in
    let t = g.E.Blocks.told c.set_own_name.new.edits in
    let old = g.E.Blocks.changed c.check_inode.new.under in
    let new = g.E.Blocks.changed c.set_own_name.new.edits in
    let named = c.in-Ok-set_own_name.ensures.named m told1 in
    let inode = inode_told s v m tree lists [] id n work is in
    let before = c.in-Ok.ensures.words m told inode in
    let after = c.in-Ok-check_inode.ensures.words named.now_are.map named.now_are.is named.now_are.holds.inode in
    let size = g.E.Blocks.size c.args.edits.now in
    let one = told_long size m id (sized_at size size (g.E.Blocks.told c.args.edits.now) m refl told (g.met.E.Blocks.sized c.args.edits.now)) inode in
    let two = told_long size named.now_are.map id (sized_at size (g.E.Blocks.size c.set_own_name.new.edits) t named.now_are.map (c.in-Ok-set_own_name.ensures.size ∙ c.in-Ok.ensures.size) named.now_are.is (g.met.E.Blocks.sized c.set_own_name.new.edits)) named.now_are.holds.inode in
    let step =
    named_step (geometry_of s) v now m tree lists [] id n name t old new (some_bytes s c.requires.valid) work is apart (attributes_are s v m tree lists [] id n c.requires.valid work is)
    c.in-Ok-set_own_name.ensures.rest c.in-Ok-set_own_name.ensures.stays named
    (record { long = (let l = before.long in omega (arith, l)); before = before.words; after = after.words }) (two ∙ sym one) in
    subst (λ (f : ℕ → Bool). IsStepped (geometry_of s) v now m tree (with_name tree id n name) lists [] (g.E.Blocks.told c.check_inode-2.new.under) f (g.E.Blocks.changed c.check_inode-2.new.under)) c.in-Ok.ensures.changed
    (subst (λ (f : ℕ → Bool). IsStepped (geometry_of s) v now m tree (with_name tree id n name) lists [] (g.E.Blocks.told c.check_inode-2.new.under) old f) (sym c.in-Ok-check_inode.ensures.changed)
    (subst (λ (o : Option (ℕ → Option (List ℕ))). IsStepped (geometry_of s) v now m tree (with_name tree id n name) lists [] o old new) (sym c.in-Ok-check_inode.ensures.told) step))
