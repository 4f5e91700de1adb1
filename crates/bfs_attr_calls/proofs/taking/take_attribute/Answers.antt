use Rattle.std.proofs.Common.{◌∙◌, ℕ, List, Bool, Option, refl, sym, subst}
use Rattle.std.specs.FinMap.{remove}
use Rattle.bfs_super.specs.Geometry.{geometry_of}
use Rattle.bfs_make.proofs.Pieces.{told_long, sized_at}
use Rattle.bfs_maps.specs.Refused.{IsUndone}
use Rattle.bfs_shift.proofs.AtWork.{inode_told}
use Rattle.bfs_unmake.specs.Leaving.{IsLeft}
use Rattle.bfs_attr_calls.specs.Attributed.{with_attributes}
use Rattle.bfs_attr_calls.proofs.Holding.{node_holds}
use Rattle.bfs_attr_calls.proofs.Lost.{found_undone, taken_left}
use Rattle.bfs_attr_calls.proofs.taking.take_attribute.Goals as goal

pub take-requires-clause-holds : goal.take-requires-clause-holds
take-requires-clause-holds g c m told =
    let h = c.requires.bearer m (sym c.in-Ok.ensures.told ∙ told) in
    node_holds c.args.sup.now c.args.bitmap.now m h.tree h.lists h.loose c.args.id h.node c.requires.valid h.work h.there

pub returns-in-Err-take-clause-undone : goal.returns-in-Err-take-clause-undone
returns-in-Err-take-clause-undone g c m tree lists loose n told work is there =
    subst IsUndone (sym c.not_taken.ensures)
    (found_undone c.args.sup.now c.args.bitmap.now m tree lists loose c.args.id n c.requires.valid work is c.args.name.now c.in-Err-take.fault there (c.in-Err-take.ensures.faults m (c.in-Ok.ensures.told ∙ told)))

pub returns-in-Ok-check_inode-clause-left : goal.returns-in-Ok-check_inode-clause-left
returns-in-Ok-check_inode-clause-left g c m tree lists loose n told work clear is =
    let s = c.args.sup.now in
    let v = c.args.bitmap.now in
    let now = c.take.new.bitmap in
    let id = c.args.id in
    let name = c.args.name.now in
    let told1 = c.in-Ok.ensures.told ∙ told in
    let t = g.E.Blocks.told c.take.new.edits in
    let old = g.E.Blocks.changed c.check_inode.new.under in
    let new = g.E.Blocks.changed c.take.new.edits in
    let taken = c.in-Ok-take.ensures.taken m told1 in
    let inode = inode_told s v m tree lists loose id n work is in
    let before = c.in-Ok.ensures.words m told inode in
    let after = c.in-Ok-check_inode.ensures.words taken.now_are.map taken.now_are.is taken.now_are.holds.inode in
    let size = g.E.Blocks.size c.args.edits.now in
    let one = told_long size m id (sized_at size size (g.E.Blocks.told c.args.edits.now) m refl told (g.met.E.Blocks.sized c.args.edits.now)) inode in
    let two = told_long size taken.now_are.map id (sized_at size (g.E.Blocks.size c.take.new.edits) t taken.now_are.map (c.in-Ok-take.ensures.size ∙ c.in-Ok.ensures.size) taken.now_are.is (g.met.E.Blocks.sized c.take.new.edits)) taken.now_are.holds.inode in
    let left =
    taken_left s v m tree lists loose id n c.requires.valid work is now name t old new clear c.in-Ok-take.ensures.rest c.in-Ok-take.ensures.standing c.in-Ok-take.ensures.stays taken before after (two ∙ sym one)
    (c.in-Ok-take.ensures.clear m told1) (c.in-Ok-take.ensures.items m told1) in
    subst (λ (f : ℕ → Bool). IsLeft (geometry_of s) v now m tree (with_attributes tree id n (remove n.attributes name)) lists loose (g.E.Blocks.told c.check_inode-2.new.under) f (g.E.Blocks.changed c.check_inode-2.new.under)) c.in-Ok.ensures.changed
    (subst (λ (f : ℕ → Bool). IsLeft (geometry_of s) v now m tree (with_attributes tree id n (remove n.attributes name)) lists loose (g.E.Blocks.told c.check_inode-2.new.under) old f) (sym c.in-Ok-check_inode.ensures.changed)
    (subst (λ (o : Option (ℕ → Option (List ℕ))). IsLeft (geometry_of s) v now m tree (with_attributes tree id n (remove n.attributes name)) lists loose o old new) (sym c.in-Ok-check_inode.ensures.told) left))
