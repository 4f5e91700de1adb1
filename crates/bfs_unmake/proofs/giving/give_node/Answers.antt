use Rattle.std.proofs.Common.{◌≡◌, ◌∙◌, ◌++◌, ℕ, List, Bool, sym, subst}
use Rattle.std.specs.List.{flat_map}
use Rattle.bfs_super.specs.Conditions.{natural}
use Rattle.bfs_super.specs.Geometry.{geometry_of}
use Rattle.bfs_txn.specs.Told.{StaysChanged}
use Rattle.bfs_maps.specs.Refused.{IsUndone}
use Rattle.bfs_sound.specs.Inodes.{inode_blocks}
use Rattle.bfs_sound.specs.Owners.{has_no_stream}
use Rattle.bfs_shift.specs.Shifts.{volume_in}
use Rattle.bfs_shift.proofs.AtWork.{inode_told}
use Rattle.bfs_leave.specs.Given.{AreGivenBack, AreLoose}
use Rattle.bfs_leave.proofs.Owned.{alone_is}
use Rattle.bfs_unmake.specs.Whole.{alone_in, stream_inodes, AllBelow}
use Rattle.bfs_unmake.proofs.Gone.{node_bears, node_reads, node_loosened, node_gone}
use Rattle.bfs_unmake.proofs.giving.give_node.Goals as goal

pub stream_inodes-requires-clause-readable : goal.stream_inodes-requires-clause-readable
stream_inodes-requires-clause-readable g c m told =
    let h = c.requires.node m (sym c.in-Ok.ensures.told ∙ told) in
    node_reads c.args.site.sup c.args.bitmap.now m h.tree h.lists h.loose c.args.id h.node c.requires.valid h.work h.there

pub returns-in-Ok-give_all-clause-given : goal.returns-in-Ok-give_all-clause-given
returns-in-Ok-give_all-clause-given g c m tree lists loose n told work clear is =
    let s = c.args.site.sup in
    let v = c.args.bitmap.now in
    let now = c.give_all.new.bitmap in
    let id = c.args.id in
    let t = c.in-Ok.alone in
    let was = volume_in (geometry_of s) m in
    let told_now = g.E.Blocks.told c.give_all.new.edits in
    let old = g.E.Blocks.changed c.args.edits.now in
    let new = g.E.Blocks.changed c.give_all.new.edits in
    let alone : has_no_stream was (id, n) ≡ t = sym (alone_is was id n (work.stocked.nodes id n is)) ∙ sym (c.in-Ok.ensures.alone m told (inode_told s v m tree lists loose id n work is)) in
    let same : c.deref.result.now ≡ stream_inodes was id t = c.deref.ensures.value ∙ c.in-Ok-stream_inodes.ensures.found m (c.in-Ok.ensures.told ∙ told) (node_bears s v m tree lists loose id n c.requires.valid work is) in
    let here : AreLoose (geometry_of s) m c.deref.result.now = subst (AreLoose (geometry_of s) m) (sym same) (node_loosened s v m tree lists loose id n c.requires.valid work is t alone) in
    let changed = c.in-Ok-stream_inodes.ensures.changed ∙ c.in-Ok.ensures.changed in
    let gave = c.in-Ok-give_all.ensures.given m (c.in-Ok-stream_inodes.ensures.told ∙ c.in-Ok.ensures.told ∙ told) work.fits here in
    node_gone s v m tree lists loose id n c.requires.valid work is t alone now told_now old new clear c.in-Ok-give_all.ensures.rest c.in-Ok-give_all.ensures.standing
    (subst (λ (f : ℕ → Bool). StaysChanged f new) changed c.in-Ok-give_all.ensures.stays)
    (subst (λ (l : List ℕ). AreGivenBack v now (flat_map (inode_blocks was) l ++ alone_in id t) m told_now old new) same
    (subst (λ (f : ℕ → Bool). AreGivenBack v now (flat_map (inode_blocks was) c.deref.result.now ++ alone_in id t) m told_now f new) changed gave))

pub returns-in-Err-stream_inodes-clause-sound : goal.returns-in-Err-stream_inodes-clause-sound
returns-in-Err-stream_inodes-clause-sound g c m tree lists loose n told work is =
    c.in-Err-stream_inodes.ensures.found m (c.in-Ok.ensures.told ∙ told) (node_bears c.args.site.sup c.args.bitmap.now m tree lists loose c.args.id n c.requires.valid work is)

pub returns-clause-sound : goal.returns-clause-sound
returns-clause-sound g c m tree lists loose n told work is =
    let s = c.args.site.sup in
    let v = c.args.bitmap.now in
    let id = c.args.id in
    let t = c.in-Ok.alone in
    let was = volume_in (geometry_of s) m in
    let alone : has_no_stream was (id, n) ≡ t = sym (alone_is was id n (work.stocked.nodes id n is)) ∙ sym (c.in-Ok.ensures.alone m told (inode_told s v m tree lists loose id n work is)) in
    let same : c.deref.result.now ≡ stream_inodes was id t = c.deref.ensures.value ∙ c.in-Ok-stream_inodes.ensures.found m (c.in-Ok.ensures.told ∙ told) (node_bears s v m tree lists loose id n c.requires.valid work is) in
    let here : AreLoose (geometry_of s) m c.deref.result.now = subst (AreLoose (geometry_of s) m) (sym same) (node_loosened s v m tree lists loose id n c.requires.valid work is t alone) in
    subst IsUndone (sym c.blocked.ensures) (c.in-Err-give_all.ensures.sound m (c.in-Ok-stream_inodes.ensures.told ∙ c.in-Ok.ensures.told ∙ told) work.fits here)

pub give_all-requires-clause-below : goal.give_all-requires-clause-below
give_all-requires-clause-below g c = subst (AllBelow (natural c.args.site.sup.num_blocks)) (sym c.deref.ensures.value) c.in-Ok-stream_inodes.ensures.below
