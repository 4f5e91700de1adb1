use Rattle.std.proofs.Common.{rules, ◌≡◌, ◌∙◌, inl, ℕ, ℤ, List, [], Some, sym, ap, subst, arith, length, max, to_z, of_z}
use Rattle.std.specs.Int.{w64}
use Rattle.bfs_base.specs.declared.kind.KeyKind.TheVariants.{Text}
use Rattle.bfs_inode.specs.Refusals.{Names}
use Rattle.bfs_super.specs.Conditions.{ceil}
use Rattle.bfs_super.specs.Geometry.{geometry_of}
use Rattle.bfs_stream.specs.Faults.{IsGrowCause}
use Rattle.bfs_stream.specs.Sizes.{sizes_of}
use Rattle.bfs_stream.specs.declared.fault.GrowFault.TheVariants as grow
use Rattle.bfs_stream.proofs.Stops.{cause_wider, caused_in}
use Rattle.bfs_stream_pages.specs.GoesLaws.{sized_of}
use Rattle.bfs_txn.specs.Told.{AreSized}
use Rattle.bfs_values.specs.Reached.{IsWholeTree}
use Rattle.bfs_values.specs.Rows.{rows_in}
use Rattle.bfs_make.specs.Made.{HasBits, HasStored, IsNotStored, formed_at}
use Rattle.bfs_make.specs.declared.making.InodeForm.{InodeForm}
use Rattle.bfs_attr.specs.Bearers.{bearer_of}
use Rattle.bfs_attr.specs.Made.{directory_form}
use Rattle.bfs_attr.proofs.Owned.{names_run}
use Rattle.bfs_attr.proofs.Tops.{cause_sound}
use Rattle.bfs_attr_write.specs.Directories.{HasDirectoryMade}
use Rattle.bfs_attr_write.proofs.MakesDirectory.{bearer_told, has_directory}
use Rattle.bfs_attr_write.proofs.directory.make_attribute_directory.Goals as goal

pub returns-in-Ok-put_address-clause-made : goal.returns-in-Ok-put_address-clause-made
returns-in-Ok-put_address-clause-made g c m told can =
    let s = c.args.site.sup in
    let inode = c.args.inode in
    let v = c.args.bitmap.now in
    let mid = c.store.new.bitmap in
    let run = c.in-Ok-store.address in
    let parent = c.run_of.result in
    let bytes : List ℕ = c.deref.result.now in
    let told1 = g.E.Blocks.told c.store.new.edits in
    let told2 = g.E.Blocks.told c.put_address.new.edits in
    let old = g.E.Blocks.changed c.args.edits.now in
    let half = g.E.Blocks.changed c.store.new.edits in
    let new = g.E.Blocks.changed c.put_address.new.edits in
    let same : to_z w64 (of_z w64 c.args.stamp) ≡ c.args.stamp = search rules in
    let form_is : c.directory_inode-form.result ≡ directory_form parent c.args.stamp = c.directory_inode-form.ensures ∙ ap (λ (z : ℤ). directory_form parent z) same in
    let bytes_are : bytes ≡ c.in-Ok.bytes.items = c.deref.ensures.value in
    let has : HasBits v m = record { fits = can.holds.fits; bits = can.holds.bits } in
    let stored : HasStored (sizes_of s) v mid m (formed_at run (directory_form parent c.args.stamp)) bytes told1 old half =
    subst (λ (f : InodeForm). HasStored (sizes_of s) v mid m (formed_at run f) bytes told1 old half) form_is (c.in-Ok-store.ensures.stored m told has) in
    let inside = c.in-Ok-store.ensures.inside in
    let one = c.in-Ok-store.ensures.one in
    let above : Names parent inode (geometry_of s).shift = subst (λ (k : ℕ). Names parent k (geometry_of s).shift) c.run_of.ensures.block (names_run s parent c.run_of.ensures.inside c.run_of.ensures.one) in
    let sized : AreSized s.block_size (Some stored.map) = sized_of s.block_size (g.E.Blocks.size c.store.new.edits) told1 stored.map (c.store.ensures.size ∙ c.requires.size) stored.is (g.met.E.Blocks.sized c.store.new.edits) in
    let tree : IsWholeTree Text bytes = subst (IsWholeTree Text) (sym bytes_are) c.in-Ok.ensures.tree in
    let none : rows_in Text bytes ≡ [] = ap (rows_in Text) bytes_are ∙ c.in-Ok.ensures.rows in
    let put = c.in-Ok-put_address.ensures.written stored.map stored.is (bearer_told s inode v mid m can run parent c.args.stamp bytes told1 old half stored inside one above sized tree none) in
    subst (λ (d : ℕ). HasDirectoryMade (bearer_of inode s) v mid m d c.args.stamp told2 old new) (sym c.run_start.ensures)
    (has_directory s inode v mid m can run parent c.args.stamp bytes told1 old half stored inside one above sized tree none told2 put new c.in-Ok-put_address.ensures.changed c.in-Ok-put_address.ensures.stays)

pub returns-in-Ok-put_address-clause-below : goal.returns-in-Ok-put_address-clause-below
returns-in-Ok-put_address-clause-below g c =
    let at = c.run_start.ensures in
    let inside = c.in-Ok-store.ensures.inside.inside in
    let one = c.in-Ok-store.ensures.one in
    omega (arith, at, inside, one)

pub returns-in-Err-store-clause-faults : goal.returns-in-Err-store-clause-faults
returns-in-Err-store-clause-faults g c m told can =
    let s = c.args.site.sup in
    let v = c.args.bitmap.now in
    let has : HasBits v m = record { fits = can.holds.fits; bits = can.holds.bits } in
    subst (λ (k : ℕ). IsNotStored (sizes_of s) v m (ceil k s.block_size) c.in-Err-store.fault) (ap length c.deref.ensures.value ∙ c.in-Ok.ensures.length) (c.in-Err-store.ensures.faults m told has)

pub returns-clause-faults : goal.returns-clause-faults
returns-clause-faults g c m told can =
    inl (cause_sound (g.E.Blocks.counts c.store.new.edits) (g.E.Blocks.counts c.put_address.new.edits) c.in-Err-put_address.fault c.in-Err-put_address.ensures.cause)

pub returns-in-Err-store-clause-cause : goal.returns-in-Err-store-clause-cause
returns-in-Err-store-clause-cause g c =
    subst (λ (k : ℕ). IsGrowCause (max 1 (ceil k c.args.site.sup.block_size)) (g.E.Blocks.counts c.args.edits.now) (g.E.Blocks.counts c.store.new.edits) c.in-Err-store.fault)
    (ap length c.deref.ensures.value ∙ c.in-Ok.ensures.length) c.in-Err-store.ensures.cause

pub returns-clause-cause : goal.returns-clause-cause
returns-clause-cause g c =
    let n = max 1 (ceil 2048 c.args.site.sup.block_size) in
    cause_wider n n (g.E.Blocks.counts c.args.edits.now) (g.E.Blocks.counts c.store.new.edits) (g.E.Blocks.counts c.put_address.new.edits) (grow.Block c.in-Err-put_address.fault) (omega arith) c.in-Ok-store.ensures.later
    (caused_in (g.E.Blocks.counts c.store.new.edits) (g.E.Blocks.counts c.put_address.new.edits) c.in-Err-put_address.fault c.in-Err-put_address.ensures.cause)

pub returns-clause-stays : goal.returns-clause-stays
returns-clause-stays g c k e = c.put_address.ensures.stays k (c.store.ensures.stays k e)
