use Rattle.std.proofs.Common.{◌++◌, [], ◌∷◌, append-nil, sym, subst, Bool}
use Rattle.std.specs.List.{flat_map}
use Rattle.bfs_super.specs.Conditions.{natural}
use Rattle.bfs_super.specs.Geometry.{geometry_of}
use Rattle.bfs_stream.specs.Grown.{IsOfVolume}
use Rattle.bfs_stream.specs.Sizes.{sizes_of}
use Rattle.bfs_sound.specs.Inodes.{inode_blocks}
use Rattle.bfs_shift.specs.Shifts.{volume_in}
use Rattle.bfs_leave.specs.Given.{AreGivenBack}
use Rattle.bfs_leave.proofs.Gathered.{given_twice}
use Rattle.bfs_leave.proofs.Givings.{from_gave}
use Rattle.bfs_leave.proofs.Inodes.{given_as}
use Rattle.bfs_unmake.specs.Whole.{alone_in}
use Rattle.bfs_unmake.proofs.Numbers.{each_below}
use Rattle.bfs_unmake.proofs.giving.give_all.Goals as goal

pub give_inodes-requires-clause-inside : goal.give_inodes-requires-clause-inside
give_inodes-requires-clause-inside g c = each_below (natural c.args.site.sup.num_blocks) c.args.ids.now c.requires.below

pub give_block-requires-clause-volume : goal.give_block-requires-clause-volume
give_block-requires-clause-volume g c =
    subst (IsOfVolume (sizes_of c.args.site.sup)) (sym c.in-Ok.ensures.rest) (record { block_size = c.requires.volume.block_size; blocks = c.requires.volume.blocks; group_blocks = c.requires.volume.group_blocks })

pub returns-in-Ok-give_block-clause-given : goal.returns-in-Ok-give_block-clause-given
returns-in-Ok-give_block-clause-given g c m told fits loose =
    let v = c.args.bitmap.now in
    let mid = c.give_inodes.new.bitmap in
    let now = c.give_block.new.bitmap in
    let xs = flat_map (inode_blocks (volume_in (geometry_of c.args.site.sup) m)) c.args.ids.now in
    let old = g.E.Blocks.changed c.args.edits.now in
    let half = g.E.Blocks.changed c.give_inodes.new.edits in
    let new = g.E.Blocks.changed c.give_block.new.edits in
    let told1 = g.E.Blocks.told c.give_inodes.new.edits in
    let told2 = g.E.Blocks.told c.give_block.new.edits in
    let one = c.in-Ok.ensures.given m told fits loose in
    let two = from_gave mid now (c.args.id ∷ []) one.map told2 half new (c.in-Ok-give_block.ensures.gave one.map one.is one.fits) c.in-Ok-give_block.ensures.changed in
    subst (λ (t : Bool). AreGivenBack v now (xs ++ alone_in c.args.id t) m told2 old new) (sym c.if-alone.true)
    (given_twice v mid now xs (c.args.id ∷ []) m told1 told2 old half new c.in-Ok.ensures.rest one two)

pub returns-else-alone-clause-given : goal.returns-else-alone-clause-given
returns-else-alone-clause-given g c m told fits loose =
    let v = c.args.bitmap.now in
    let now = c.give_inodes.new.bitmap in
    let xs = flat_map (inode_blocks (volume_in (geometry_of c.args.site.sup) m)) c.args.ids.now in
    let old = g.E.Blocks.changed c.args.edits.now in
    let new = g.E.Blocks.changed c.give_inodes.new.edits in
    let told1 = g.E.Blocks.told c.give_inodes.new.edits in
    subst (λ (t : Bool). AreGivenBack v now (xs ++ alone_in c.args.id t) m told1 old new) (sym c.if-alone.false)
    (given_as v now xs (xs ++ []) m told1 old new (sym (append-nil xs)) (c.in-Ok.ensures.given m told fits loose))

pub returns-in-Err-give_block-clause-sound : goal.returns-in-Err-give_block-clause-sound
returns-in-Err-give_block-clause-sound g c m told fits loose =
    let one = c.in-Ok.ensures.given m told fits loose in
    c.in-Err-give_block.ensures.sound one.map one.is
