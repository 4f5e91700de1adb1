use Rattle.std.proofs.Common.{◌≡◌, ◌⊎◌, ℕ, true, subst, arith}
use Rattle.bfs_stream.proofs.Stops.{cause_wider}
use Rattle.bfs_stream.specs.Sizes.{sizes_of, first_block}
use Rattle.bfs_make.specs.Made.{HasInode, formed_at}
use Rattle.bfs_make.specs.declared.making.NewInode.{NewInode}
use Rattle.bfs_make.proofs.News.{has_made, undamaged_run}
use Rattle.bfs_make.proofs.making.new_inode.Goals as goal

pub returns-in-Ok-make_inode-clause-made : goal.returns-in-Ok-make_inode-clause-made
returns-in-Ok-make_inode-clause-made g c m is has =
    let s = sizes_of c.args.site.sup in
    let n : NewInode = formed_at c.in-Ok.address c.args.form in
    let made_as : c.formed.result ≡ n = c.formed.ensures in
    let took = c.in-Ok.ensures.took m is has.fits in
    let inode : HasInode s n took.map (g.E.Blocks.told c.make_inode.new.edits) = subst (λ (x : NewInode). HasInode s x took.map (g.E.Blocks.told c.make_inode.new.edits)) made_as (c.in-Ok-make_inode.ensures.made took.map took.is) in
    has_made s c.args.bitmap.now c.take_block.new.bitmap m n (g.E.Blocks.told c.take_block.new.edits) has took c.in-Ok.ensures.rest c.in-Ok.ensures.one (g.E.Blocks.told c.make_inode.new.edits) inode
    (g.E.Blocks.changed c.args.edits.now) (g.E.Blocks.changed c.take_block.new.edits) (g.E.Blocks.changed c.make_inode.new.edits) c.in-Ok.ensures.changed
    (subst (λ (x : NewInode). (k : ℕ) → g.E.Blocks.changed c.make_inode.new.edits k ≡ true → (g.E.Blocks.changed c.take_block.new.edits k ≡ true) ⊎ (k ≡ first_block s x.address)) made_as c.in-Ok-make_inode.ensures.changed)
    (subst (λ (x : NewInode). g.E.Blocks.changed c.make_inode.new.edits (first_block s x.address) ≡ true) made_as c.in-Ok-make_inode.ensures.entered)

pub returns-in-Err-make_inode-clause-no_run : goal.returns-in-Err-make_inode-clause-no_run
returns-in-Err-make_inode-clause-no_run g c m is has = undamaged_run c.args.bitmap.now m 1 c.in-Err-make_inode.fault c.in-Err-make_inode.ensures.sound

pub returns-in-Err-clause-no_run : goal.returns-in-Err-clause-no_run
returns-in-Err-clause-no_run g c m is has = c.in-Err.ensures.no_run m is has.fits

pub returns-in-Err-make_inode-clause-cause : goal.returns-in-Err-make_inode-clause-cause
returns-in-Err-make_inode-clause-cause g c =
    cause_wider 1 1 (g.E.Blocks.counts c.args.edits.now) (g.E.Blocks.counts c.take_block.new.edits) (g.E.Blocks.counts c.make_inode.new.edits) c.in-Err-make_inode.fault (omega arith) c.in-Ok.ensures.later c.in-Err-make_inode.ensures.cause
