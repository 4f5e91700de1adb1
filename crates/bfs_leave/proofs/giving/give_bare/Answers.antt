use Rattle.std.proofs.Common.{◌≡◌, ◌⊎◌, ◌∙◌, ℕ, Bool, true, sym, subst}
use Rattle.bfs_bitmap.specs.Fills.{IsBitmapBlock}
use Rattle.bfs_txn.specs.Told.{StaysChanged}
use Rattle.bfs_make.specs.Given.{HasGivenBack}
use Rattle.bfs_make.specs.Sites.{stream_in}
use Rattle.bfs_shift.proofs.AtWork.{inode_told}
use Rattle.bfs_leave.proofs.Bared.{bared_owns, bared_block, bared_inode}
use Rattle.bfs_leave.proofs.giving.give_bare.Goals as goal

pub returns-in-Ok-give_block-clause-given : goal.returns-in-Ok-give_block-clause-given
returns-in-Ok-give_block-clause-given g c m tree lists loose n told work clear is none =
    let s = c.args.site.sup in
    let v = c.args.bitmap.now in
    let old = g.E.Blocks.changed c.args.edits.now in
    let new = g.E.Blocks.changed c.give_block.new.edits in
    let keeps = sym (c.in-Ok.ensures.alone m told (inode_told s v m tree lists loose c.args.id n work is)) ∙ c.if-alone.true in
    bared_block s v m tree lists loose c.args.id n c.requires.valid work is c.give_block.new.bitmap (g.E.Blocks.told c.give_block.new.edits) old new clear none
    c.in-Ok-give_block.ensures.rest c.in-Ok-give_block.ensures.standing
    (subst (λ (f : ℕ → Bool). StaysChanged f new) c.stands_alone.ensures.changed c.in-Ok-give_block.ensures.stays) keeps
    (c.in-Ok-give_block.ensures.gave m (c.stands_alone.ensures.told ∙ told) work.fits)
    (subst (λ (f : ℕ → Bool). (k : ℕ) → new k ≡ true → (f k ≡ true) ⊎ IsBitmapBlock v k) c.stands_alone.ensures.changed c.in-Ok-give_block.ensures.changed)

pub returns-in-Ok-give_inode-clause-given : goal.returns-in-Ok-give_inode-clause-given
returns-in-Ok-give_inode-clause-given g c m tree lists loose n told work clear is none =
    let s = c.args.site.sup in
    let v = c.args.bitmap.now in
    let now = c.give_inode.new.bitmap in
    let old = g.E.Blocks.changed c.args.edits.now in
    let new = g.E.Blocks.changed c.give_inode.new.edits in
    let told_now = g.E.Blocks.told c.give_inode.new.edits in
    let keeps = sym (c.in-Ok.ensures.alone m told (inode_told s v m tree lists loose c.args.id n work is)) ∙ c.if-alone.false in
    bared_inode s v m tree lists loose c.args.id n c.requires.valid work is now told_now old new clear none
    c.in-Ok-give_inode.ensures.rest c.in-Ok-give_inode.ensures.standing
    (subst (λ (f : ℕ → Bool). StaysChanged f new) c.stands_alone.ensures.changed c.in-Ok-give_inode.ensures.stays) keeps
    (subst (λ (f : ℕ → Bool). HasGivenBack (stream_in c.args.site c.args.id) v now m told_now f new) c.stands_alone.ensures.changed
    (c.in-Ok-give_inode.ensures.given m (c.stands_alone.ensures.told ∙ told) (bared_owns s v m tree lists loose c.args.id n c.requires.valid work is keeps)))

pub returns-in-Err-give_inode-clause-sound : goal.returns-in-Err-give_inode-clause-sound
returns-in-Err-give_inode-clause-sound g c m tree lists loose n told work is =
    let s = c.args.site.sup in
    let v = c.args.bitmap.now in
    let keeps = sym (c.in-Ok.ensures.alone m told (inode_told s v m tree lists loose c.args.id n work is)) ∙ c.if-alone.false in
    c.in-Err-give_inode.ensures.sound m (c.stands_alone.ensures.told ∙ told) (bared_owns s v m tree lists loose c.args.id n c.requires.valid work is keeps)
