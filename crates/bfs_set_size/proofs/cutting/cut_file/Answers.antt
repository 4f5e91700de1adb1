use Rattle.std.proofs.Common.{◌≤◌, ◌*◌, ℕ, arith, subst}
use Rattle.bfs_stream.specs.Sizes.{Origin, sizes_of}
use Rattle.bfs_stream.specs.Told.{contents}
use Rattle.bfs_shift.specs.Inodes.{HasBytes}
use Rattle.bfs_calls.proofs.Faulting.{undone_unanswered, read_cause, cause_earlier}
use Rattle.bfs_set_size.specs.Sized.{HasCutSince}
use Rattle.bfs_set_size.proofs.Owned.{owner_told, file_owns, file_size}
use Rattle.bfs_set_size.proofs.Cut.{cut_to, cut_few}
use Rattle.bfs_set_size.proofs.cutting.cut_file.Goals as goal

pub returns-in-Ok-check_inode-clause-cut : goal.returns-in-Ok-check_inode-clause-cut
returns-in-Ok-check_inode-clause-cut g c m tree lists loose n told work clear is file few =
    let s = c.args.sup.now in
    let v = c.args.bitmap.now in
    let now = c.trim_stream.new.bitmap in
    let o : Origin = record { id = c.args.id; sizes = sizes_of s } in
    let old = g.E.Blocks.changed c.args.edits.now in
    let told_now = g.E.Blocks.told c.trim_stream.new.edits in
    let changed_now = g.E.Blocks.changed c.trim_stream.new.edits in
    let cut : HasCutSince o v now m c.args.blocks told_now old changed_now =
    c.in-Ok.ensures.cut m told (file_owns s v m tree lists loose c.args.id n c.requires.valid work is file) (subst (λ (x : ℕ). x ≤ s.block_size * c.args.blocks) (file_size s v m tree lists loose c.args.id n c.requires.valid work is file) few) in
    let map = cut.since.trimmed.map in
    let words = c.in-Ok-check_inode.ensures.words map cut.since.trimmed.is (owner_told o now map cut.since.trimmed.owns) in
    let bytes : HasBytes (contents m c.args.id) (contents map c.args.id) = record { long = (let l = cut.before.long in omega (arith, l)); before = cut.before.words; after = words.words } in
    cut_to s v now m tree lists loose c.args.id n cut.since.gone told_now old changed_now c.requires.valid work clear is file cut.since.trimmed c.in-Ok.ensures.rest c.in-Ok.ensures.standing c.in-Ok.ensures.stays bytes
    c.args.blocks (g.E.Blocks.told c.check_inode.new.under) (g.E.Blocks.changed c.check_inode.new.under) c.check_inode.ensures.told c.check_inode.ensures.changed (cut_few o v now m c.args.blocks told_now old changed_now cut.since)

pub returns-in-Err-clause-unanswered : goal.returns-in-Err-clause-unanswered
returns-in-Err-clause-unanswered g c m tree lists loose n told work is file few =
    let s = c.args.sup.now in
    let v = c.args.bitmap.now in
    c.in-Err.ensures.unanswered m told (file_owns s v m tree lists loose c.args.id n c.requires.valid work is file)
    (subst (λ (x : ℕ). x ≤ s.block_size * c.args.blocks) (file_size s v m tree lists loose c.args.id n c.requires.valid work is file) few)

pub returns-in-Err-check_inode-clause-unanswered : goal.returns-in-Err-check_inode-clause-unanswered
returns-in-Err-check_inode-clause-unanswered g c m tree lists loose n told work is file few = undone_unanswered c.in-Err-check_inode.fault c.in-Err-check_inode.ensures.undone

pub returns-in-Err-check_inode-clause-cause : goal.returns-in-Err-check_inode-clause-cause
returns-in-Err-check_inode-clause-cause g c =
    cause_earlier (g.E.Blocks.counts c.args.edits.now) (g.E.Blocks.counts c.trim_stream.new.edits) (g.E.Blocks.counts c.check_inode.new.under) c.in-Err-check_inode.fault c.in-Ok.ensures.later
    (read_cause (g.E.Blocks.counts c.trim_stream.new.edits) (g.E.Blocks.counts c.check_inode.new.under) c.in-Err-check_inode.fault c.in-Err-check_inode.ensures.read_cause)
