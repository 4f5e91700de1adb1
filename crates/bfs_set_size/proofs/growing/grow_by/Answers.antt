use Rattle.std.proofs.Common.{arith}
use Rattle.bfs_stream.specs.Sizes.{Origin, sizes_of}
use Rattle.bfs_stream.specs.Told.{contents}
use Rattle.bfs_shift.specs.Inodes.{HasBytes}
use Rattle.bfs_calls.proofs.Faulting.{undone_unanswered, read_cause, cause_earlier}
use Rattle.bfs_set_size.specs.Sized.{HasGrownSince}
use Rattle.bfs_set_size.proofs.Owned.{owner_told, file_owns}
use Rattle.bfs_set_size.proofs.Grew.{has_more}
use Rattle.bfs_set_size.proofs.growing.grow_by.Goals as goal

pub returns-in-Ok-check_inode-clause-grown : goal.returns-in-Ok-check_inode-clause-grown
returns-in-Ok-check_inode-clause-grown g c m tree lists loose n told work clear is file =
    let s = c.args.sup.now in
    let v = c.args.bitmap.now in
    let now = c.grow_stream.new.bitmap in
    let o : Origin = record { id = c.args.id; sizes = sizes_of s } in
    let old = g.E.Blocks.changed c.args.edits.now in
    let told_now = g.E.Blocks.told c.grow_stream.new.edits in
    let changed_now = g.E.Blocks.changed c.grow_stream.new.edits in
    let more : HasGrownSince o v now m c.args.blocks told_now old changed_now = c.in-Ok.ensures.grown m told (file_owns s v m tree lists loose c.args.id n c.requires.valid work is file) in
    let grown = more.since.grown.2 in
    let map = grown.map in
    let words = c.in-Ok-check_inode.ensures.words map grown.is (owner_told o now map grown.owns) in
    let bytes : HasBytes (contents m c.args.id) (contents map c.args.id) = record { long = (let l = more.before.long in omega (arith, l)); before = more.before.words; after = words.words } in
    has_more s v now m tree lists loose c.args.id n more.since.grown.0 told_now old changed_now c.requires.valid work clear is file grown c.in-Ok.ensures.rest bytes
    c.args.blocks (g.E.Blocks.told c.check_inode.new.under) (g.E.Blocks.changed c.check_inode.new.under) c.check_inode.ensures.told c.check_inode.ensures.changed
    (let a = more.since.enough in let b = more.since.grown.1 in omega (arith, a, b)) (let a = more.since.most in let b = more.since.grown.1 in omega (arith, a, b))

pub returns-in-Err-clause-unanswered : goal.returns-in-Err-clause-unanswered
returns-in-Err-clause-unanswered g c m tree lists loose n told work is file few =
    c.in-Err.ensures.unanswered m told (file_owns c.args.sup.now c.args.bitmap.now m tree lists loose c.args.id n c.requires.valid work is file) few

pub returns-in-Err-check_inode-clause-unanswered : goal.returns-in-Err-check_inode-clause-unanswered
returns-in-Err-check_inode-clause-unanswered g c m tree lists loose n told work is file few = undone_unanswered c.in-Err-check_inode.fault c.in-Err-check_inode.ensures.undone

pub returns-in-Err-check_inode-clause-cause : goal.returns-in-Err-check_inode-clause-cause
returns-in-Err-check_inode-clause-cause g c =
    cause_earlier (g.E.Blocks.counts c.args.edits.now) (g.E.Blocks.counts c.grow_stream.new.edits) (g.E.Blocks.counts c.check_inode.new.under) c.in-Err-check_inode.fault c.in-Ok.ensures.later
    (read_cause (g.E.Blocks.counts c.grow_stream.new.edits) (g.E.Blocks.counts c.check_inode.new.under) c.in-Err-check_inode.fault c.in-Err-check_inode.ensures.read_cause)
