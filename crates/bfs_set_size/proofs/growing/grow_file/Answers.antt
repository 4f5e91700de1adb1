use Rattle.std.proofs.Common.{◌∙◌, arith, sym, subst}
use Rattle.bfs_super.specs.Geometry.{geometry_of}
use Rattle.bfs_node.specs.declared.fault.TreeFault.{TreeFault}
use Rattle.bfs_stream.specs.declared.fault.GrowFault.{GrowFault}
use Rattle.bfs_stream.specs.Sizes.{sizes_of}
use Rattle.bfs_stream.specs.Told.{contents}
use Rattle.bfs_stream.proofs.Sized.{valid_sizes}
use Rattle.bfs_calls.specs.Done.{IsUnanswered, HasAnswerCause}
use Rattle.bfs_calls.proofs.Faulting.{cause_earlier}
use Rattle.bfs_set_size.proofs.Owned.{file_owns}
use Rattle.bfs_set_size.proofs.Roomy.{has_room, room_now, room_since}
use Rattle.bfs_set_size.proofs.growing.grow_file.Goals as goal

pub returns-then-count-eq0-clause-grown : goal.returns-then-count-eq0-clause-grown
returns-then-count-eq0-clause-grown g c m tree lists loose n told work clear is file =
    let s = c.args.sup.now in
    let v = c.args.bitmap.now in
    let count = c.in-Ok.ensures.count m told (file_owns s v m tree lists loose c.args.id n c.requires.valid work is file).stands in
    let none = c.if-count-eq0.true in
    room_now (geometry_of s) v v m tree lists loose c.args.id c.args.blocks (g.E.Blocks.told c.lacking.new.edits) (g.E.Blocks.changed c.args.edits.now) (g.E.Blocks.changed c.lacking.new.edits) work clear
    (c.lacking.ensures.told ∙ told) c.lacking.ensures.changed (omega (arith, count, none))

pub returns-in-Ok-grow_by-clause-grown : goal.returns-in-Ok-grow_by-clause-grown
returns-in-Ok-grow_by-clause-grown g c m tree lists loose n told work clear is file =
    let s = c.args.sup.now in
    let v = c.args.bitmap.now in
    let count = c.in-Ok.ensures.count m told (file_owns s v m tree lists loose c.args.id n c.requires.valid work is file).stands in
    room_since (geometry_of s) v c.grow_by.new.bitmap m tree lists loose c.args.id c.args.blocks (g.E.Blocks.told c.grow_by.new.edits) (g.E.Blocks.changed c.args.edits.now) (g.E.Blocks.changed c.grow_by.new.edits)
    c.in-Ok.count (g.E.Blocks.changed c.lacking.new.edits) c.lacking.ensures.changed count (let some = c.if-count-eq0.false in omega (arith, some)) (c.in-Ok-grow_by.ensures.grown m tree lists loose n (c.lacking.ensures.told ∙ told) work clear is file)

pub returns-in-Err-clause-unanswered : goal.returns-in-Err-clause-unanswered
returns-in-Err-clause-unanswered g c m tree lists loose n told work is file few =
    subst (λ (f : TreeFault GrowFault). IsUnanswered f) (sym c.blocked.ensures) (c.in-Err.ensures.sound m told (file_owns c.args.sup.now c.args.bitmap.now m tree lists loose c.args.id n c.requires.valid work is file).stands)

pub returns-in-Err-grow_by-clause-unanswered : goal.returns-in-Err-grow_by-clause-unanswered
returns-in-Err-grow_by-clause-unanswered g c m tree lists loose n told work is file few =
    let s = c.args.sup.now in
    let v = c.args.bitmap.now in
    let count = c.in-Ok.ensures.count m told (file_owns s v m tree lists loose c.args.id n c.requires.valid work is file).stands in
    c.in-Err-grow_by.ensures.unanswered m tree lists loose n (c.lacking.ensures.told ∙ told) work is file
    (has_room (sizes_of s) (valid_sizes s c.requires.valid).block_size (contents m) c.args.id c.args.blocks c.in-Ok.count few count)

pub returns-in-Err-clause-cause : goal.returns-in-Err-clause-cause
returns-in-Err-clause-cause g c =
    subst (λ (f : TreeFault GrowFault). HasAnswerCause (g.E.Blocks.counts c.args.edits.now) (g.E.Blocks.counts c.lacking.new.edits) f) (sym c.blocked.ensures) c.in-Err.ensures.cause

pub returns-in-Err-grow_by-clause-cause : goal.returns-in-Err-grow_by-clause-cause
returns-in-Err-grow_by-clause-cause g c =
    cause_earlier (g.E.Blocks.counts c.args.edits.now) (g.E.Blocks.counts c.lacking.new.edits) (g.E.Blocks.counts c.grow_by.new.edits) c.in-Err-grow_by.fault c.lacking.ensures.later c.in-Err-grow_by.ensures.cause
