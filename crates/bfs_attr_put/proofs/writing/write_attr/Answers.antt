use Rattle.std.proofs.Common.{rules, ◌≡◌, ◌∙◌, ℤ, ℕ, Bool, refl, sym, subst, arith, length, max}
use mir.Syntax.{w64}
use mir.Val.{to_z, of_z}
use Rattle.bfs_bitmap.specs.Runs.{Room}
use Rattle.bfs_super.specs.Conditions.{ceil}
use Rattle.bfs_super.specs.Geometry.{geometry_of}
use Rattle.bfs_tree.specs.Trees.{Attribute}
use Rattle.bfs_look.specs.Ready.{IsReady, HasReady}
use Rattle.bfs_attr_calls.proofs.Faulting.{undone_unanswered, read_cause}
use Rattle.bfs_attr_put.specs.Written.{IsAttributeWritten}
use Rattle.bfs_attr_put.proofs.Faulting.{answer_write}
use Rattle.bfs_attr_put.proofs.writing.write_attr.Goals as goal

pub returns-in-Err-clause-unanswered : goal.returns-in-Err-clause-unanswered
returns-in-Err-clause-unanswered g c m tree lists told ready = undone_unanswered c.in-Err.fault (c.in-Err.ensures.due m tree lists told ready)

pub returns-in-Err-clause-cause : goal.returns-in-Err-clause-cause
returns-in-Err-clause-cause g c =
    let size = c.args.sup.now.block_size in
    let old = g.E.Blocks.counts c.args.edits.now in
    let new = g.E.Blocks.counts c.due_for.new.edits in
    answer_write (max 1 (max (ceil 2048 size) (ceil (length c.args.bytes.now) size))) old old new c.in-Err.fault (omega arith) (record { faults = omega arith; stops = refl; stop = refl }) (read_cause old new c.in-Err.fault c.in-Err.ensures.cause)

pub write_due-requires-clause-ready : goal.write_due-requires-clause-ready
write_due-requires-clause-ready g c m told =
    subst (λ (v : Room). HasReady (geometry_of c.args.sup.now) v m) (sym c.in-Ok.ensures.bitmap) (c.requires.ready m (sym c.in-Ok.ensures.told ∙ told))

pub write_due-requires-clause-there : goal.write_due-requires-clause-there
write_due-requires-clause-there g c m tree lists told ready =
    c.requires.there m tree lists (sym c.in-Ok.ensures.told ∙ told) (subst (λ (v : Room). IsReady (geometry_of c.args.sup.now) v m tree lists) c.in-Ok.ensures.bitmap ready)

pub write_due-requires-clause-due : goal.write_due-requires-clause-due
write_due-requires-clause-due g c m tree lists told ready =
    c.in-Ok.ensures.due m tree lists (sym c.in-Ok.ensures.told ∙ told) (subst (λ (v : Room). IsReady (geometry_of c.args.sup.now) v m tree lists) c.in-Ok.ensures.bitmap ready)

pub returns-in-Ok-write_due-clause-written : goal.returns-in-Ok-write_due-clause-written
returns-in-Ok-write_due-clause-written g c m tree lists told ready =
    let s = geometry_of c.args.sup.now in
    let id = c.args.id in
    let name = c.args.name.now in
    let attribute : Attribute = record { code = c.args.kind; bytes = c.args.bytes.now } in
    let t = g.E.Blocks.told c.write_due.new.edits in
    let new = g.E.Blocks.changed c.write_due.new.edits in
    let now = c.write_due.new.bitmap in
    let e : to_z w64 (of_z w64 c.args.stamp) ≡ c.args.stamp = search rules in
    subst (λ (z : ℤ). IsAttributeWritten s c.args.bitmap.now now m tree id name attribute z t (g.E.Blocks.changed c.args.edits.now) new) e
    (subst (λ (f : ℕ → Bool). IsAttributeWritten s c.args.bitmap.now now m tree id name attribute (to_z w64 (of_z w64 c.args.stamp)) t f new) c.in-Ok.ensures.changed
    (subst (λ (v : Room). IsAttributeWritten s v now m tree id name attribute (to_z w64 (of_z w64 c.args.stamp)) t (g.E.Blocks.changed c.due_for.new.edits) new) c.in-Ok.ensures.bitmap
    (c.in-Ok-write_due.ensures.written m tree lists (c.in-Ok.ensures.told ∙ told) (subst (λ (v : Room). IsReady s v m tree lists) (sym c.in-Ok.ensures.bitmap) ready))))

pub returns-clause-unanswered : goal.returns-clause-unanswered
returns-clause-unanswered g c m tree lists told ready =
    c.in-Err-write_due.ensures.unanswered m tree lists (c.in-Ok.ensures.told ∙ told) (subst (λ (v : Room). IsReady (geometry_of c.args.sup.now) v m tree lists) (sym c.in-Ok.ensures.bitmap) ready)
