use Rattle.std.proofs.Common.{rules, ◌≡◌, ◌≤◌, ◌<◌, ◌^◌, ◌∙◌, ℤ, ℕ, List, [], Option, refl, ap, subst, arith, length, max}
use mir.Syntax.{w64}
use mir.Val.{to_z, of_z}
use Rattle.bfs_bitmap.specs.Runs.{Room, as_kept}
use Rattle.bfs_super.specs.Conditions.{ceil, natural}
use Rattle.bfs_super.specs.Geometry.{geometry_of}
use Rattle.bfs_tree.specs.Trees.{Attribute}
use Rattle.bfs_make.proofs.Telling.{told_back, one_map}
use Rattle.bfs_attr_calls.proofs.Brings.{rest_given}
use Rattle.bfs_look.proofs.Known.{few_blocks}
use Rattle.bfs_attr_calls.proofs.Standing.{same_standing}
use Rattle.bfs_attr_calls.proofs.Faulting.{undone_unanswered, read_cause}
use Rattle.bfs_attr_calls.specs.Removed.{tree_with}
use Rattle.bfs_attr_put.specs.Listed.{HasPutOnly}
use Rattle.bfs_attr_put.specs.Written.{node_with, IsAttributeWritten}
use Rattle.bfs_attr_put.proofs.Faulting.{answer_write, write_earlier}
use Rattle.bfs_attr_put.proofs.Whole.{rest_thrice, left_clear, bearer_left, put_only, attribute_written}
use Rattle.bfs_attr_put.proofs.writing.write_due.Goals as goal

pub returns-in-Err-clause-unanswered : goal.returns-in-Err-clause-unanswered
returns-in-Err-clause-unanswered g c m tree lists told ready = undone_unanswered c.in-Err.fault (c.in-Err.ensures.undone m tree lists told ready)

pub returns-in-Err-clause-cause : goal.returns-in-Err-clause-cause
returns-in-Err-clause-cause g c =
    let size = c.args.sup.now.block_size in
    let old = g.E.Blocks.counts c.args.edits.now in
    let new = g.E.Blocks.counts c.leave_index.new.edits in
    answer_write (max 1 (max (ceil 2048 size) (ceil (length c.args.bytes.now) size))) old old new c.in-Err.fault (omega arith) (record { faults = omega arith; stops = refl; stop = refl }) (read_cause old new c.in-Err.fault c.in-Err.ensures.cause)

pub change_attribute-requires-clause-bearer : goal.change_attribute-requires-clause-bearer
change_attribute-requires-clause-bearer g c now told1 =
    let before =
    told_back (g.E.Blocks.told c.args.edits.now) (g.E.Blocks.told c.leave_index.new.edits) (g.E.Blocks.frame c.args.edits.now).below (g.E.Blocks.frame c.leave_index.new.edits).below
    (g.met.E.Edits.tells c.args.edits.now) (g.met.E.Edits.tells c.leave_index.new.edits) (ap (λ f. f.below) c.in-Ok.ensures.frame) now told1 in
    let m = before.0 in
    let told = before.1 in
    let h = c.requires.ready m told in
    let there = c.requires.there m h.tree h.lists told h.ready in
    let one = c.in-Ok.ensures.unlisted m h.tree h.lists there.0 told h.ready there.1 in
    bearer_left (geometry_of c.args.sup.now) c.args.bitmap.now c.leave_index.new.bitmap m h.tree h.lists h.ready c.args.id there.0 there.1 c.args.name.now
    (g.E.Blocks.told c.leave_index.new.edits) (g.E.Blocks.changed c.args.edits.now) (g.E.Blocks.changed c.leave_index.new.edits) one now told1

pub returns-in-Err-change_attribute-clause-unanswered : goal.returns-in-Err-change_attribute-clause-unanswered
returns-in-Err-change_attribute-clause-unanswered g c m tree lists told ready =
    let there = c.requires.there m tree lists told ready in
    let one = c.in-Ok.ensures.unlisted m tree lists there.0 told ready there.1 in
    c.in-Err-change_attribute.ensures.unanswered one.step.map tree one.last [] there.0 one.step.is one.step.work there.1

pub returns-in-Err-change_attribute-clause-cause : goal.returns-in-Err-change_attribute-clause-cause
returns-in-Err-change_attribute-clause-cause g c =
    let size = c.args.sup.now.block_size in
    write_earlier (max 1 (max (ceil 2048 size) (ceil (length c.args.bytes.now) size))) (g.E.Blocks.counts c.args.edits.now) (g.E.Blocks.counts c.leave_index.new.edits) (g.E.Blocks.counts c.change_attribute.new.edits) c.in-Err-change_attribute.fault
    c.in-Ok.ensures.later c.in-Err-change_attribute.ensures.cause

pub list_attribute-requires-clause-id : goal.list_attribute-requires-clause-id
list_attribute-requires-clause-id g c =
    let low = c.requires.may.inside in
    let few = few_blocks c.args.sup.now c.requires.valid in
    below c.args.id (natural c.args.sup.now.num_blocks) low few
  where
    below : (k n : ℕ) → k < n → n ≤ 2 ^ 62 → k < 2 ^ 62
    below k n low few = omega (arith, low, few)

pub list_attribute-requires-clause-put : goal.list_attribute-requires-clause-put
list_attribute-requires-clause-put g c map told2 =
    let s = geometry_of c.args.sup.now in
    let v = c.args.bitmap.now in
    let v1 = c.leave_index.new.bitmap in
    let v2 = c.change_attribute.new.bitmap in
    let id = c.args.id in
    let name = c.args.name.now in
    let attribute : Attribute = record { code = c.args.kind; bytes = c.args.bytes.now } in
    let t1 = g.E.Blocks.told c.leave_index.new.edits in
    let t2 = g.E.Blocks.told c.change_attribute.new.edits in
    let c0 = g.E.Blocks.changed c.args.edits.now in
    let c1 = g.E.Blocks.changed c.leave_index.new.edits in
    let c2 = g.E.Blocks.changed c.change_attribute.new.edits in
    let before =
    told_back (g.E.Blocks.told c.args.edits.now) t2 (g.E.Blocks.frame c.args.edits.now).below (g.E.Blocks.frame c.change_attribute.new.edits).below
    (g.met.E.Edits.tells c.args.edits.now) (g.met.E.Edits.tells c.change_attribute.new.edits) (ap (λ f. f.below) (c.in-Ok-change_attribute.ensures.frame ∙ c.in-Ok.ensures.frame)) map told2 in
    let m = before.0 in
    let told = before.1 in
    let h = c.requires.ready m told in
    let there = c.requires.there m h.tree h.lists told h.ready in
    let n = there.0 in
    let one = c.in-Ok.ensures.unlisted m h.tree h.lists n told h.ready there.1 in
    let clear = left_clear s v v1 m h.tree h.lists h.ready id n there.1 name t1 c0 c1 one in
    let z = to_z w64 (of_z w64 c.args.stamp) in
    let two = c.in-Ok-change_attribute.ensures.left one.step.map h.tree one.last [] n one.step.is one.step.work clear there.1 in
    subst (λ (k : ℕ → Option (List ℕ)). HasPutOnly s v2 k id c.args.due.now) (one_map t2 two.map map two.is told2)
    (record {
      tree = h.tree;
      since = tree_with h.tree id (node_with n name attribute z);
      lists = h.lists;
      begun = one.last;
      n = n;
      name = name;
      attribute = attribute;
      put = put_only s v v1 m h.tree h.lists h.ready id n there.1 name t1 c0 c1 one v2 attribute z t2 c2 two;
      is_due = c.requires.due m h.tree h.lists told h.ready;
    })

pub returns-in-Ok-list_attribute-clause-written : goal.returns-in-Ok-list_attribute-clause-written
returns-in-Ok-list_attribute-clause-written g c m tree lists told ready =
    let s = geometry_of c.args.sup.now in
    let v = c.args.bitmap.now in
    let v1 = c.leave_index.new.bitmap in
    let v2 = c.change_attribute.new.bitmap in
    let v3 = c.list_attribute.new.bitmap in
    let id = c.args.id in
    let name = c.args.name.now in
    let attribute : Attribute = record { code = c.args.kind; bytes = c.args.bytes.now } in
    let t1 = g.E.Blocks.told c.leave_index.new.edits in
    let t2 = g.E.Blocks.told c.change_attribute.new.edits in
    let t3 = g.E.Blocks.told c.list_attribute.new.edits in
    let c0 = g.E.Blocks.changed c.args.edits.now in
    let c1 = g.E.Blocks.changed c.leave_index.new.edits in
    let c2 = g.E.Blocks.changed c.change_attribute.new.edits in
    let c3 = g.E.Blocks.changed c.list_attribute.new.edits in
    let there = c.requires.there m tree lists told ready in
    let n = there.0 in
    let one = c.in-Ok.ensures.unlisted m tree lists n told ready there.1 in
    let clear = left_clear s v v1 m tree lists ready id n there.1 name t1 c0 c1 one in
    let e : to_z w64 (of_z w64 c.args.stamp) ≡ c.args.stamp = search rules in
    let z = to_z w64 (of_z w64 c.args.stamp) in
    let two = c.in-Ok-change_attribute.ensures.left one.step.map tree one.last [] n one.step.is one.step.work clear there.1 in
    let put = put_only s v v1 m tree lists ready id n there.1 name t1 c0 c1 one v2 attribute z t2 c2 two in
    let three = c.in-Ok-list_attribute.ensures.listed two.map tree (tree_with tree id (node_with n name attribute z)) lists one.last n name attribute two.is put (c.requires.due m tree lists told ready) in
    subst (λ (z : ℤ). IsAttributeWritten s v v3 m tree id name attribute z t3 c0 c3) e
    (attribute_written s v v1 m tree lists ready id n there.1 name t1 c0 c1 one v2 attribute z t2 c2 two v3 t3 c3 three)

pub returns-in-Err-list_attribute-clause-unanswered : goal.returns-in-Err-list_attribute-clause-unanswered
returns-in-Err-list_attribute-clause-unanswered g c m tree lists told ready =
    let s = geometry_of c.args.sup.now in
    let v = c.args.bitmap.now in
    let there = c.requires.there m tree lists told ready in
    let n = there.0 in
    let one = c.in-Ok.ensures.unlisted m tree lists n told ready there.1 in
    let clear = left_clear s v c.leave_index.new.bitmap m tree lists ready c.args.id n there.1 c.args.name.now (g.E.Blocks.told c.leave_index.new.edits) (g.E.Blocks.changed c.args.edits.now) (g.E.Blocks.changed c.leave_index.new.edits) one in
    let two = c.in-Ok-change_attribute.ensures.left one.step.map tree one.last [] n one.step.is one.step.work clear there.1 in
    c.in-Err-list_attribute.ensures.unanswered two.map two.is

pub returns-in-Err-list_attribute-clause-cause : goal.returns-in-Err-list_attribute-clause-cause
returns-in-Err-list_attribute-clause-cause g c =
    let size = c.args.sup.now.block_size in
    let one = c.in-Ok.ensures.later in
    let two = c.in-Ok-change_attribute.ensures.later in
    answer_write (max 1 (max (ceil 2048 size) (ceil (length c.args.bytes.now) size))) (g.E.Blocks.counts c.args.edits.now) (g.E.Blocks.counts c.change_attribute.new.edits) (g.E.Blocks.counts c.list_attribute.new.edits) c.in-Err-list_attribute.fault (omega arith)
    (let a = one.faults in let b = two.faults in record { faults = omega (arith, a, b); stops = two.stops ∙ one.stops; stop = two.stop ∙ one.stop }) c.in-Err-list_attribute.ensures.cause

-- the bitmap's view, where the first step and the last give nothing back
pub returns-in-Err-clause-rest : goal.returns-in-Err-clause-rest
returns-in-Err-clause-rest g c = rest_given c.args.bitmap.now c.leave_index.new.bitmap c.in-Err.ensures.rest

pub returns-in-Err-clause-kept : goal.returns-in-Err-clause-kept
returns-in-Err-clause-kept g c = ap as_kept c.in-Err.ensures.rest

pub returns-in-Err-clause-standing : goal.returns-in-Err-clause-standing
returns-in-Err-clause-standing g c = same_standing c.args.bitmap.now c.leave_index.new.bitmap (ap (λ (r : Room). r.given) c.in-Err.ensures.rest)

pub returns-in-Err-change_attribute-clause-rest : goal.returns-in-Err-change_attribute-clause-rest
returns-in-Err-change_attribute-clause-rest g c =
    c.in-Err-change_attribute.ensures.rest ∙ ap (λ (r : Room). record r { given = c.change_attribute.new.bitmap.given; tally = c.change_attribute.new.bitmap.tally }) c.in-Ok.ensures.rest

pub returns-in-Err-change_attribute-clause-kept : goal.returns-in-Err-change_attribute-clause-kept
returns-in-Err-change_attribute-clause-kept g c = c.in-Err-change_attribute.ensures.kept ∙ ap as_kept c.in-Ok.ensures.rest

pub returns-in-Err-change_attribute-clause-standing : goal.returns-in-Err-change_attribute-clause-standing
returns-in-Err-change_attribute-clause-standing g c =
    c.in-Err-change_attribute.ensures.standing ∙ same_standing c.args.bitmap.now c.leave_index.new.bitmap (ap (λ (r : Room). r.given) c.in-Ok.ensures.rest)

pub returns-in-Ok-list_attribute-clause-rest : goal.returns-in-Ok-list_attribute-clause-rest
returns-in-Ok-list_attribute-clause-rest g c =
    rest_thrice c.args.bitmap.now c.leave_index.new.bitmap c.change_attribute.new.bitmap c.list_attribute.new.bitmap c.in-Ok.ensures.rest c.in-Ok-change_attribute.ensures.rest c.in-Ok-list_attribute.ensures.rest

pub returns-in-Ok-list_attribute-clause-kept : goal.returns-in-Ok-list_attribute-clause-kept
returns-in-Ok-list_attribute-clause-kept g c = ap as_kept c.in-Ok-list_attribute.ensures.rest ∙ c.in-Ok-change_attribute.ensures.kept ∙ ap as_kept c.in-Ok.ensures.rest

pub returns-in-Ok-list_attribute-clause-standing : goal.returns-in-Ok-list_attribute-clause-standing
returns-in-Ok-list_attribute-clause-standing g c =
    same_standing c.change_attribute.new.bitmap c.list_attribute.new.bitmap (ap (λ (r : Room). r.given) c.in-Ok-list_attribute.ensures.rest) ∙ c.in-Ok-change_attribute.ensures.standing
    ∙ same_standing c.args.bitmap.now c.leave_index.new.bitmap (ap (λ (r : Room). r.given) c.in-Ok.ensures.rest)

pub returns-in-Err-list_attribute-clause-rest : goal.returns-in-Err-list_attribute-clause-rest
returns-in-Err-list_attribute-clause-rest g c =
    rest_thrice c.args.bitmap.now c.leave_index.new.bitmap c.change_attribute.new.bitmap c.list_attribute.new.bitmap c.in-Ok.ensures.rest c.in-Ok-change_attribute.ensures.rest c.in-Err-list_attribute.ensures.rest

pub returns-in-Err-list_attribute-clause-kept : goal.returns-in-Err-list_attribute-clause-kept
returns-in-Err-list_attribute-clause-kept g c = ap as_kept c.in-Err-list_attribute.ensures.rest ∙ c.in-Ok-change_attribute.ensures.kept ∙ ap as_kept c.in-Ok.ensures.rest

pub returns-in-Err-list_attribute-clause-standing : goal.returns-in-Err-list_attribute-clause-standing
returns-in-Err-list_attribute-clause-standing g c =
    same_standing c.change_attribute.new.bitmap c.list_attribute.new.bitmap (ap (λ (r : Room). r.given) c.in-Err-list_attribute.ensures.rest) ∙ c.in-Ok-change_attribute.ensures.standing
    ∙ same_standing c.args.bitmap.now c.leave_index.new.bitmap (ap (λ (r : Room). r.given) c.in-Ok.ensures.rest)
