use Rattle.std.proofs.Common.{◌∙◌, [], pos, ap}
use Rattle.bfs_bitmap.specs.Runs.{Room}
use Rattle.bfs_super.specs.Geometry.{geometry_of}
use Rattle.bfs_leave.proofs.Standing.{same_standing}
use Rattle.bfs_calls.proofs.Faulting.{read_cause, cause_earlier}
use Rattle.bfs_make.proofs.Telling.{told_back}
use Rattle.bfs_rename.specs.Rows.{row_taken}
use Rattle.bfs_rename.proofs.Emptied.{node_in, above, directory_at, numbers, row_still, gives, holds_at, left_ready}
use Rattle.bfs_rename.proofs.replacing.leave_tree.Goals as goal

pub unlist_node-requires-clause-node : goal.unlist_node-requires-clause-node
unlist_node-requires-clause-node g c m told =
    let h = c.requires.node m told in
    node_in c.args.sup.now c.args.bitmap.now m h.tree h.lists h.ready c.requires.valid c.args.id h.node c.args.dir c.args.name.now h.stands

pub returns-in-Err-clause-undone : goal.returns-in-Err-clause-undone
returns-in-Err-clause-undone g c m tree lists node told ready at = c.in-Err.ensures.refused m tree lists node told ready at.there at.apart

pub returns-in-Err-clause-cause : goal.returns-in-Err-clause-cause
returns-in-Err-clause-cause g c = read_cause (g.E.Blocks.counts c.args.edits.now) (g.E.Blocks.counts c.unlist_node.new.edits) c.in-Err.fault c.in-Err.ensures.cause

pub take_row-requires-clause-directory : goal.take_row-requires-clause-directory
take_row-requires-clause-directory g c n now =
    let before =
    told_back (g.E.Blocks.told c.args.edits.now) (g.E.Blocks.told c.unlist_node.new.edits) (g.E.Blocks.frame c.args.edits.now).below (g.E.Blocks.frame c.unlist_node.new.edits).below
    (g.met.E.Edits.tells c.args.edits.now) (g.met.E.Edits.tells c.unlist_node.new.edits) (ap (λ f. f.below) (c.in-Ok.ensures.frame)) n now in
    let m = before.0 in
    let h = c.requires.node m before.1 in
    let s = geometry_of c.args.sup.now in
    let v = c.args.bitmap.now in
    let name = c.args.name.now in
    let id = c.args.id in
    let t1 = g.E.Blocks.told c.unlist_node.new.edits in
    let c0 = g.E.Blocks.changed c.args.edits.now in
    let c1 = g.E.Blocks.changed c.unlist_node.new.edits in
    let v1 = c.unlist_node.new.bitmap in
    let one = c.in-Ok.ensures.unlisted m h.tree h.lists h.node before.1 h.ready h.stands.there h.stands.apart in
    let up = above c.args.sup.now v m h.tree h.lists h.ready c.requires.valid id h.node c.args.dir name h.stands in
    let nums = numbers c.args.sup.now v m h.tree h.lists h.ready c.requires.valid id h.node c.args.dir name h.stands v1 t1 c0 c1 one in
    directory_at c.args.sup.now v m h.tree h.lists h.ready c.requires.valid id h.node c.args.dir name h.stands v1 t1 c0 c1 one n now

pub returns-in-Err-take_row-clause-undone : goal.returns-in-Err-take_row-clause-undone
returns-in-Err-take_row-clause-undone g c m tree lists node told ready at =
    let s = geometry_of c.args.sup.now in
    let v = c.args.bitmap.now in
    let name = c.args.name.now in
    let id = c.args.id in
    let t1 = g.E.Blocks.told c.unlist_node.new.edits in
    let c0 = g.E.Blocks.changed c.args.edits.now in
    let c1 = g.E.Blocks.changed c.unlist_node.new.edits in
    let v1 = c.unlist_node.new.bitmap in
    let one = c.in-Ok.ensures.unlisted m tree lists node told ready at.there at.apart in
    let up = above c.args.sup.now v m tree lists ready c.requires.valid id node c.args.dir name at in
    let nums = numbers c.args.sup.now v m tree lists ready c.requires.valid id node c.args.dir name at v1 t1 c0 c1 one in
    c.in-Err-take_row.ensures.undone one.step.map tree one.last up.0 (pos id) one.step.is one.step.work up.1 up.2 nums
    (row_still c.args.sup.now v m tree lists ready c.requires.valid id node c.args.dir name at v1 t1 c0 c1 one)

pub returns-in-Err-take_row-clause-cause : goal.returns-in-Err-take_row-clause-cause
returns-in-Err-take_row-clause-cause g c =
    cause_earlier (g.E.Blocks.counts c.args.edits.now) (g.E.Blocks.counts c.unlist_node.new.edits) (g.E.Blocks.counts c.take_row.new.edits) c.in-Err-take_row.fault c.in-Ok.ensures.later c.in-Err-take_row.ensures.cause

pub give_node-requires-clause-node : goal.give_node-requires-clause-node
give_node-requires-clause-node g c n now =
    let before =
    told_back (g.E.Blocks.told c.args.edits.now) (g.E.Blocks.told c.take_row.new.edits) (g.E.Blocks.frame c.args.edits.now).below (g.E.Blocks.frame c.take_row.new.edits).below
    (g.met.E.Edits.tells c.args.edits.now) (g.met.E.Edits.tells c.take_row.new.edits) (ap (λ f. f.below) (c.in-Ok-take_row.ensures.frame ∙ c.in-Ok.ensures.frame)) n now in
    let m = before.0 in
    let h = c.requires.node m before.1 in
    let s = geometry_of c.args.sup.now in
    let v = c.args.bitmap.now in
    let name = c.args.name.now in
    let id = c.args.id in
    let t1 = g.E.Blocks.told c.unlist_node.new.edits in
    let c0 = g.E.Blocks.changed c.args.edits.now in
    let c1 = g.E.Blocks.changed c.unlist_node.new.edits in
    let v1 = c.unlist_node.new.bitmap in
    let one = c.in-Ok.ensures.unlisted m h.tree h.lists h.node before.1 h.ready h.stands.there h.stands.apart in
    let up = above c.args.sup.now v m h.tree h.lists h.ready c.requires.valid id h.node c.args.dir name h.stands in
    let nums = numbers c.args.sup.now v m h.tree h.lists h.ready c.requires.valid id h.node c.args.dir name h.stands v1 t1 c0 c1 one in
    let rows = row_taken one.last c.args.dir name in
    let t2 = g.E.Blocks.told c.take_row.new.edits in
    let c2 = g.E.Blocks.changed c.take_row.new.edits in
    let v2 = c.take_row.new.bitmap in
    let two = c.in-Ok-take_row.ensures.taken one.step.map h.tree one.last up.0 one.step.is one.step.work up.1 up.2 nums in
    holds_at c.args.sup.now v m h.tree h.lists h.ready c.requires.valid id h.node c.args.dir name h.stands v1 t1 c0 c1 one v2 t2 c2 two n now

pub returns-in-Err-give_node-clause-undone : goal.returns-in-Err-give_node-clause-undone
returns-in-Err-give_node-clause-undone g c m tree lists node told ready at =
    let s = geometry_of c.args.sup.now in
    let v = c.args.bitmap.now in
    let name = c.args.name.now in
    let id = c.args.id in
    let t1 = g.E.Blocks.told c.unlist_node.new.edits in
    let c0 = g.E.Blocks.changed c.args.edits.now in
    let c1 = g.E.Blocks.changed c.unlist_node.new.edits in
    let v1 = c.unlist_node.new.bitmap in
    let one = c.in-Ok.ensures.unlisted m tree lists node told ready at.there at.apart in
    let up = above c.args.sup.now v m tree lists ready c.requires.valid id node c.args.dir name at in
    let nums = numbers c.args.sup.now v m tree lists ready c.requires.valid id node c.args.dir name at v1 t1 c0 c1 one in
    let rows = row_taken one.last c.args.dir name in
    let t2 = g.E.Blocks.told c.take_row.new.edits in
    let c2 = g.E.Blocks.changed c.take_row.new.edits in
    let v2 = c.take_row.new.bitmap in
    let two = c.in-Ok-take_row.ensures.taken one.step.map tree one.last up.0 one.step.is one.step.work up.1 up.2 nums in
    c.in-Err-give_node.ensures.sound two.map tree rows [] node two.is two.work at.there

pub returns-in-Err-give_node-clause-cause : goal.returns-in-Err-give_node-clause-cause
returns-in-Err-give_node-clause-cause g c =
    let k0 = g.E.Blocks.counts c.args.edits.now in
    let k1 = g.E.Blocks.counts c.unlist_node.new.edits in
    let k2 = g.E.Blocks.counts c.take_row.new.edits in
    let k3 = g.E.Blocks.counts c.give_node.new.edits in
    let f = c.in-Err-give_node.fault in
    cause_earlier k0 k1 k3 f c.in-Ok.ensures.later (cause_earlier k1 k2 k3 f c.in-Ok-take_row.ensures.later (read_cause k2 k3 f c.in-Err-give_node.ensures.cause))

pub returns-in-Ok-give_node-clause-left : goal.returns-in-Ok-give_node-clause-left
returns-in-Ok-give_node-clause-left g c m tree lists node told ready at =
    let s = geometry_of c.args.sup.now in
    let v = c.args.bitmap.now in
    let name = c.args.name.now in
    let id = c.args.id in
    let t1 = g.E.Blocks.told c.unlist_node.new.edits in
    let c0 = g.E.Blocks.changed c.args.edits.now in
    let c1 = g.E.Blocks.changed c.unlist_node.new.edits in
    let v1 = c.unlist_node.new.bitmap in
    let one = c.in-Ok.ensures.unlisted m tree lists node told ready at.there at.apart in
    let up = above c.args.sup.now v m tree lists ready c.requires.valid id node c.args.dir name at in
    let nums = numbers c.args.sup.now v m tree lists ready c.requires.valid id node c.args.dir name at v1 t1 c0 c1 one in
    let rows = row_taken one.last c.args.dir name in
    let t2 = g.E.Blocks.told c.take_row.new.edits in
    let c2 = g.E.Blocks.changed c.take_row.new.edits in
    let v2 = c.take_row.new.bitmap in
    let two = c.in-Ok-take_row.ensures.taken one.step.map tree one.last up.0 one.step.is one.step.work up.1 up.2 nums in
    let gone = gives c.args.sup.now v m tree lists ready c.requires.valid id node c.args.dir name at v1 t1 c0 c1 one v2 t2 c2 two in
    left_ready c.args.sup.now v m tree lists ready c.requires.valid id node c.args.dir name at v1 t1 c0 c1 one v2 t2 c2 two c.give_node.new.bitmap (g.E.Blocks.told c.give_node.new.edits) (g.E.Blocks.changed c.give_node.new.edits)
    (c.in-Ok-give_node.ensures.given two.map tree rows [] node two.is two.work gone.clear at.there)

pub returns-in-Err-clause-standing : goal.returns-in-Err-clause-standing
returns-in-Err-clause-standing g c = same_standing c.args.bitmap.now c.unlist_node.new.bitmap (ap (λ (r : Room). r.given) c.in-Err.ensures.rest)

pub returns-in-Err-take_row-clause-standing : goal.returns-in-Err-take_row-clause-standing
returns-in-Err-take_row-clause-standing g c =
    same_standing c.args.bitmap.now c.take_row.new.bitmap (ap (λ (r : Room). r.given) c.in-Err-take_row.ensures.rest ∙ ap (λ (r : Room). r.given) c.in-Ok.ensures.rest)

pub returns-in-Ok-give_node-clause-standing : goal.returns-in-Ok-give_node-clause-standing
returns-in-Ok-give_node-clause-standing g c =
    c.in-Ok-give_node.ensures.standing
    ∙ same_standing c.args.bitmap.now c.take_row.new.bitmap (ap (λ (r : Room). r.given) c.in-Ok-take_row.ensures.rest ∙ ap (λ (r : Room). r.given) c.in-Ok.ensures.rest)

pub returns-in-Err-give_node-clause-standing : goal.returns-in-Err-give_node-clause-standing
returns-in-Err-give_node-clause-standing g c =
    c.in-Err-give_node.ensures.standing
    ∙ same_standing c.args.bitmap.now c.take_row.new.bitmap (ap (λ (r : Room). r.given) c.in-Ok-take_row.ensures.rest ∙ ap (λ (r : Room). r.given) c.in-Ok.ensures.rest)
