use Rattle.std.proofs.Common.{◌∙◌, ℕ, List, Option, ap, subst}
use Rattle.bfs_super.specs.Geometry.{geometry_of}
use Rattle.bfs_make.proofs.Telling.{told_back, one_map}
use Rattle.bfs_calls.proofs.Faulting.{cause_earlier}
use Rattle.bfs_index_check.specs.Compared.{pairs_of}
use Rattle.bfs_index_make.specs.Filled.{HasToFill}
use Rattle.bfs_index_make.specs.Made.{HasToJoin, with_new_index}
use Rattle.bfs_index_make.proofs.Whole.{to_join, to_fill, index_done}
use Rattle.bfs_index_make.proofs.making.make_with.Goals as goal

pub join_index-requires-clause-loose : goal.join_index-requires-clause-loose
join_index-requires-clause-loose g c n told =
    let s = c.args.sup.now in
    let v = c.args.bitmap.now in
    let name = c.args.name.now in
    let kind = c.args.kind in
    let before =
    told_back (g.E.Blocks.told c.args.edits.now) (g.E.Blocks.told c.new_index.new.edits) (g.E.Blocks.frame c.args.edits.now).below (g.E.Blocks.frame c.new_index.new.edits).below
    (g.met.E.Edits.tells c.args.edits.now) (g.met.E.Edits.tells c.new_index.new.edits) (ap (λ f. f.below) c.in-Ok.ensures.frame) n told in
    let h = c.requires.ready before.0 before.1 in
    let one = c.in-Ok.ensures.made before.0 h.tree h.lists before.1 h.ready.work in
    let changed = g.E.Blocks.changed c.new_index.new.edits in
    subst (λ (k : ℕ → Option (List ℕ)). HasToJoin (geometry_of s) c.new_index.new.bitmap k name c.in-Ok.inode changed) (one_map (g.E.Blocks.told c.new_index.new.edits) one.map n one.is told)
    (record { tree = h.tree; lists = h.lists; kind = kind; ready = to_join s v before.0 h.tree h.lists name kind c.requires.valid h.ready h.fresh c.new_index.new.bitmap c.in-Ok.inode (g.E.Blocks.told c.new_index.new.edits) (g.E.Blocks.changed c.args.edits.now) changed one })

pub returns-in-Err-clause-unanswered : goal.returns-in-Err-clause-unanswered
returns-in-Err-clause-unanswered g c m tree lists told ready new wanted = c.in-Err.ensures.unanswered m tree lists told ready.work

pub returns-in-Err-join_index-clause-unanswered : goal.returns-in-Err-join_index-clause-unanswered
returns-in-Err-join_index-clause-unanswered g c m tree lists told ready new wanted =
    let one = c.in-Ok.ensures.made m tree lists told ready.work in
    c.in-Err-join_index.ensures.unanswered one.map tree lists c.args.kind one.is
    (to_join c.args.sup.now c.args.bitmap.now m tree lists c.args.name.now c.args.kind c.requires.valid ready new c.new_index.new.bitmap c.in-Ok.inode (g.E.Blocks.told c.new_index.new.edits) (g.E.Blocks.changed c.args.edits.now) (g.E.Blocks.changed c.new_index.new.edits) one)

pub returns-in-Err-join_index-clause-cause : goal.returns-in-Err-join_index-clause-cause
returns-in-Err-join_index-clause-cause g c =
    cause_earlier (g.E.Blocks.counts c.args.edits.now) (g.E.Blocks.counts c.new_index.new.edits) (g.E.Blocks.counts c.join_index.new.edits) c.in-Err-join_index.fault c.in-Ok.ensures.later c.in-Err-join_index.ensures.cause

pub fill-requires-clause-ready : goal.fill-requires-clause-ready
fill-requires-clause-ready g c n told =
    let s = c.args.sup.now in
    let v = c.args.bitmap.now in
    let name = c.args.name.now in
    let kind = c.args.kind in
    let id = c.in-Ok.inode in
    let before =
    told_back (g.E.Blocks.told c.args.edits.now) (g.E.Blocks.told c.join_index.new.edits) (g.E.Blocks.frame c.args.edits.now).below (g.E.Blocks.frame c.join_index.new.edits).below
    (g.met.E.Edits.tells c.args.edits.now) (g.met.E.Edits.tells c.join_index.new.edits) (ap (λ f. f.below) (c.in-Ok-join_index.ensures.frame ∙ c.in-Ok.ensures.frame)) n told in
    let h = c.requires.ready before.0 before.1 in
    let t1 = g.E.Blocks.told c.new_index.new.edits in
    let t2 = g.E.Blocks.told c.join_index.new.edits in
    let c0 = g.E.Blocks.changed c.args.edits.now in
    let c1 = g.E.Blocks.changed c.new_index.new.edits in
    let c2 = g.E.Blocks.changed c.join_index.new.edits in
    let one = c.in-Ok.ensures.made before.0 h.tree h.lists before.1 h.ready.work in
    let two = c.in-Ok-join_index.ensures.joined one.map h.tree h.lists kind one.is (to_join s v before.0 h.tree h.lists name kind c.requires.valid h.ready h.fresh c.new_index.new.bitmap id t1 c0 c1 one) in
    subst (λ (k : ℕ → Option (List ℕ)). HasToFill (geometry_of s) c.join_index.new.bitmap k id kind (pairs_of c.args.pairs.now)) (one_map t2 two.step.map n two.step.is told)
    (record { tree = with_new_index h.tree name kind; lists = _; name = name; ready = to_fill s v before.0 h.tree h.lists name kind c.requires.valid h.ready h.fresh c.new_index.new.bitmap id t1 c0 c1 one c.join_index.new.bitmap t2 c2 two (pairs_of c.args.pairs.now) h.wanted })

pub returns-in-Ok-fill-clause-made : goal.returns-in-Ok-fill-clause-made
returns-in-Ok-fill-clause-made g c m tree lists told ready new wanted =
    let s = c.args.sup.now in
    let v = c.args.bitmap.now in
    let name = c.args.name.now in
    let kind = c.args.kind in
    let id = c.in-Ok.inode in
    let t1 = g.E.Blocks.told c.new_index.new.edits in
    let t2 = g.E.Blocks.told c.join_index.new.edits in
    let t3 = g.E.Blocks.told c.fill.new.edits in
    let c0 = g.E.Blocks.changed c.args.edits.now in
    let c1 = g.E.Blocks.changed c.new_index.new.edits in
    let c2 = g.E.Blocks.changed c.join_index.new.edits in
    let c3 = g.E.Blocks.changed c.fill.new.edits in
    let v1 = c.new_index.new.bitmap in
    let v2 = c.join_index.new.bitmap in
    let pairs = pairs_of c.args.pairs.now in
    let one = c.in-Ok.ensures.made m tree lists told ready.work in
    let two = c.in-Ok-join_index.ensures.joined one.map tree lists kind one.is (to_join s v m tree lists name kind c.requires.valid ready new v1 id t1 c0 c1 one) in
    let three = c.in-Ok-fill.ensures.filled two.step.map (with_new_index tree name kind) _ name two.step.is (to_fill s v m tree lists name kind c.requires.valid ready new v1 id t1 c0 c1 one v2 t2 c2 two pairs wanted) in
    index_done s v m tree lists name kind c.requires.valid ready new v1 id t1 c0 c1 one v2 t2 c2 two pairs wanted c.fill.new.bitmap t3 c3 three

pub returns-in-Err-fill-clause-unanswered : goal.returns-in-Err-fill-clause-unanswered
returns-in-Err-fill-clause-unanswered g c m tree lists told ready new wanted =
    let s = c.args.sup.now in
    let v = c.args.bitmap.now in
    let name = c.args.name.now in
    let kind = c.args.kind in
    let id = c.in-Ok.inode in
    let t1 = g.E.Blocks.told c.new_index.new.edits in
    let t2 = g.E.Blocks.told c.join_index.new.edits in
    let c0 = g.E.Blocks.changed c.args.edits.now in
    let c1 = g.E.Blocks.changed c.new_index.new.edits in
    let c2 = g.E.Blocks.changed c.join_index.new.edits in
    let v1 = c.new_index.new.bitmap in
    let v2 = c.join_index.new.bitmap in
    let pairs = pairs_of c.args.pairs.now in
    let one = c.in-Ok.ensures.made m tree lists told ready.work in
    let two = c.in-Ok-join_index.ensures.joined one.map tree lists kind one.is (to_join s v m tree lists name kind c.requires.valid ready new v1 id t1 c0 c1 one) in
    c.in-Err-fill.ensures.unanswered two.step.map (with_new_index tree name kind) _ name two.step.is (to_fill s v m tree lists name kind c.requires.valid ready new v1 id t1 c0 c1 one v2 t2 c2 two pairs wanted)
