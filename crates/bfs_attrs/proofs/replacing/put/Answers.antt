use Rattle.std.proofs.Common.{◌∙◌, ℕ, List, Option, ap, subst, arith, length, drop, max}
use Rattle.bfs_bitmap.specs.Runs.{Room, as_kept}
use Rattle.bfs_super.specs.Conditions.{ceil}
use Rattle.bfs_smalldata.specs.Items.{Item}
use Rattle.bfs_stream.specs.Told.{contents}
use Rattle.bfs_maps.proofs.Over.{on_ok}
use Rattle.bfs_attr.specs.Bearers.{bearer_of}
use Rattle.bfs_attr_write.proofs.Brings.{rest_given}
use Rattle.bfs_attrs.specs.Put.{IsUnknown}
use Rattle.bfs_attrs.proofs.Begins.{add_wider_kept}
use Rattle.bfs_attrs.proofs.Gains.{clear_after, item_after}
use Rattle.bfs_attrs.proofs.Replaces.{on_both, unknown_now, has_come, not_come_kept, undone_put, taken_added}
use Rattle.bfs_make.proofs.Telling.{told_back, one_map}
use Rattle.bfs_attrs.proofs.replacing.put.Goals as goal

pub returns-in-Err-clause-faults : goal.returns-in-Err-clause-faults
returns-in-Err-clause-faults g c m told =
    undone_put (bearer_of c.args.inode c.args.site.sup) c.args.bitmap.now m c.args.name.now (record { code = c.args.kind; bytes = c.args.bytes.now }) (ceil (length c.args.bytes.now) c.args.site.sup.block_size) c.in-Err.fault
    (c.in-Err.ensures.undone m told)

pub returns-in-Err-clause-cause : goal.returns-in-Err-clause-cause
returns-in-Err-clause-cause g c =
    let size = c.args.site.sup.block_size in
    taken_added (max 1 (max (ceil 2048 size) (ceil (length c.args.bytes.now) size))) (g.E.Blocks.counts c.args.edits.now) (g.E.Blocks.counts c.clear.new.edits) c.in-Err.fault c.in-Err.ensures.cause.0 c.in-Err.ensures.cause.1

pub put_new-requires-clause-unknown : goal.put_new-requires-clause-unknown
put_new-requires-clause-unknown g c map told =
    let b = bearer_of c.args.inode c.args.site.sup in
    let v = c.args.bitmap.now in
    let mid = c.clear.new.bitmap in
    let name = c.args.name.now in
    let told1 = g.E.Blocks.told c.clear.new.edits in
    let before =
    told_back (g.E.Blocks.told c.args.edits.now) told1 (g.E.Blocks.frame c.args.edits.now).below (g.E.Blocks.frame c.clear.new.edits).below
    (g.met.E.Edits.tells c.args.edits.now) (g.met.E.Edits.tells c.clear.new.edits) (ap (λ f. f.below) c.in-Ok.ensures.frame) map told in
    let cleared = c.in-Ok.ensures.cleared before.0 before.1 in
    subst (λ (x : ℕ → Option (List ℕ)). IsUnknown b mid x name) (one_map told1 cleared.now_are.map map cleared.now_are.is told)
    (unknown_now b v mid before.0 name told1 (g.E.Blocks.changed c.args.edits.now) (g.E.Blocks.changed c.clear.new.edits) cleared)

pub returns-clause-put : goal.returns-clause-put
returns-clause-put g c m told =
    let b = bearer_of c.args.inode c.args.site.sup in
    let v = c.args.bitmap.now in
    let mid = c.clear.new.bitmap in
    let now = c.put_new.new.bitmap in
    let cleared = c.in-Ok.ensures.cleared m told in
    on_both _ _ _ c.put_new.result (c.put_new.ensures.put cleared.now_are.map cleared.now_are.is) (c.put_new.ensures.keeps cleared.now_are.map cleared.now_are.is)
    (λ put keeps. has_come b v mid m c.args.name.now (g.E.Blocks.told c.clear.new.edits) (g.E.Blocks.changed c.args.edits.now) (g.E.Blocks.changed c.clear.new.edits) cleared now (record { code = c.args.kind; bytes = c.args.bytes.now })
    (g.E.Blocks.told c.put_new.new.edits) (g.E.Blocks.changed c.put_new.new.edits) put keeps c.clear.ensures.rest (rest_given mid now c.put_new.ensures.rest) (c.requires.holds m told) c.put_new.ensures.stays)

pub returns-clause-faults : goal.returns-clause-faults
returns-clause-faults g c m told =
    let cleared = c.in-Ok.ensures.cleared m told in
    not_come_kept (bearer_of c.args.inode c.args.site.sup) c.args.bitmap.now c.clear.new.bitmap m c.args.name.now (g.E.Blocks.told c.clear.new.edits) (g.E.Blocks.changed c.args.edits.now) (g.E.Blocks.changed c.clear.new.edits) cleared
    (record { code = c.args.kind; bytes = c.args.bytes.now }) (ceil (length c.args.bytes.now) c.args.site.sup.block_size) c.put_new.result (c.put_new.ensures.faults cleared.now_are.map cleared.now_are.is)

pub returns-clause-cause : goal.returns-clause-cause
returns-clause-cause g c =
    let size = c.args.site.sup.block_size in
    let n = max 1 (max (ceil 2048 size) (ceil (length c.args.bytes.now) size)) in
    add_wider_kept n n (g.E.Blocks.counts c.args.edits.now) (g.E.Blocks.counts c.clear.new.edits) (g.E.Blocks.counts c.put_new.new.edits) c.put_new.result (omega arith) c.in-Ok.ensures.later c.put_new.ensures.cause

pub returns-clause-rest : goal.returns-clause-rest
returns-clause-rest g c =
    rest_given c.clear.new.bitmap c.put_new.new.bitmap c.put_new.ensures.rest
    ∙ ap (λ (x : Room). record x { given = c.put_new.new.bitmap.given; tally = c.put_new.new.bitmap.tally }) c.clear.ensures.rest

pub returns-clause-kept : goal.returns-clause-kept
returns-clause-kept g c = ap as_kept c.put_new.ensures.rest ∙ c.clear.ensures.kept

pub returns-clause-clear : goal.returns-clause-clear
returns-clause-clear g c m told =
    let cleared = c.in-Ok.ensures.cleared m told in
    on_ok _ _ c.put_new.result (c.put_new.ensures.clear cleared.now_are.map cleared.now_are.is)
    (clear_after c.args.bitmap.now c.clear.new.bitmap c.put_new.new.bitmap m cleared.now_are.map (g.E.Blocks.told c.clear.new.edits) (g.E.Blocks.told c.put_new.new.edits) c.clear.ensures.rest cleared.now_are.is (c.in-Ok.ensures.clear m told))

pub returns-clause-items : goal.returns-clause-items
returns-clause-items g c m told =
    let cleared = c.in-Ok.ensures.cleared m told in
    let item : Item = record { kind = c.args.kind; name = c.args.name.now; bytes = c.args.bytes.now } in
    on_ok _ _ c.put_new.result (c.put_new.ensures.items cleared.now_are.map cleared.now_are.is)
    (item_after item (drop 232 (contents m c.args.inode)) cleared.now_are.map c.args.inode (g.E.Blocks.told c.clear.new.edits) (g.E.Blocks.told c.put_new.new.edits) cleared.now_are.is (c.in-Ok.ensures.items m told))

pub returns-clause-standing : goal.returns-clause-standing
returns-clause-standing g c = c.put_new.ensures.standing ∙ c.clear.ensures.standing
