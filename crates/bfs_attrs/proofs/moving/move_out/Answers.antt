use Rattle.std.proofs.Common.{ℕ, List, Option, ap, subst, arith, length, max}
use Rattle.bfs_super.specs.Conditions.{ceil}
use Rattle.bfs_attr.specs.Bearers.{bearer_of}
use Rattle.bfs_attrs.specs.Put.{IsUnknown}
use Rattle.bfs_maps.proofs.Over.{on_ok}
use Rattle.bfs_attrs.proofs.Begins.{add_wider_kept}
use Rattle.bfs_attrs.proofs.Fresh.{read_added}
use Rattle.bfs_attrs.proofs.Moves.{taken_within, left_within, all_twice, unknown_taken, has_moved, not_arrived_kept, undone_moved}
use Rattle.bfs_attrs.proofs.Replaces.{on_both, all_same}
use Rattle.bfs_make.proofs.Telling.{told_back, one_map}
use Rattle.bfs_attrs.proofs.moving.move_out.Goals as goal

pub returns-in-Err-clause-faults : goal.returns-in-Err-clause-faults
returns-in-Err-clause-faults g c m told =
    undone_moved (bearer_of c.args.inode c.args.site.sup) c.args.bitmap.now m c.args.name.now (record { code = c.args.kind; bytes = c.args.bytes.now }) (ceil (length c.args.bytes.now) c.args.site.sup.block_size) c.in-Err.fault
    (c.in-Err.ensures.taken c.args.bitmap.now m told (c.requires.within m told).holds)

pub returns-in-Err-clause-cause : goal.returns-in-Err-clause-cause
returns-in-Err-clause-cause g c =
    let size = c.args.site.sup.block_size in
    read_added (max 1 (max (ceil 2048 size) (ceil (length c.args.bytes.now) size))) (g.E.Blocks.counts c.args.edits.now) (g.E.Blocks.counts c.take_from_small.new.edits) c.in-Err.fault c.in-Err.ensures.cause

pub put_beyond-requires-clause-unknown : goal.put_beyond-requires-clause-unknown
put_beyond-requires-clause-unknown g c map told =
    let b = bearer_of c.args.inode c.args.site.sup in
    let v = c.args.bitmap.now in
    let name = c.args.name.now in
    let told1 = g.E.Blocks.told c.take_from_small.new.edits in
    let old = g.E.Blocks.changed c.args.edits.now in
    let half = g.E.Blocks.changed c.take_from_small.new.edits in
    let before =
    told_back (g.E.Blocks.told c.args.edits.now) told1 (g.E.Blocks.frame c.args.edits.now).below (g.E.Blocks.frame c.take_from_small.new.edits).below
    (g.met.E.Edits.tells c.args.edits.now) (g.met.E.Edits.tells c.take_from_small.new.edits) (ap (λ f. f.below) c.in-Ok.ensures.frame) map told in
    let is = c.requires.within before.0 before.1 in
    let taken = taken_within b v before.0 name is.within told1 old half c.in-Ok.taken (c.in-Ok.ensures.taken v before.0 before.1 is.holds) in
    subst (λ (x : ℕ → Option (List ℕ)). IsUnknown b v x name) (one_map told1 taken.now_are.map map taken.now_are.is told)
    (unknown_taken b v before.0 name (record { code = c.args.kind; bytes = c.args.bytes.now }) is told1 old half taken)

pub returns-clause-moved : goal.returns-clause-moved
returns-clause-moved g c m told =
    let b = bearer_of c.args.inode c.args.site.sup in
    let v = c.args.bitmap.now in
    let name = c.args.name.now in
    let told1 = g.E.Blocks.told c.take_from_small.new.edits in
    let old = g.E.Blocks.changed c.args.edits.now in
    let half = g.E.Blocks.changed c.take_from_small.new.edits in
    let is = c.requires.within m told in
    let from = c.in-Ok.ensures.taken v m told is.holds in
    let taken = taken_within b v m name is.within told1 old half c.in-Ok.taken from in
    let left = left_within b v m name is.within told1 old half c.in-Ok.taken from (c.in-Ok.ensures.items v m told is.holds) in
    on_both _ _ _ c.put_beyond.result (c.put_beyond.ensures.put taken.now_are.map taken.now_are.is) (c.put_beyond.ensures.keeps taken.now_are.map taken.now_are.is)
    (λ begun keeps. has_moved b v m name (record { code = c.args.kind; bytes = c.args.bytes.now }) is told1 old half taken c.put_beyond.new.bitmap (g.E.Blocks.told c.put_beyond.new.edits) (g.E.Blocks.changed c.put_beyond.new.edits) begun keeps
    c.put_beyond.ensures.rest c.put_beyond.ensures.stays left)

pub returns-clause-keeps : goal.returns-clause-keeps
returns-clause-keeps g c m told =
    let b = bearer_of c.args.inode c.args.site.sup in
    let v = c.args.bitmap.now in
    let name = c.args.name.now in
    let told1 = g.E.Blocks.told c.take_from_small.new.edits in
    let is = c.requires.within m told in
    let taken =
    taken_within b v m name is.within told1 (g.E.Blocks.changed c.args.edits.now) (g.E.Blocks.changed c.take_from_small.new.edits) c.in-Ok.taken (c.in-Ok.ensures.taken v m told is.holds) in
    on_ok _ _ c.put_beyond.result (c.put_beyond.ensures.keeps taken.now_are.map taken.now_are.is)
    (all_twice b m taken.now_are.map told1 (g.E.Blocks.told c.put_beyond.new.edits) (all_same b m told1 (c.in-Ok.ensures.blocks v m told is.holds)) taken.now_are.is)

pub returns-clause-faults : goal.returns-clause-faults
returns-clause-faults g c m told =
    let b = bearer_of c.args.inode c.args.site.sup in
    let v = c.args.bitmap.now in
    let name = c.args.name.now in
    let told1 = g.E.Blocks.told c.take_from_small.new.edits in
    let old = g.E.Blocks.changed c.args.edits.now in
    let half = g.E.Blocks.changed c.take_from_small.new.edits in
    let is = c.requires.within m told in
    let taken = taken_within b v m name is.within told1 old half c.in-Ok.taken (c.in-Ok.ensures.taken v m told is.holds) in
    not_arrived_kept b v m name (record { code = c.args.kind; bytes = c.args.bytes.now }) is told1 old half taken (ceil (length c.args.bytes.now) c.args.site.sup.block_size) c.put_beyond.result
    (c.put_beyond.ensures.faults taken.now_are.map taken.now_are.is)

pub returns-clause-cause : goal.returns-clause-cause
returns-clause-cause g c =
    let size = c.args.site.sup.block_size in
    let n = max 1 (max (ceil 2048 size) (ceil (length c.args.bytes.now) size)) in
    add_wider_kept n n (g.E.Blocks.counts c.args.edits.now) (g.E.Blocks.counts c.take_from_small.new.edits) (g.E.Blocks.counts c.put_beyond.new.edits) c.put_beyond.result (omega arith) c.in-Ok.ensures.later c.put_beyond.ensures.cause
