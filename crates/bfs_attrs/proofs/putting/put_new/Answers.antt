use Rattle.std.proofs.Common.{ℕ, List, Bool, Option, refl, ap, subst, arith, length, drop, max}
use Rattle.std.specs.FinMap.{insert}
use Rattle.bfs_super.specs.Conditions.{ceil}
use Rattle.bfs_super.specs.Geometry.{geometry_of}
use Rattle.bfs_maps.proofs.Over.{on_ok}
use Rattle.bfs_tree.specs.Trees.{Attribute}
use Rattle.bfs_attr.specs.Bearers.{bearer_of, volume_at, attributes_at}
use Rattle.bfs_attr.specs.Changed.{IsPutInSmall}
use Rattle.bfs_smalldata.specs.Items.{Item}
use Rattle.bfs_stream.specs.Told.{contents}
use Rattle.bfs_attr_write.proofs.Clear.{tally_standing}
use Rattle.bfs_attrs.specs.Put.{IsUnknown}
use Rattle.bfs_attrs.proofs.Begins.{add_wider_kept}
use Rattle.bfs_attrs.proofs.Fresh.{unknown_row, beyond_put, undone_new, read_added}
use Rattle.bfs_attrs.proofs.Gains.{now_clear, gains_one, gains_none}
use Rattle.bfs_attrs.proofs.Replaces.{all_same}
use Rattle.bfs_make.proofs.Telling.{told_back, one_map}
use Rattle.bfs_attrs.proofs.putting.put_new.Goals as goal

pub returns-in-Err-clause-faults : goal.returns-in-Err-clause-faults
returns-in-Err-clause-faults g c m told =
    let s = c.args.site.sup in
    let is = c.requires.unknown m told in
    undone_new (bearer_of c.args.inode s) c.args.bitmap.now m (record { code = c.args.kind; bytes = c.args.bytes.now }) (ceil (length c.args.bytes.now) s.block_size) c.in-Err.fault
    (c.in-Err.ensures.put c.args.bitmap.now m told is.holds (unknown_row (volume_at (geometry_of s) m) c.args.inode c.args.name.now is.holds.stands is.unknown))

pub returns-in-Err-clause-cause : goal.returns-in-Err-clause-cause
returns-in-Err-clause-cause g c =
    let size = c.args.site.sup.block_size in
    read_added (max 1 (max (ceil 2048 size) (ceil (length c.args.bytes.now) size))) (g.E.Blocks.counts c.args.edits.now) (g.E.Blocks.counts c.put_in_small.new.edits) c.in-Err.fault c.in-Err.ensures.cause

pub returns-then-fitted-clause-put : goal.returns-then-fitted-clause-put
returns-then-fitted-clause-put g c m told =
    let s = c.args.site.sup in
    let b = bearer_of c.args.inode s in
    let v = c.args.bitmap.now in
    let is = c.requires.unknown m told in
    subst (λ (t : Bool). IsPutInSmall b v m c.args.name.now (record { code = c.args.kind; bytes = c.args.bytes.now }) (g.E.Blocks.told c.put_in_small.new.edits) (g.E.Blocks.changed c.args.edits.now) (g.E.Blocks.changed c.put_in_small.new.edits) t) c.if-fitted.true
    (c.in-Ok.ensures.put v m told is.holds (unknown_row (volume_at (geometry_of s) m) c.args.inode c.args.name.now is.holds.stands is.unknown))

pub returns-then-fitted-clause-keeps : goal.returns-then-fitted-clause-keeps
returns-then-fitted-clause-keeps g c m told =
    all_same (bearer_of c.args.inode c.args.site.sup) m (g.E.Blocks.told c.put_in_small.new.edits) (c.in-Ok.ensures.blocks c.args.bitmap.now m told (c.requires.unknown m told).holds)

pub put_beyond-requires-clause-unknown : goal.put_beyond-requires-clause-unknown
put_beyond-requires-clause-unknown g c m told =
    let s = c.args.site.sup in
    let b = bearer_of c.args.inode s in
    let v = c.args.bitmap.now in
    let name = c.args.name.now in
    let t = g.E.Blocks.told c.put_in_small.new.edits in
    let before =
    told_back (g.E.Blocks.told c.args.edits.now) t (g.E.Blocks.frame c.args.edits.now).below (g.E.Blocks.frame c.put_in_small.new.edits).below
    (g.met.E.Edits.tells c.args.edits.now) (g.met.E.Edits.tells c.put_in_small.new.edits) (ap (λ f. f.below) c.in-Ok.ensures.frame) m told in
    let is = c.requires.unknown before.0 before.1 in
    let none =
    subst (λ (x : Bool). IsPutInSmall b v before.0 name (record { code = c.args.kind; bytes = c.args.bytes.now }) t (g.E.Blocks.changed c.args.edits.now) (g.E.Blocks.changed c.put_in_small.new.edits) x) c.if-fitted.false
    (c.in-Ok.ensures.put v before.0 before.1 is.holds (unknown_row (volume_at (geometry_of s) before.0) c.args.inode name is.holds.stands is.unknown)) in
    subst (λ (x : ℕ → Option (List ℕ)). IsUnknown b v x name) (one_map t before.0 m none.1 told) is

pub returns-clause-put : goal.returns-clause-put
returns-clause-put g c m told =
    let s = c.args.site.sup in
    let b = bearer_of c.args.inode s in
    let v = c.args.bitmap.now in
    let name = c.args.name.now in
    let attribute : Attribute = record { code = c.args.kind; bytes = c.args.bytes.now } in
    let t = g.E.Blocks.told c.put_in_small.new.edits in
    let old = g.E.Blocks.changed c.args.edits.now in
    let half = g.E.Blocks.changed c.put_in_small.new.edits in
    let is = c.requires.unknown m told in
    let none =
    subst (λ (x : Bool). IsPutInSmall b v m name attribute t old half x) c.if-fitted.false
    (c.in-Ok.ensures.put v m told is.holds (unknown_row (volume_at (geometry_of s) m) c.args.inode name is.holds.stands is.unknown)) in
    on_ok _ _ c.put_beyond.result (c.put_beyond.ensures.put m none.1)
    (λ begun. beyond_put b v c.put_beyond.new.bitmap m name attribute (g.E.Blocks.told c.put_beyond.new.edits) old half (g.E.Blocks.changed c.put_beyond.new.edits) is none.0 c.in-Ok.ensures.changed begun.now_are begun.small)

pub returns-clause-keeps : goal.returns-clause-keeps
returns-clause-keeps g c m told =
    let s = c.args.site.sup in
    let b = bearer_of c.args.inode s in
    let v = c.args.bitmap.now in
    let name = c.args.name.now in
    let attribute : Attribute = record { code = c.args.kind; bytes = c.args.bytes.now } in
    let t = g.E.Blocks.told c.put_in_small.new.edits in
    let old = g.E.Blocks.changed c.args.edits.now in
    let half = g.E.Blocks.changed c.put_in_small.new.edits in
    let is = c.requires.unknown m told in
    let none =
    subst (λ (x : Bool). IsPutInSmall b v m name attribute t old half x) c.if-fitted.false
    (c.in-Ok.ensures.put v m told is.holds (unknown_row (volume_at (geometry_of s) m) c.args.inode name is.holds.stands is.unknown)) in
    c.put_beyond.ensures.keeps m none.1

pub returns-clause-faults : goal.returns-clause-faults
returns-clause-faults g c m told =
    let s = c.args.site.sup in
    let b = bearer_of c.args.inode s in
    let v = c.args.bitmap.now in
    let name = c.args.name.now in
    let attribute : Attribute = record { code = c.args.kind; bytes = c.args.bytes.now } in
    let t = g.E.Blocks.told c.put_in_small.new.edits in
    let old = g.E.Blocks.changed c.args.edits.now in
    let half = g.E.Blocks.changed c.put_in_small.new.edits in
    let is = c.requires.unknown m told in
    let none =
    subst (λ (x : Bool). IsPutInSmall b v m name attribute t old half x) c.if-fitted.false
    (c.in-Ok.ensures.put v m told is.holds (unknown_row (volume_at (geometry_of s) m) c.args.inode name is.holds.stands is.unknown)) in
    c.put_beyond.ensures.faults m none.1

pub returns-clause-cause : goal.returns-clause-cause
returns-clause-cause g c =
    let size = c.args.site.sup.block_size in
    let n = max 1 (max (ceil 2048 size) (ceil (length c.args.bytes.now) size)) in
    add_wider_kept n n (g.E.Blocks.counts c.args.edits.now) (g.E.Blocks.counts c.put_in_small.new.edits) (g.E.Blocks.counts c.put_beyond.new.edits) c.put_beyond.result (omega arith) c.in-Ok.ensures.later c.put_beyond.ensures.cause

pub returns-then-fitted-clause-clear : goal.returns-then-fitted-clause-clear
returns-then-fitted-clause-clear g c m told =
    let s = c.args.site.sup in
    let b = bearer_of c.args.inode s in
    let v = c.args.bitmap.now in
    let name = c.args.name.now in
    let attribute : Attribute = record { code = c.args.kind; bytes = c.args.bytes.now } in
    let t = g.E.Blocks.told c.put_in_small.new.edits in
    let old = g.E.Blocks.changed c.args.edits.now in
    let new = g.E.Blocks.changed c.put_in_small.new.edits in
    let is = c.requires.unknown m told in
    let fit =
    subst (λ (x : Bool). IsPutInSmall b v m name attribute t old new x) c.if-fitted.true
    (c.in-Ok.ensures.put v m told is.holds (unknown_row (volume_at (geometry_of s) m) c.args.inode name is.holds.stands is.unknown)) in
    now_clear b v v m (insert (attributes_at (volume_at (geometry_of s) m) c.args.inode) name attribute) t old new refl fit.now_are

pub returns-then-fitted-clause-items : goal.returns-then-fitted-clause-items
returns-then-fitted-clause-items g c m told =
    let item : Item = record { kind = c.args.kind; name = c.args.name.now; bytes = c.args.bytes.now } in
    gains_one item (drop 232 (contents m c.args.inode)) c.args.inode (g.E.Blocks.told c.put_in_small.new.edits) c.in-Ok.fitted c.if-fitted.true (c.in-Ok.ensures.items c.args.bitmap.now m told (c.requires.unknown m told).holds)

pub returns-clause-clear : goal.returns-clause-clear
returns-clause-clear g c m told =
    let s = c.args.site.sup in
    let b = bearer_of c.args.inode s in
    let v = c.args.bitmap.now in
    let name = c.args.name.now in
    let attribute : Attribute = record { code = c.args.kind; bytes = c.args.bytes.now } in
    let t = g.E.Blocks.told c.put_in_small.new.edits in
    let half = g.E.Blocks.changed c.put_in_small.new.edits in
    let is = c.requires.unknown m told in
    let none =
    subst (λ (x : Bool). IsPutInSmall b v m name attribute t (g.E.Blocks.changed c.args.edits.now) half x) c.if-fitted.false
    (c.in-Ok.ensures.put v m told is.holds (unknown_row (volume_at (geometry_of s) m) c.args.inode name is.holds.stands is.unknown)) in
    on_ok _ _ c.put_beyond.result (c.put_beyond.ensures.put m none.1)
    (λ begun. now_clear b v c.put_beyond.new.bitmap m (insert (attributes_at (volume_at (geometry_of s) m) c.args.inode) name attribute) (g.E.Blocks.told c.put_beyond.new.edits) half (g.E.Blocks.changed c.put_beyond.new.edits) c.put_beyond.ensures.rest begun.now_are)

pub returns-clause-items : goal.returns-clause-items
returns-clause-items g c m told =
    let s = c.args.site.sup in
    let b = bearer_of c.args.inode s in
    let v = c.args.bitmap.now in
    let name = c.args.name.now in
    let attribute : Attribute = record { code = c.args.kind; bytes = c.args.bytes.now } in
    let item : Item = record { kind = c.args.kind; name = name; bytes = c.args.bytes.now } in
    let t = g.E.Blocks.told c.put_in_small.new.edits in
    let is = c.requires.unknown m told in
    let none =
    subst (λ (x : Bool). IsPutInSmall b v m name attribute t (g.E.Blocks.changed c.args.edits.now) (g.E.Blocks.changed c.put_in_small.new.edits) x) c.if-fitted.false
    (c.in-Ok.ensures.put v m told is.holds (unknown_row (volume_at (geometry_of s) m) c.args.inode name is.holds.stands is.unknown)) in
    on_ok _ _ c.put_beyond.result (c.put_beyond.ensures.put m none.1)
    (λ begun. gains_none item (drop 232 (contents m c.args.inode)) c.args.inode (g.E.Blocks.told c.put_beyond.new.edits) begun.now_are.map begun.now_are.is begun.small)

pub returns-clause-standing : goal.returns-clause-standing
returns-clause-standing g c = tally_standing c.args.bitmap.now c.put_beyond.new.bitmap c.put_beyond.ensures.rest
