use Rattle.std.proofs.Common.{◌-◌, ◌∙◌, ℕ, List, Bool, Option, refl, sym, ap, subst, arith, max}
use Rattle.std.specs.Prelude.{Err}
use Rattle.bfs_super.specs.Conditions.{ceil}
use Rattle.bfs_stream.specs.Grown.{IsOfVolume}
use Rattle.bfs_stream.specs.Sizes.{sizes_of}
use Rattle.bfs_stream.proofs.Arrays.{later_twice}
use Rattle.bfs_stream.proofs.Writes.{later_none}
use Rattle.bfs_make.proofs.Pieces.{sized_at}
use Rattle.bfs_make.proofs.Telling.{told_back, one_map}
use Rattle.bfs_attr.specs.Bearers.{bearer_of}
use Rattle.bfs_attrs.proofs.Begins.{add_wider_kept}
use Rattle.bfs_set_name.specs.Renamed.{CanName, IsStepped}
use Rattle.bfs_set_name.proofs.Joins.{so_far_start}
use Rattle.bfs_set_name.proofs.Mores.{so_far_more}
use Rattle.bfs_set_name.proofs.Ends.{has_new_name, all_named}
use Rattle.bfs_set_name.proofs.Whys.{not_named}
use Rattle.bfs_set_name.proofs.Steps.{few_left}
use Rattle.bfs_set_name.proofs.Counted.{few_below, one_left, less_left, back_left, none_left_over, rest_twice, damaged_added}
use Rattle.bfs_set_name.proofs.naming.set_name.Goals as goal

pub has_long_blocks-requires : goal.has_long_blocks-requires
has_long_blocks-requires g c = c.requires.valid

pub loop-left-init : goal.loop-left-init
loop-left-init g c = record {
  size = refl;
  frame = refl;
  rest = refl;
  volume = c.requires.volume;
  later = later_none (g.E.Blocks.counts c.args.edits.now);
  stays = λ k t. t;
  so_far = λ m told.
      let b = bearer_of c.args.inode c.args.site.sup in
      let size = c.args.site.sup.block_size in
      let can = c.requires.can m told in
      let sized = sized_at size (g.E.Blocks.size c.args.edits.now) (g.E.Blocks.told c.args.edits.now) m c.requires.size told (g.met.E.Blocks.sized c.args.edits.now) in
      so_far_start b c.args.bitmap.now m c.args.name.now can (g.E.Blocks.told c.args.edits.now) (g.E.Blocks.changed c.args.edits.now) size told
      (few_below size _ c.has_long_blocks.ensures (few_left b c.args.bitmap.now m c.args.name.now can size sized c.has_long_blocks.ensures));
}

pub put_or_move-requires-clause-valid : goal.put_or_move-requires-clause-valid
put_or_move-requires-clause-valid g c = c.requires.valid

pub put_or_move-requires-clause-inside : goal.put_or_move-requires-clause-inside
put_or_move-requires-clause-inside g c = c.requires.inside

pub put_or_move-requires-clause-size : goal.put_or_move-requires-clause-size
put_or_move-requires-clause-size g c = c.loop-left.invariant.size ∙ c.requires.size

pub put_or_move-requires-clause-volume : goal.put_or_move-requires-clause-volume
put_or_move-requires-clause-volume g c = c.loop-left.invariant.volume

pub put_or_move-requires-clause-short : goal.put_or_move-requires-clause-short
put_or_move-requires-clause-short g c = c.requires.short

pub put_or_move-requires-clause-can : goal.put_or_move-requires-clause-can
put_or_move-requires-clause-can g c map told =
    let told1 = g.E.Blocks.told c.loop-left.edits in
    let before =
    told_back (g.E.Blocks.told c.args.edits.now) told1 (g.E.Blocks.frame c.args.edits.now).below (g.E.Blocks.frame c.loop-left.edits).below
    (g.met.E.Edits.tells c.args.edits.now) (g.met.E.Edits.tells c.loop-left.edits) (ap (λ f. f.below) c.loop-left.invariant.frame) map told in
    let far = c.loop-left.invariant.so_far before.0 before.1 in
    subst (λ (x : ℕ → Option (List ℕ)). CanName (bearer_of c.args.inode c.args.site.sup) c.loop-left.bitmap x c.args.name.now) (one_map told1 far.have.now_are.map map far.have.now_are.is told) far.can

pub returns-in-Err-clause-faults : goal.returns-in-Err-clause-faults
returns-in-Err-clause-faults g c m told =
    let b = bearer_of c.args.inode c.args.site.sup in
    let far = c.loop-left.invariant.so_far m told in
    not_named b c.args.bitmap.now m c.args.name.now c.loop-left.bitmap (g.E.Blocks.told c.loop-left.edits) (g.E.Blocks.changed c.args.edits.now) (g.E.Blocks.changed c.loop-left.edits) c.loop-left.left far
    c.in-Err.fault (c.in-Err.ensures.faults far.have.now_are.map far.have.now_are.is)

pub returns-in-Err-clause-rest : goal.returns-in-Err-clause-rest
returns-in-Err-clause-rest g c = rest_twice c.args.bitmap.now c.loop-left.bitmap c.put_or_move.new.bitmap c.loop-left.invariant.rest c.in-Err.ensures.rest

pub returns-in-Err-clause-stays : goal.returns-in-Err-clause-stays
returns-in-Err-clause-stays g c k changed = c.in-Err.ensures.stays k (c.loop-left.invariant.stays k changed)

pub returns-in-Err-clause-size : goal.returns-in-Err-clause-size
returns-in-Err-clause-size g c = c.in-Err.ensures.size ∙ c.loop-left.invariant.size

pub returns-in-Err-clause-frame : goal.returns-in-Err-clause-frame
returns-in-Err-clause-frame g c = c.in-Err.ensures.frame ∙ c.loop-left.invariant.frame

pub returns-in-Err-clause-later : goal.returns-in-Err-clause-later
returns-in-Err-clause-later g c =
    later_twice (g.E.Blocks.counts c.args.edits.now) (g.E.Blocks.counts c.loop-left.edits) (g.E.Blocks.counts c.put_or_move.new.edits) c.loop-left.invariant.later c.in-Err.ensures.later

pub returns-in-Err-clause-cause : goal.returns-in-Err-clause-cause
returns-in-Err-clause-cause g c =
    let n = max 1 (ceil 2048 c.args.site.sup.block_size) in
    add_wider_kept {T = Bool} n n (g.E.Blocks.counts c.args.edits.now) (g.E.Blocks.counts c.loop-left.edits) (g.E.Blocks.counts c.put_or_move.new.edits) (Err c.in-Err.fault) (omega arith) c.loop-left.invariant.later
    c.in-Err.ensures.cause

pub returns-then-put-clause-named : goal.returns-then-put-clause-named
returns-then-put-clause-named g c m told =
    let b = bearer_of c.args.inode c.args.site.sup in
    let v = c.args.bitmap.now in
    let name = c.args.name.now in
    let mid = c.loop-left.bitmap in
    let now = c.put_or_move.new.bitmap in
    let told1 = g.E.Blocks.told c.loop-left.edits in
    let told2 = g.E.Blocks.told c.put_or_move.new.edits in
    let old = g.E.Blocks.changed c.args.edits.now in
    let half = g.E.Blocks.changed c.loop-left.edits in
    let new = g.E.Blocks.changed c.put_or_move.new.edits in
    let far = c.loop-left.invariant.so_far m told in
    let put = subst (IsStepped b mid now far.have.now_are.map name told2 half new) c.if-put.true (c.in-Ok.ensures.stepped far.have.now_are.map far.have.now_are.is) in
    has_new_name b v m name (c.requires.can m told) mid told1 old half c.loop-left.left far c.loop-left.invariant.rest now told2 new c.in-Ok.ensures.rest c.in-Ok.ensures.stays
    (c.in-Ok.ensures.keeps far.have.now_are.map far.have.now_are.is) put.0 put.1

pub returns-then-put-clause-keeps : goal.returns-then-put-clause-keeps
returns-then-put-clause-keeps g c m told =
    let far = c.loop-left.invariant.so_far m told in
    all_named (bearer_of c.args.inode c.args.site.sup) c.args.bitmap.now m c.args.name.now (c.requires.can m told) c.loop-left.bitmap (g.E.Blocks.told c.loop-left.edits) (g.E.Blocks.changed c.args.edits.now) (g.E.Blocks.changed c.loop-left.edits)
    c.loop-left.left far c.loop-left.invariant.rest c.put_or_move.new.bitmap (g.E.Blocks.told c.put_or_move.new.edits) (g.E.Blocks.changed c.put_or_move.new.edits) c.in-Ok.ensures.rest c.in-Ok.ensures.stays
    (c.in-Ok.ensures.keeps far.have.now_are.map far.have.now_are.is)

pub returns-then-put-clause-rest : goal.returns-then-put-clause-rest
returns-then-put-clause-rest g c = rest_twice c.args.bitmap.now c.loop-left.bitmap c.put_or_move.new.bitmap c.loop-left.invariant.rest c.in-Ok.ensures.rest

pub returns-then-put-clause-stays : goal.returns-then-put-clause-stays
returns-then-put-clause-stays g c k changed = c.in-Ok.ensures.stays k (c.loop-left.invariant.stays k changed)

pub returns-then-put-clause-size : goal.returns-then-put-clause-size
returns-then-put-clause-size g c = c.in-Ok.ensures.size ∙ c.loop-left.invariant.size

pub returns-then-put-clause-frame : goal.returns-then-put-clause-frame
returns-then-put-clause-frame g c = c.in-Ok.ensures.frame ∙ c.loop-left.invariant.frame

pub returns-then-put-clause-later : goal.returns-then-put-clause-later
returns-then-put-clause-later g c =
    later_twice (g.E.Blocks.counts c.args.edits.now) (g.E.Blocks.counts c.loop-left.edits) (g.E.Blocks.counts c.put_or_move.new.edits) c.loop-left.invariant.later c.in-Ok.ensures.later

pub overflow_sub-left : goal.overflow_sub-left
overflow_sub-left g c = one_left c.loop-left.left c.loop-left-test.true

pub loop-left-smaller : goal.loop-left-smaller
loop-left-smaller g c = less_left c.loop-left.left c.loop-left-test.true

pub loop-left-preserved : goal.loop-left-preserved
loop-left-preserved g c =
    let b = bearer_of c.args.inode c.args.site.sup in
    let v = c.args.bitmap.now in
    let name = c.args.name.now in
    let mid = c.loop-left.bitmap in
    let now = c.put_or_move.new.bitmap in
    let told1 = g.E.Blocks.told c.loop-left.edits in
    let told2 = g.E.Blocks.told c.put_or_move.new.edits in
    let old = g.E.Blocks.changed c.args.edits.now in
    let half = g.E.Blocks.changed c.loop-left.edits in
    let new = g.E.Blocks.changed c.put_or_move.new.edits in
    let rest = rest_twice v mid now c.loop-left.invariant.rest c.in-Ok.ensures.rest in
    record {
      size = c.in-Ok.ensures.size ∙ c.loop-left.invariant.size;
      frame = c.in-Ok.ensures.frame ∙ c.loop-left.invariant.frame;
      rest = rest;
      volume = subst (IsOfVolume (sizes_of c.args.site.sup)) (sym rest) (record { block_size = c.requires.volume.block_size; blocks = c.requires.volume.blocks; group_blocks = c.requires.volume.group_blocks });
      later = later_twice (g.E.Blocks.counts c.args.edits.now) (g.E.Blocks.counts c.loop-left.edits) (g.E.Blocks.counts c.put_or_move.new.edits) c.loop-left.invariant.later c.in-Ok.ensures.later;
      stays = λ k changed. c.in-Ok.ensures.stays k (c.loop-left.invariant.stays k changed);
      so_far = λ m told.
          let far = c.loop-left.invariant.so_far m told in
          let gone = subst (IsStepped b mid now far.have.now_are.map name told2 half new) c.if-put.false (c.in-Ok.ensures.stepped far.have.now_are.map far.have.now_are.is) in
          so_far_more b v m name (c.requires.can m told) mid told1 old half c.loop-left.left far c.loop-left.invariant.rest now told2 new c.in-Ok.ensures.rest c.in-Ok.ensures.stays
          (c.in-Ok.ensures.keeps far.have.now_are.map far.have.now_are.is) gone (c.loop-left.left - 1) (back_left c.loop-left.left c.loop-left-test.true);
    }

pub returns-clause-faults : goal.returns-clause-faults
returns-clause-faults g c m told = absurd (none_left_over _ c.loop-left.left (c.loop-left.invariant.so_far m told).few c.loop-left-test.false)

pub returns-clause-rest : goal.returns-clause-rest
returns-clause-rest g c = c.loop-left.invariant.rest

pub returns-clause-stays : goal.returns-clause-stays
returns-clause-stays g c = c.loop-left.invariant.stays

pub returns-clause-size : goal.returns-clause-size
returns-clause-size g c = c.loop-left.invariant.size

pub returns-clause-frame : goal.returns-clause-frame
returns-clause-frame g c = c.loop-left.invariant.frame

pub returns-clause-later : goal.returns-clause-later
returns-clause-later g c = c.loop-left.invariant.later

pub returns-clause-cause : goal.returns-clause-cause
returns-clause-cause g c = damaged_added (g.E.Blocks.counts c.args.edits.now) (g.E.Blocks.counts c.loop-left.edits) c.args.inode c.damaged.result c.damaged.ensures (max 1 (ceil 2048 c.args.site.sup.block_size))
