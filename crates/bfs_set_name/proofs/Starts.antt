-- The attributes of an inode before the first step.
use Rattle.std.proofs.Common.{◌<◌, ℕ, List, ◌++◌, Bool, Option, Some, refl, arith}
use Rattle.std.specs.Prelude.{◌==◌}
use Rattle.bfs_base.specs.Lists.{times}
use Rattle.bfs_bitmap.specs.Fills.{IsBitmapBlock}
use Rattle.bfs_bitmap.specs.Runs.{Room, is_free, marked, per_block}
use Rattle.bfs_stream.proofs.Writes.{wrote_none}
use Rattle.bfs_attr.specs.Bearers.{Bearer, volume_at, attributes_at}
use Rattle.bfs_attr.specs.Changed.{attribute_blocks, Holds, AttributesNow}
use Rattle.bfs_attr.proofs.Stays.{none_taken, none_new}
use Rattle.bfs_attrs.specs.Exchanged.{Exchanged}
use Rattle.bfs_attrs.proofs.Addressed.{now_exchanged}

-- the attributes before the first step
module _ (b : Bearer) (v : Room) (m : ℕ → Option (List ℕ)) (holds : Holds b v m) (old : ℕ → Bool) where
  abbrev blocks : List ℕ
  blocks = attribute_blocks b.geometry m b.id

  nothing : Exchanged v v m m blocks blocks
  nothing = record {
    rest = refl;
    fits = holds.fits;
    were_free = λ k has none. let some : 0 < times k blocks = has in absurd (omega (arith, some, none));
    free = λ k. none_taken (is_free v m k) (times k blocks) (holds.taken k);
    marks = λ k low. none_new (times k blocks == 0) (marked (per_block v) m k);
    counted = λ used count. count;
    others = λ k far none. refl;
    first = λ none. refl;
  }

  pub attributes_start : AttributesNow b v v m (attributes_at (volume_at b.geometry m) b.id) (Some m) old old
  attributes_start =
      now_exchanged b v v m m (attributes_at (volume_at b.geometry m) b.id) (Some m) old old refl nothing holds refl refl
      (wrote_none (IsBitmapBlock v) old old (blocks ++ blocks) refl)
      (λ k has none. let some : 0 < times k blocks = has in absurd (omega (arith, some, none)))
