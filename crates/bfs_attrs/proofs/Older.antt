-- A change of attributes, begun a little earlier.
use Rattle.std.proofs.Common.{◌≡◌, ◌⊎◌, inl, inr, ℕ, List, ◌++◌, Bool, true, Option, sym, subst}
use Rattle.std.specs.List.{flat_map}
use Rattle.bfs_base.specs.Lists.{Has}
use Rattle.bfs_bitmap.specs.Fills.{IsBitmapBlock}
use Rattle.bfs_bitmap.specs.Runs.{Room}
use Rattle.bfs_stream.specs.Grown.{AreWritten}
use Rattle.bfs_stream.specs.Places.{whole_at}
use Rattle.bfs_stream.specs.Told.{contents}
use Rattle.bfs_stream.proofs.Frames.{has_first, has_left}
use Rattle.bfs_sound.specs.Attributes.{attribute_directory, attribute_inodes}
use Rattle.bfs_sound.specs.Volumes.{sizes}
use Rattle.bfs_attr.specs.Bearers.{Bearer, volume_at}
use Rattle.bfs_attr.specs.Changed.{attribute_blocks, HasTaken}

module _ (b : Bearer) (v : Room) (m : ℕ → Option (List ℕ)) (old half new : ℕ → Bool) (set : (k : ℕ) → half k ≡ true → (old k ≡ true) ⊎ (k ≡ b.id)) where
  has_bearer : (xs : List ℕ) → Has (attribute_blocks b.geometry m b.id ++ xs) b.id
  has_bearer xs = has_left (attribute_blocks b.geometry m b.id) xs b.id
      (has_first b.id (flat_map (whole_at (sizes b.geometry) (contents m)) (attribute_inodes (volume_at b.geometry m) (attribute_directory (volume_at b.geometry m) b.id))))

  pub wrote_older : (xs : List ℕ) → AreWritten v half new (attribute_blocks b.geometry m b.id ++ xs) → AreWritten v old new (attribute_blocks b.geometry m b.id ++ xs)
  wrote_older xs wrote k e = by_side (wrote k e)
    where
      by_set : (old k ≡ true) ⊎ (k ≡ b.id) → (old k ≡ true) ⊎ (IsBitmapBlock v k ⊎ Has (attribute_blocks b.geometry m b.id ++ xs) k)
      by_set (inl had) = inl had
      by_set (inr is) = inr (inr (subst (Has (attribute_blocks b.geometry m b.id ++ xs)) (sym is) (has_bearer xs)))

      by_side : (half k ≡ true) ⊎ (IsBitmapBlock v k ⊎ Has (attribute_blocks b.geometry m b.id ++ xs) k) → (old k ≡ true) ⊎ (IsBitmapBlock v k ⊎ Has (attribute_blocks b.geometry m b.id ++ xs) k)
      by_side (inl had) = by_set (set k had)
      by_side (inr rest) = inr rest

  pub taken_older : (now : Room) (name : List ℕ) (told : Option (ℕ → Option (List ℕ))) → HasTaken b v now m name told half new → HasTaken b v now m name told old new
  taken_older now name told h = record {
    now_are = record {
      map = h.now_are.map;
      is = h.now_are.is;
      holds = h.now_are.holds;
      attributes_are = h.now_are.attributes_are;
      were_free = h.now_are.were_free;
      free = h.now_are.free;
      marks = h.now_are.marks;
      others = h.now_are.others;
      first = h.now_are.first;
      kept = h.now_are.kept;
      written = wrote_older (attribute_blocks b.geometry h.now_are.map b.id) h.now_are.written;
      counted = h.now_are.counted;
      entered = h.now_are.entered;
    };
    there = h.there;
    some = h.some;
  }
