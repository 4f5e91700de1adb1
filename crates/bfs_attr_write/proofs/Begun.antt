-- Attributes beside which a stream was made: nothing of them has changed.
use Rattle.std.proofs.Common.{◌≡◌, inl, ℕ, List, [], Option, Some, refl, sym, subst}
use Rattle.std.specs.List.{flat_map}
use Rattle.bfs_base.specs.Lists.{Agree}
use Rattle.bfs_base.specs.declared.kind.KeyKind.TheVariants.{Text}
use Rattle.bfs_bitmap.specs.Runs.{Room}
use Rattle.bfs_stream.specs.Places.{whole_at}
use Rattle.bfs_stream.specs.Told.{contents}
use Rattle.bfs_stream.proofs.Frames.{has_first, bytes_same}
use Rattle.bfs_stream_pages.specs.Held.{stream_of}
use Rattle.bfs_values.specs.Reached.{IsWholeTree}
use Rattle.bfs_maps.specs.Mapped.{HasHeld}
use Rattle.bfs_sound.specs.Volumes.{Volume, sizes}
use Rattle.bfs_sound.specs.Owners.{In}
use Rattle.bfs_sound.specs.Inodes.{content}
use Rattle.bfs_sound.specs.Attributes.{attribute_directory, attribute_inodes, HasDirectory, IsAttributeDirectory}
use Rattle.bfs_maps.specs.RowTrees.{HasTree}
use Rattle.bfs_make.specs.Made.{IsNewStream}
use Rattle.bfs_attr.specs.Bearers.{Bearer, volume_at, origin}
use Rattle.bfs_attr.specs.Changed.{Holds}
use Rattle.bfs_attr_write.specs.Exchanged.{Exchanged}
use Rattle.bfs_attr_write.proofs.Brings.{new_exchange}
use Rattle.bfs_attr_write.proofs.Beside.{agree_beside, block_same, whole_beside, held_beside}

module _ (b : Bearer) (v mid : Room) (m m1 : ℕ → Option (List ℕ)) (holds : Holds b v m) (new d : ℕ) (fresh : IsNewStream (origin b.geometry new) v mid m m1) (dir : attribute_directory (volume_at b.geometry m) b.id ≡ Some d) where
  abbrev volume : Volume
  volume = volume_at b.geometry m

  abbrev made : List ℕ
  made = whole_at (sizes b.geometry) (contents m1) new

  abbrev ids : List ℕ
  ids = attribute_inodes volume (attribute_directory volume b.id)

  pub begun : Exchanged v mid m m1 [] made
  begun = new_exchange (origin b.geometry new) v mid m m1 fresh

  pub stream_begun : (k : ℕ) → In k ids → HasHeld (origin b.geometry k) mid m1
  stream_begun k is =
      let h = holds.streams k is in
      (h.0, held_beside v mid m m1 [] made begun (origin b.geometry k) h.0 h.1 (λ j has. refl))

  pub agree_begun : (k : ℕ) → In k ids → Agree (contents m) (contents m1) (whole_at (sizes b.geometry) (contents m) k)
  agree_begun k is =
      let h = holds.streams k is in
      agree_beside v mid m m1 [] made begun (origin b.geometry k) h.0 h.1 (λ j has. refl)

  pub whole_begun : (k : ℕ) → In k ids → whole_at (sizes b.geometry) (contents m1) k ≡ whole_at (sizes b.geometry) (contents m) k
  whole_begun k is =
      let h = holds.streams k is in
      whole_beside v mid m m1 [] made begun (origin b.geometry k) h.0 h.1 (λ j has. refl)

  pub bearer_begun : m1 b.id ≡ m b.id
  bearer_begun = block_same v mid m m1 [] made begun b.id holds.outside (holds.taken b.id (has_first b.id (flat_map (whole_at (sizes b.geometry) (contents m)) ids))) refl

  pub is_directory : IsAttributeDirectory volume b.id d
  is_directory = subst (HasDirectory volume b.id) dir holds.stands.directory

  pub among : In d ids
  among = subst (λ (o : Option ℕ). In d (attribute_inodes volume o)) (sym dir) (inl refl)

  pub bytes_begun : stream_of (origin b.geometry d) m1 ≡ content volume d
  bytes_begun = bytes_same (contents m) (contents m1) (sizes b.geometry) d (agree_begun d among)

  pub tree_begun : HasTree Text (origin b.geometry d) mid m1
  tree_begun = record { held = stream_begun d among; tree = subst (IsWholeTree Text) (sym bytes_begun) is_directory.tree }
