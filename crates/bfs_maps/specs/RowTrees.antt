-- A tree in the stream of an inode, whose rows may mean anything.
use Rattle.std.specs.Prelude.{◌≡◌, ℕ, List, Bool, Option}
use Rattle.bfs_base.specs.declared.kind.KeyKind.{KeyKind}
use Rattle.bfs_bitmap.specs.Runs.{Room}
use Rattle.bfs_node.specs.Page.{Row}
use Rattle.bfs_pages.specs.Order.{Key}
use Rattle.bfs_stream.specs.Sizes.{Origin}
use Rattle.bfs_stream_pages.specs.Held.{stream_of}
use Rattle.bfs_values.specs.Reached.{IsWholeTree}
use Rattle.bfs_values.specs.Rows.{rows_in}
use Rattle.bfs_maps.specs.Mapped.{HasHeld, StreamNow}
use Rattle.bfs_maps.specs.NumberTrees.{HoldsNumber}

-- The bytes are a whole tree of this kind of keys, and its rows are these.
pub record IsRowTree (kind : KeyKind) (rows : List Row) (bytes : List ℕ) : Type 0 where
  pub tree : IsWholeTree kind bytes
  pub rows_are : rows_in kind bytes ≡ rows

-- The stream of the inode is held, and its bytes are a whole tree of this kind of keys.
pub record HasTree (kind : KeyKind) (o : Origin) (v : Room) (m : ℕ → Option (List ℕ)) : Type 0 where
  pub held : HasHeld o v m
  pub tree : IsWholeTree kind (stream_of o m)

-- And where the key is there, its value is a plain number.
pub record HasTreeWith (kind : KeyKind) (key : Key) (o : Origin) (v : Room) (m : ℕ → Option (List ℕ)) : Type 0 where
  pub held : HasHeld o v m
  pub tree : HoldsNumber kind key (stream_of o m)

-- the tree has these rows since
abbrev pub AreRowsNow : KeyKind → Origin → Room → Room → (ℕ → Option (List ℕ)) → List Row → Option (ℕ → Option (List ℕ)) → (ℕ → Bool) → (ℕ → Bool) → Type 0
AreRowsNow kind o v now m rows told old new = StreamNow o v now m (IsRowTree kind rows) told old new
