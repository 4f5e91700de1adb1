-- A tree in the stream of an inode, as a map from keys to numbers.
use Rattle.std.specs.Prelude.{◌≡◌, ℕ, List, Bool, Option, Some}
use Rattle.bfs_base.specs.declared.kind.KeyKind.{KeyKind}
use Rattle.bfs_bitmap.specs.Runs.{Room}
use Rattle.bfs_node.specs.Page.{Row}
use Rattle.bfs_txn.specs.Told.{StaysChanged}
use Rattle.bfs_stream.specs.Grown.{AreWritten}
use Rattle.bfs_stream.specs.Places.{whole_at}
use Rattle.bfs_stream.specs.Sizes.{Origin, sizes_of}
use Rattle.bfs_stream.specs.Told.{contents}
use Rattle.bfs_stream_pages.specs.Held.{Held, IsReadable, stream_of}
use Rattle.bfs_stream_pages.specs.Moves.{ChangesFresh, Moved}
use Rattle.bfs_values.specs.Rows.{rows_in}
use Rattle.bfs_maps.specs.declared.tree.TreeAt.{TreeAt}
use Rattle.bfs_maps.specs.NumberTrees.{IsNumberTree, IsTreeOf}

-- the stream that a tree stands in
abbrev pub origin_of : TreeAt → Origin
origin_of t = record { id = t.inode; sizes = sizes_of t.sup }

-- the rows of the tree in an inode's stream
abbrev pub rows_of : KeyKind → Origin → (ℕ → Option (List ℕ)) → List Row
rows_of kind o m = rows_in kind (stream_of o m)

-- the stream of the inode can be read
abbrev pub HasReadable : Origin → (ℕ → Option (List ℕ)) → Type 0
HasReadable o m = (long : ℕ) × IsReadable o long m

-- the stream of the inode is held
abbrev pub HasHeld : Origin → Room → (ℕ → Option (List ℕ)) → Type 0
HasHeld o v m = (long : ℕ) × Held o v long m

-- The stream of the inode is held, and its bytes are a whole tree of this kind of keys, whose values are numbers.
pub record IsMap (kind : KeyKind) (o : Origin) (v : Room) (m : ℕ → Option (List ℕ)) : Type 0 where
  pub held : HasHeld o v m
  pub tree : IsNumberTree kind (stream_of o m)

-- The stream is held since, and its bytes have a property. It has perhaps taken fresh blocks, and nothing else has moved; what
-- was written are blocks of the stream and blocks of the bitmap; what was changed stays so, and fresh blocks are changed.
pub record StreamNow (o : Origin) (v now : Room) (m : ℕ → Option (List ℕ)) (P : List ℕ → Type 0) (told : Option (ℕ → Option (List ℕ))) (old new : ℕ → Bool) : Type 0 where
  pub map : ℕ → Option (List ℕ)
  pub is : told ≡ Some map
  pub held : HasHeld o now map
  pub bytes : P (stream_of o map)
  pub moved : Moved o v now m map
  pub written : AreWritten v old new (whole_at o.sizes (contents map) o.id)
  pub stays : StaysChanged old new
  pub fresh : ChangesFresh o m map new

-- the map has these rows since
abbrev pub HasRowsNow : KeyKind → Origin → Room → Room → (ℕ → Option (List ℕ)) → List Row → Option (ℕ → Option (List ℕ)) → (ℕ → Bool) → (ℕ → Bool) → Type 0
HasRowsNow kind o v now m rows told old new = StreamNow o v now m (IsTreeOf kind rows) told old new
