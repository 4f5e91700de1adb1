-- An index: a set of pairs of a key and an id, in a tree that stands in the stream of an inode and whose values mean the ids of a
-- key.
use Rattle.std.specs.Prelude.{◌≡◌, ◌⊎◌, ◌↔◌, ℕ, List, Bool, Option, map}
use Rattle.std.specs.List.{Contains, filter, flat_map}
use Rattle.bfs_base.specs.declared.kind.KeyKind.{KeyKind}
use Rattle.bfs_bitmap.specs.Runs.{Room}
use Rattle.bfs_pages.specs.Order.{Key}
use Rattle.bfs_range.specs.declared.ranged.RangedRow.{RangedRow}
use Rattle.bfs_stream.specs.Sizes.{Origin}
use Rattle.bfs_stream_pages.specs.Held.{stream_of}
use Rattle.bfs_tree.specs.Listings.{is_between}
use Rattle.bfs_values.specs.Reached.{IsWholeTree, pairs_of}
use Rattle.bfs_values.specs.Rows.{rows_in}
use Rattle.bfs_maps.specs.Mapped.{HasHeld, StreamNow}
use Rattle.bfs_index.specs.declared.found.Pair.{Pair}

-- which index a call is on: the stream that it stands in, and the kind of its keys
pub record Place : Type 0 where
  pub origin : Origin
  pub kind : KeyKind

-- the pairs of a tree, by key, then by id: each row's key with each of the ids that its value means
abbrev pub pairs_in : KeyKind → List ℕ → List (Key × ℕ)
pairs_in kind bytes = flat_map (pairs_of bytes) (rows_in kind bytes)

-- the pairs of the index in an inode's stream
abbrev pub pairs_at : Place → (ℕ → Option (List ℕ)) → List (Key × ℕ)
pairs_at p m = pairs_in p.kind (stream_of p.origin m)

-- the stream of the inode is held, and its bytes are a whole tree of this kind of keys
pub record IsIndex (p : Place) (v : Room) (m : ℕ → Option (List ℕ)) : Type 0 where
  pub held : HasHeld p.origin v m
  pub tree : IsWholeTree p.kind (stream_of p.origin m)

-- The bytes are a whole tree, whose pairs are those of the old bytes and this one. Where it was there, nothing has changed.
pub record HasWith (kind : KeyKind) (old : List ℕ) (key : Key) (id : ℕ) (bytes : List ℕ) : Type 0 where
  pub tree : IsWholeTree kind bytes
  pub pairs : (k : Key) (n : ℕ) → Contains (pairs_in kind bytes) (k, n) ↔ (Contains (pairs_in kind old) (k, n) ⊎ ((k ≡ key) × (n ≡ id)))
  pub stays : Contains (pairs_in kind old) (key, id) → bytes ≡ old

-- The bytes are a whole tree, whose pairs are those of the old bytes without this one. Where it wasn't there, nothing has changed.
pub record HasWithout (kind : KeyKind) (old : List ℕ) (key : Key) (id : ℕ) (bytes : List ℕ) : Type 0 where
  pub tree : IsWholeTree kind bytes
  pub pairs : (k : Key) (n : ℕ) → Contains (pairs_in kind bytes) (k, n) ↔ (Contains (pairs_in kind old) (k, n) × ((k ≡ key) × (n ≡ id) → ⊥))
  pub stays : (Contains (pairs_in kind old) (key, id) → ⊥) → bytes ≡ old

-- an index has this pair too since, or has it no more
abbrev pub HasAdded : Place → Room → Room → (ℕ → Option (List ℕ)) → Key → ℕ → Option (ℕ → Option (List ℕ)) → (ℕ → Bool) → (ℕ → Bool) → Type 0
HasAdded p v now m key id told old new = StreamNow p.origin v now m (HasWith p.kind (stream_of p.origin m) key id) told old new

abbrev pub HasTaken : Place → Room → Room → (ℕ → Option (List ℕ)) → Key → ℕ → Option (ℕ → Option (List ℕ)) → (ℕ → Bool) → (ℕ → Bool) → Type 0
HasTaken p v now m key id told old new = StreamNow p.origin v now m (HasWithout p.kind (stream_of p.origin m) key id) told old new

-- a key with an id, as a range answers it
abbrev pub found_pair : Key × ℕ → Pair
found_pair p = record { key = p.0; id = p.1 }

-- the pairs with a key from the lower end to the upper end, both inclusive, in their order
abbrev pub found_between : KeyKind → Key → Key → List (Key × ℕ) → List Pair
found_between kind low high pairs = map found_pair (filter (is_between kind low high) pairs)

-- a key with each of its numbers, as pairs
abbrev pub row_pairs : RangedRow → List Pair
row_pairs r = map (λ n. record { key = r.key; id = n }) r.numbers
