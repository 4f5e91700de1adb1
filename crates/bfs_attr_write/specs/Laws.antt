-- What the steps of a call that changes attributes have to do with one another.
use Rattle.std.specs.Prelude.{◌≡◌, ◌⊎◌, ℕ, pos, false, List, Bool, Option, Some, ◌∷◌, ◌++◌}
use Rattle.std.specs.FinMap.{from_entries, remove}
use Rattle.bfs_base.specs.Keys.{text_cmp}
use Rattle.bfs_base.specs.declared.kind.KeyKind.TheVariants.{Text}
use Rattle.bfs_sound.specs.Attributes.{Named}
use Rattle.bfs_sound.specs.Nodes.{AreApart}
use Rattle.bfs_base.specs.Lists.{Has}
use Rattle.bfs_bitmap.specs.Runs.{Room, is_free}
use Rattle.bfs_pages.specs.Maps.{assoc, without}
use Rattle.bfs_super.specs.Conditions.{IsValid}
use Rattle.bfs_super.specs.Geometry.{geometry_of}
use Rattle.bfs_super.specs.declared.sup.Super.{Super}
use Rattle.bfs_stream.specs.Sizes.{sizes_of, first_block}
use Rattle.bfs_txn.specs.Told.{StaysChanged}
use Rattle.bfs_tree.specs.Trees.{Attribute, Attributes}
use Rattle.bfs_maps.specs.Mapped.{HasHeld, rows_of}
use Rattle.bfs_maps.specs.RowTrees.{AreRowsNow}
use Rattle.bfs_make.specs.Given.{HasGivenBack}
use Rattle.bfs_make.specs.Made.{HasStored}
use Rattle.bfs_make.specs.declared.making.NewInode.{NewInode}
use Rattle.bfs_attr.specs.Bearers.{Bearer, bearer_of, volume_at, origin, attributes_at}
use Rattle.bfs_attr.specs.Changed.{attribute_blocks, Holds, AttributesNow}
use Rattle.bfs_attr.specs.Made.{IsAttributeInode}
use Rattle.bfs_attr_write.specs.Adding.{CanAdd, IsStored}
use Rattle.bfs_attr_write.specs.Exchanged.{Exchanged}
use Rattle.bfs_attr_write.specs.Removal.{CanTake, HasRowTaken}

-- An inode that was stored with a stream, and is that of an attribute, is that attribute stored.
abbrev pub AttributesAreStored : Type 0
AttributesAreStored = (s : Super) (inode : ℕ) (v now : Room) (m : ℕ → Option (List ℕ)) (n : NewInode) (bytes : List ℕ) (attribute : Attribute) (told : Option (ℕ → Option (List ℕ))) (old new : ℕ → Bool)
    → (h : HasStored (sizes_of s) v now m n bytes told old new) → IsAttributeInode (volume_at (geometry_of s) h.map) (first_block (sizes_of s) n.address) attribute
    → IsStored (bearer_of inode s) v now m h.map (first_block (sizes_of s) n.address) attribute old new

-- While an attribute is stored, the attribute directory's stream stays held.
abbrev pub DirectoriesStayHeld : Type 0
DirectoriesStayHeld = (b : Bearer) (v now : Room) (m map : ℕ → Option (List ℕ)) (d id : ℕ) (name : List ℕ) (attribute : Attribute) (old new : ℕ → Bool)
    → CanAdd b v m d name → IsStored b v now m map id attribute old new → HasHeld (origin b.geometry d) now map

-- Two exchanges, of which the second begins with what the first has left, are one, where none of the first blocks was free, and what
-- the first brought stays, or was there before.
abbrev pub ExchangesFollow : Type 0
ExchangesFollow = (v mid now : Room) (m between map : ℕ → Option (List ℕ)) (before middle after : List ℕ) → Exchanged v mid m between before middle → Exchanged mid now between map middle after
    → ((k : ℕ) → Has before k → is_free v m k ≡ false) → ((k : ℕ) → Has middle k → Has before k ⊎ Has after k) → Exchanged v now m map before after

-- An attribute taken from among others with names apart leaves their names apart, and the map without its name.
abbrev pub EntriesPart : Type 0
EntriesPart = (before behind : List Named) (entry : Named) → AreApart (before ++ (entry ∷ behind))
    → AreApart (before ++ behind) × (from_entries {R = text_cmp} (before ++ behind) ≡ remove (from_entries (before ++ (entry ∷ behind))) entry.0)

-- Where the row of a name was taken out of the attribute directory, and the inode that it named was given back, the attributes are
-- those before without that name.
abbrev pub RowsLeave : Type 0
RowsLeave = (s : Super) (inode : ℕ) (v mid now : Room) (m : ℕ → Option (List ℕ)) (d id : ℕ) (name : List ℕ) (taken told : Option (ℕ → Option (List ℕ))) (old half new : ℕ → Bool)
    → IsValid s → CanTake (bearer_of inode s) v m d name → assoc Text (rows_of Text (origin (geometry_of s) d) m) name ≡ Some (pos id)
    → (row : AreRowsNow Text (origin (geometry_of s) d) v mid m (without Text (rows_of Text (origin (geometry_of s) d) m) name) taken old half)
    → now ≡ record mid { given = now.given; tally = now.tally } → HasGivenBack (origin (geometry_of s) id) mid now row.map told half new → StaysChanged half new
    → HasRowTaken (bearer_of inode s) v now m (remove (attributes_at (volume_at (geometry_of s) m) inode) name) told old new

-- Two changes of the attributes of an inode, of which the second begins with what the first has left, are one, where what the first
-- brought stays, or was there before.
abbrev pub ChangesFollow : Type 0
ChangesFollow = (b : Bearer) (v mid now : Room) (m : ℕ → Option (List ℕ)) (first second : Attributes) (told later : Option (ℕ → Option (List ℕ))) (old half new : ℕ → Bool)
    → mid ≡ record v { given = mid.given; tally = mid.tally } → now ≡ record mid { given = now.given; tally = now.tally } → Holds b v m
    → (one : AttributesNow b v mid m first told old half) → (two : AttributesNow b mid now one.map second later half new) → StaysChanged half new
    → ((k : ℕ) → Has (attribute_blocks b.geometry one.map b.id) k → Has (attribute_blocks b.geometry m b.id) k ⊎ Has (attribute_blocks b.geometry two.map b.id) k)
    → AttributesNow b v now m second later old new
