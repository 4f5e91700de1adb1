-- What the steps of a call that takes an attribute leave.
use Rattle.std.specs.Prelude.{◌≡◌, ◌⊎◌, ℕ, pos, true, not, List, length, drop, Bool, Option, Some, IsSome}
use Rattle.std.specs.List.{filter}
use Rattle.std.specs.FinMap.{get, remove}
use Rattle.bfs_base.specs.declared.kind.KeyKind.TheVariants.{Text}
use Rattle.bfs_bitmap.specs.Runs.{Room}
use Rattle.bfs_pages.specs.Maps.{assoc}
use Rattle.bfs_maps.specs.Mapped.{rows_of}
use Rattle.bfs_smalldata.specs.Items.{Item, items_of}
use Rattle.bfs_stream.specs.Told.{contents}
use Rattle.bfs_sound.specs.Attributes.{is_name_item, attributes_of}
use Rattle.bfs_sound.specs.Need.{longest}
use Rattle.bfs_sound.specs.Inodes.{proper_rows}
use Rattle.bfs_make.specs.Given.{HasGivenBack}
use Rattle.bfs_make.specs.Made.{zero_run}
use Rattle.bfs_attr.specs.Bearers.{Bearer, volume_at, origin, attributes_at, value_at}
use Rattle.bfs_attr.specs.Changed.{Holds, HasTaken}
use Rattle.bfs_attr_write.specs.Directories.{HasAddress}
use Rattle.bfs_attr_write.specs.Removal.{CanTake, HasRowTaken}
use Rattle.bfs_attrs.specs.Last.{IsAlone, HasLastTaken}
use Rattle.bfs_attrs.specs.Moved.{IsWithin}

-- Where the inode of the one attribute of an attribute directory was given back, and then the directory, and the inode that bears
-- the attributes names it no more, the attributes are those before without that one.
abbrev pub LastLeaves : Type 0
LastLeaves = (b : Bearer) (v mid now : Room) (m : ℕ → Option (List ℕ)) (d id : ℕ) (name : List ℕ) (told1 told2 told3 : Option (ℕ → Option (List ℕ))) (old half third new : ℕ → Bool)
    → IsAlone b v m d name → assoc Text (rows_of Text (origin b.geometry d) m) name ≡ Some (pos id)
    → (first : HasGivenBack (origin b.geometry id) v mid m told1 old half) → mid ≡ record v { given = mid.given; tally = mid.tally }
    → (second : HasGivenBack (origin b.geometry d) mid now first.map told2 half third) → now ≡ record mid { given = now.given; tally = now.tally }
    → HasAddress second.map b.id zero_run told3 → ((k : ℕ) → new k ≡ true → (third k ≡ true) ⊎ (k ≡ b.id))
    → HasLastTaken b v now m (remove (attributes_at (volume_at b.geometry m) b.id) name) told3 old new

-- Where a row was taken out of an attribute directory that names other attributes too, an attribute is left there.
abbrev pub OthersStay : Type 0
OthersStay = (b : Bearer) (v now : Room) (m : ℕ → Option (List ℕ)) (d : ℕ) (name : List ℕ) (told : Option (ℕ → Option (List ℕ))) (old new : ℕ → Bool)
    → CanTake b v m d name → (length (proper_rows (volume_at b.geometry m) d) ≡ 1 → ⊥) → IsSome (value_at (attributes_of (volume_at b.geometry m) (Some d)) name) → IsSome (get (attributes_at (volume_at b.geometry m) b.id) name)
    → HasRowTaken b v now m (remove (attributes_at (volume_at b.geometry m) b.id) name) told old new → HasTaken b v now m name told old new

-- The longest attribute among the items of an inode's small data is one that can move out of it.
abbrev pub LongestCanMove : Type 0
LongestCanMove = (b : Bearer) (v : Room) (m : ℕ → Option (List ℕ)) (items : List Item) (item : Item) → Holds b v m → items_of (drop 232 (contents m b.id)) ≡ Some items
    → longest (filter (λ item. not (is_name_item item)) items) ≡ Some item → IsWithin b v m item.name (record { code = item.kind; bytes = item.bytes })
