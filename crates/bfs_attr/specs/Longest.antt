-- Where the longest attribute of small data begins.
use Rattle.std.specs.Prelude.{ℕ, List, drop, nat_le, Option, Some, None, if◌then◌else◌}
use Rattle.bfs_smalldata.specs.Items.{Item, Begins, item_in, size_in}
use Rattle.bfs_sound.specs.Attributes.{is_name_item}

-- at this place of the area the item begins, or there is none
abbrev pub IsLongestAt : List ℕ → Option Item → Option ℕ → Type 0
IsLongestAt area None None = Unit {0}
IsLongestAt area None (Some at) = ⊥
IsLongestAt area (Some item) None = ⊥
IsLongestAt area (Some item) (Some at) = Begins (drop at area) item

-- of the place found and this one that where the longer attribute begins, and this one among equals; the node's own name is none
abbrev pub longer_from : List ℕ → Option ℕ → ℕ → Option ℕ
longer_from area None at = Some at
longer_from area (Some place) at = if nat_le (size_in (drop place area)) (size_in (drop at area)) then Some at else Some place

abbrev pub place_after : List ℕ → Option ℕ → ℕ → Option ℕ
place_after area found at = if is_name_item (item_in (drop at area)) then found else longer_from area found at
