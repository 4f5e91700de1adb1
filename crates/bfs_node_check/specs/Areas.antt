-- The small data of a node, and the target of a short link.
use Rattle.std.specs.Prelude.{◌≡◌, ◌≤◌, ◌<◌, ◌⊎◌, ◌/◌, ◌%◌, ◌==◌, ℕ, List, ◌∷◌, ◌++◌, length, take, drop, Some}
use Rattle.std.specs.List.{AllByRecursion, before_first}
use Rattle.bfs_bytes.specs.Fields.{unsigned_at}
use Rattle.bfs_smalldata.specs.Items.{Item, items_of, sizes_of, RunsPast}

abbrev pub IsShort : Item → Type 0
IsShort item = length item.name ≤ 255

-- an area of items, with names of at most 255 bytes
pub record HasShortNames (bytes : List ℕ) : Type 0 where
  pub items : List Item
  pub area : items_of bytes ≡ Some items
  pub short : AllByRecursion IsShort items

-- at this place stands an item with a longer name
pub record IsLongAt (area : List ℕ) (at : ℕ) : Type 0 where
  pub front : List Item
  pub item : Item
  pub back : List Item
  pub items : items_of area ≡ Some (front ++ (item ∷ back))
  pub place : at ≡ sizes_of front
  pub long : 255 < length item.name

-- or one that runs past the area
abbrev pub IsWrongArea : List ℕ → ℕ → Type 0
IsWrongArea area at = RunsPast area at ⊎ IsLongAt area at

-- the inode of a link that isn't flagged as a long one
abbrev pub IsShortLink : List ℕ → Type 0
IsShortLink bytes = (unsigned_at 4 bytes 20 / 4096 % 16 ≡ 10) × (unsigned_at 4 bytes 24 / 64 % 2 ≡ 0)

-- the bytes before the first zero, of 144
abbrev pub target_in : List ℕ → List ℕ
target_in bytes = before_first (λ b. b == 0) (take 144 (drop 72 bytes))

-- a zero ends the target of a short link
abbrev pub HasShortTarget : List ℕ → Type 0
HasShortTarget bytes = IsShortLink bytes → length (target_in bytes) < 144
