-- The small data area of an inode as a list of items.
use Rattle.std.specs.Prelude.{◌≡◌, ◌⊎◌, ◌<◌, ◌≤◌, ◌==◌, ◌||◌, ℕ, zero, suc, ◌+◌, ◌^◌, nat_lt, if◌then◌else◌, List, [], ◌∷◌, ◌++◌, length, take, drop, Option, Some, None}
use Rattle.std.specs.Option.{option_map}
use Rattle.bfs_bytes.specs.Fields.{unsigned_at, unsigned_bytes}

-- one item: its type, its name and its bytes
pub record Item : Type 0 where
  pub kind : ℕ
  pub name : List ℕ
  pub bytes : List ℕ

-- how many bytes an item takes: type and two sizes, the name, three bytes, its bytes, one byte
abbrev pub size_of : Item → ℕ
size_of item = 8 + length item.name + 3 + length item.bytes + 1

abbrev pub sizes_of : List Item → ℕ
sizes_of [] = 0
sizes_of (item ∷ items) = size_of item + sizes_of items

-- what the first eight bytes say
abbrev pub name_size : List ℕ → ℕ
name_size bytes = unsigned_at 2 bytes 4

abbrev pub data_size : List ℕ → ℕ
data_size bytes = unsigned_at 2 bytes 6

abbrev pub size_in : List ℕ → ℕ
size_in bytes = 8 + name_size bytes + 3 + data_size bytes + 1

-- the item that these bytes begin with
abbrev pub item_in : List ℕ → Item
item_in bytes = record {
  kind = unsigned_at 4 bytes 0;
  name = take (name_size bytes) (drop 8 bytes);
  bytes = take (data_size bytes) (drop (8 + name_size bytes + 3) bytes);
}

-- the list ends here: fewer than eight bytes are left, or the name is empty
abbrev pub Ends : List ℕ → Type 0
Ends bytes = (length bytes < 8) ⊎ (name_size bytes ≡ 0)

-- the list goes on here
abbrev pub GoesOn : List ℕ → Type 0
GoesOn bytes = (8 ≤ length bytes) × (0 < name_size bytes)

-- these bytes begin with this item
pub record Begins (bytes : List ℕ) (item : Item) : Type 0 where
  pub goes_on : GoesOn bytes
  pub inside : size_in bytes ≤ length bytes
  pub same : item ≡ item_in bytes

-- these items stand at the beginning, one after the other
abbrev pub Stand : List ℕ → List Item → Type 0
Stand bytes [] = Unit {0}
Stand bytes (item ∷ items) = Begins bytes item × Stand (drop (size_of item) bytes) items

-- the area is these items, and then the list ends
abbrev pub IsArea : List ℕ → List Item → Type 0
IsArea area items = Stand area items × Ends (drop (sizes_of items) area)

-- behind the items up to this place stands one that runs past the area
pub record RunsPast (area : List ℕ) (at : ℕ) : Type 0 where
  pub items : List Item
  pub stand : Stand area items
  pub place : at ≡ sizes_of items
  pub goes_on : GoesOn (drop at area)
  pub past : length (drop at area) < size_in (drop at area)

-- the items of these bytes, of which at most n are read, or nothing where one runs past them
abbrev pub items_in : ℕ → List ℕ → Option (List Item)
items_in zero bytes = Some []
items_in (suc n) bytes =
    if nat_lt (length bytes) 8 || (name_size bytes == 0) then Some []
    else (if nat_lt (length bytes) (size_in bytes) then None
    else option_map (λ items. item_in bytes ∷ items) (items_in n (drop (size_in bytes) bytes)))

-- the items of an area, which are fewer than its bytes
unfoldable pub items_of : List ℕ → Option (List Item)
items_of area = items_in (length area) area

-- an item as it is written
unfoldable pub bytes_of : Item → List ℕ
bytes_of item =
    unsigned_bytes 4 item.kind ++ unsigned_bytes 2 (length item.name) ++ unsigned_bytes 2 (length item.bytes)
    ++ item.name ++ (0 ∷ 0 ∷ 0 ∷ []) ++ item.bytes ++ (0 ∷ [])

-- an item that can be written: its sizes have two bytes each, and it has a name
pub record IsWritable (item : Item) : Type 0 where
  pub kind : item.kind < 2 ^ 32
  pub some : 1 ≤ length item.name
  pub name : length item.name < 2 ^ 16
  pub bytes : length item.bytes < 2 ^ 16
