-- Lists of items by their names, and what the calls answer.
use Rattle.std.specs.Prelude.{◌≡◌, ◌≤◌, ◌<◌, ℕ, ◌+◌, if◌then◌else◌, List, [], ◌∷◌, length, take, drop, get_or, Option, Some, None, IfSome, IsSomeAnd, find, count_by}
use Rattle.std.specs.Str.{bytes_eq}
use Rattle.bfs_smalldata.specs.declared.item.Item as found
use Rattle.bfs_smalldata.specs.Items.{Item, sizes_of, items_of}

-- the first item with this name
abbrev pub named : List ℕ → List Item → Option Item
named name items = find (λ item. bytes_eq item.name name) items

-- the items in front of the first with this name
abbrev pub before : List ℕ → List Item → List Item
before name [] = []
before name (item ∷ items) = if bytes_eq item.name name then [] else item ∷ before name items

-- the items without the first of this name
abbrev pub without : List ℕ → List Item → List Item
without name [] = []
without name (item ∷ items) = if bytes_eq item.name name then items else item ∷ without name items

-- the items with this one in place of the first of its name, or behind them where there is none
abbrev pub with_item : Item → List Item → List Item
with_item new [] = new ∷ []
with_item new (item ∷ items) = if bytes_eq item.name new.name then new ∷ items else item ∷ with_item new items

-- no two items have one name
abbrev pub AreDistinct : List Item → Type 0
AreDistinct items = (name : List ℕ) → count_by (λ item. bytes_eq item.name name) items ≤ 1

-- an item of this name with so many bytes ends inside the area, once one of the same name is out
abbrev pub HasRoom : List ℕ → List ℕ → ℕ → Type 0
HasRoom area name n = IfSome (items_of area) (λ items. sizes_of (without name items) + (8 + length name + 3 + n + 1) ≤ length area)

-- such an item fits: there is room for it, and the two bytes of its size can tell how many bytes it has
abbrev pub IsFitting : List ℕ → List ℕ → ℕ → Type 0
IsFitting area name n = (n < 65536) × HasRoom area name n

-- the type of an item, and where its bytes stand in the area
pub record IsPlaceOf (area : List ℕ) (item : Item) (place : found.Item) : Type 0 where
  pub kind : place.kind ≡ item.kind
  pub inside : place.at + place.len ≤ length area
  pub bytes : take place.len (drop place.at area) ≡ item.bytes

-- an answer is the place of an item, or nothing where there is none
abbrev pub Finds : List ℕ → Option Item → Option found.Item → Type 0
Finds area None result = result ≡ None
Finds area (Some item) result = IsSomeAnd result (IsPlaceOf area item)

-- these bytes stand at a place
abbrev pub StandsAt : ℕ → List ℕ → List ℕ → Type 0
StandsAt at part area = take (length part) (drop at area) ≡ part

-- the bytes behind the last item are zeros
abbrev pub IsClear : List ℕ → Type 0
IsClear area = IfSome (items_of area) (λ items. (k : ℕ) → sizes_of items ≤ k → get_or area k 0 ≡ 0)
