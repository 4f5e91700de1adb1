-- Trees whose values are plain numbers.
use Rattle.std.specs.Prelude.{◌≡◌, ◌<◌, ◌^◌, ℕ, ℤ, pos, List, Option, Some, None}
use Rattle.std.specs.List.{AllByRecursion}
use Rattle.bfs_base.specs.declared.kind.KeyKind.{KeyKind}
use Rattle.bfs_node.specs.Page.{Row}
use Rattle.bfs_pages.specs.Maps.{assoc}
use Rattle.bfs_pages.specs.Order.{Key}
use Rattle.bfs_values.specs.Reached.{IsWholeTree}
use Rattle.bfs_values.specs.Rows.{rows_in}

-- the value is a number below 2^62
abbrev pub IsNumber : ℤ → Type 0
IsNumber value = (n : ℕ) × (value ≡ pos n) × (n < 2 ^ 62)

-- each row has such a value
abbrev pub AreNumbers : List Row → Type 0
AreNumbers rows = AllByRecursion (λ r. IsNumber r.1) rows

-- The bytes are a whole tree of this kind of keys, whose values are numbers.
pub record IsNumberTree (kind : KeyKind) (bytes : List ℕ) : Type 0 where
  pub tree : IsWholeTree kind bytes
  pub numbers : AreNumbers (rows_in kind bytes)

-- the number at a key of some rows, or none
abbrev pub IsNumberAt : KeyKind → List Row → Key → Option ℕ → Type 0
IsNumberAt kind rows key None = assoc kind rows key ≡ None
IsNumberAt kind rows key (Some n) = assoc kind rows key ≡ Some (pos n)

-- The bytes are such a tree, and its rows are these.
pub record IsTreeOf (kind : KeyKind) (rows : List Row) (bytes : List ℕ) : Type 0 where
  pub tree : IsNumberTree kind bytes
  pub rows_are : rows_in kind bytes ≡ rows

-- a stream's bytes are told, and have a property
abbrev pub IsTold : Option (List ℕ) → (List ℕ → Type 0) → Type 0
IsTold told P = (bytes : List ℕ) × (told ≡ Some bytes) × P bytes

-- The bytes are a whole tree of this kind of keys, and its value at a key, if it has one, is a number. Other values may mean anything.
pub record HoldsNumber (kind : KeyKind) (key : Key) (bytes : List ℕ) : Type 0 where
  pub tree : IsWholeTree kind bytes
  pub number : (value : ℤ) → assoc kind (rows_in kind bytes) key ≡ Some value → IsNumber value
