-- Rows act as a map.
use Rattle.std.specs.Prelude.{◌≡◌, ◌≢◌, ℤ, List, false, Option, Some, None}
use Rattle.bfs_base.specs.declared.kind.KeyKind.{KeyKind}
use Rattle.bfs_base.specs.declared.kind.KeyKind.TheVariants.{Text}
use Rattle.bfs_node.specs.Page.{Row}
use Rattle.bfs_pages.specs.Maps.{assoc, put, without}
use Rattle.bfs_pages.specs.Order.{Key, same_keys}

-- at one key other rows have this value, or none, and at every other key what these have
pub record DiffersAt (kind : KeyKind) (rows now : List Row) (key : Key) (value : Option ℤ) : Type 0 where
  pub changed : assoc kind now key ≡ value
  pub others : (k : Key) → same_keys kind k key ≡ false → assoc kind now k ≡ assoc kind rows k

-- a row that is put changes the value at its key alone
abbrev pub PutsAtKey : Type 0
PutsAtKey = (kind : KeyKind) (rows : List Row) (key : Key) (value : ℤ) → DiffersAt kind rows (put kind rows key value) key (Some value)

-- a key whose row is taken has none, and every other key has its value
abbrev pub TakesAtKey : Type 0
TakesAtKey = (kind : KeyKind) (rows : List Row) (key : Key) → DiffersAt kind rows (without kind rows key) key None

-- names that differ are different keys
abbrev pub NamesDiffer : Type 0
NamesDiffer = (a b : Key) → a ≢ b → same_keys Text a b ≡ false
