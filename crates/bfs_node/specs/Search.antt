-- The place of a key among rows whose keys strictly ascend.
use Rattle.std.specs.Prelude.{◌≡◌, ◌<◌, ◌≤◌, ℕ, ◌+◌, List, length, Result, Ok, Err}
use Rattle.std.specs.declared.cmp.Ordering.TheVariants.{Less}
use Rattle.bfs_base.specs.declared.kind.KeyKind.{KeyKind}
use Rattle.bfs_base.specs.declared.kind.KeyKind.TheVariants.{Text, I32, U32, I64, U64, F32, F64}
use Rattle.bfs_base.specs.Keys.{key_cmp, IsKey}
use Rattle.bfs_node.specs.Page.{Row, key_of, row_in}

-- these bytes can be looked for: any text, or a number of the kind's width
abbrev pub IsSought : KeyKind → List ℕ → Type 0
IsSought Text key = Unit {0}
IsSought I32 key = IsKey I32 key
IsSought U32 key = IsKey U32 key
IsSought I64 key = IsKey I64 key
IsSought U64 key = IsKey U64 key
IsSought F32 key = ⊥
IsSought F64 key = ⊥

-- the order of the keys at two places
abbrev pub key_at : List Row → ℕ → List ℕ
key_at rows i = key_of (row_in rows i)

-- each key is less than the next one
abbrev pub Ascends : KeyKind → List Row → Type 0
Ascends kind rows = (i : ℕ) → i + 1 < length rows → key_cmp kind (key_at rows i) (key_at rows (i + 1)) ≡ Less

-- the key is there; or the keys before this place are less, and those from it on are greater
abbrev pub IsPlace : KeyKind → List Row → List ℕ → Result ℕ ℕ → Type 0
IsPlace kind rows key (Ok i) = (i < length rows) × (key_at rows i ≡ key)
IsPlace kind rows key (Err i) =
    (i ≤ length rows) × ((j : ℕ) → j < i → key_cmp kind (key_at rows j) key ≡ Less)
    × ((j : ℕ) → i ≤ j → j < length rows → key_cmp kind key (key_at rows j) ≡ Less)

-- the answer is a place among the rows, whatever their order
abbrev pub IsInRows : List Row → Result ℕ ℕ → Type 0
IsInRows rows (Ok i) = i < length rows
IsInRows rows (Err i) = i ≤ length rows
