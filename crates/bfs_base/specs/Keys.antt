-- Keys of a B+tree, as the bytes that stand in its pages, and their order by kind.
use Rattle.std.specs.Prelude.{◌≡◌, ◌≤◌, ℕ, ℤ, pos, List, length}
use Rattle.std.specs.Int.{w32, w64, cast_signed}
use Rattle.std.specs.declared.cmp.Ordering.{Ordering}
use Rattle.std.specs.Ordering.{nat_cmp, int_cmp}
use Rattle.std.specs.Cmp.Lexicographic.{slice_cmp}
use Rattle.byteorder.specs.Endian.{little_number}
use Rattle.bfs_base.specs.declared.kind.KeyKind.{KeyKind}
use Rattle.bfs_base.specs.declared.kind.KeyKind.TheVariants.{Text, I32, U32, I64, U64, F32, F64}

-- text compares by its bytes, unsigned, and then by length
abbrev pub text_cmp : List ℕ → List ℕ → Ordering
text_cmp = slice_cmp nat_cmp

-- the kinds that a tree may have
abbrev pub IsTreeKind : KeyKind → Type 0
IsTreeKind F32 = ⊥
IsTreeKind F64 = ⊥
IsTreeKind Text = Unit {0}
IsTreeKind I32 = Unit {0}
IsTreeKind U32 = Unit {0}
IsTreeKind I64 = Unit {0}
IsTreeKind U64 = Unit {0}

-- these bytes can be a key of the kind
abbrev pub IsKey : KeyKind → List ℕ → Type 0
IsKey Text bytes = (1 ≤ length bytes) × (length bytes ≤ 255)
IsKey I32 bytes = length bytes ≡ 4
IsKey U32 bytes = length bytes ≡ 4
IsKey I64 bytes = length bytes ≡ 8
IsKey U64 bytes = length bytes ≡ 8
IsKey F32 bytes = ⊥
IsKey F64 bytes = ⊥

-- the number that a key of a number kind is, the lowest byte first
unfoldable pub number_of : KeyKind → List ℕ → ℤ
number_of Text bytes = pos 0
number_of I32 bytes = cast_signed w32 (little_number 4 bytes)
number_of U32 bytes = pos (little_number 4 bytes)
number_of I64 bytes = cast_signed w64 (little_number 8 bytes)
number_of U64 bytes = pos (little_number 8 bytes)
number_of F32 bytes = pos 0
number_of F64 bytes = pos 0

-- the order of two keys of a kind
abbrev pub key_cmp : KeyKind → List ℕ → List ℕ → Ordering
key_cmp Text a b = text_cmp a b
key_cmp I32 a b = int_cmp (number_of I32 a) (number_of I32 b)
key_cmp U32 a b = int_cmp (number_of U32 a) (number_of U32 b)
key_cmp I64 a b = int_cmp (number_of I64 a) (number_of I64 b)
key_cmp U64 a b = int_cmp (number_of U64 a) (number_of U64 b)
key_cmp F32 a b = int_cmp (number_of F32 a) (number_of F32 b)
key_cmp F64 a b = int_cmp (number_of F64 a) (number_of F64 b)
