-- The header of a B+tree, its page 0, field by field.
use Rattle.std.specs.Prelude.{◌≡◌, ◌≤◌, ℕ, List, ◌++◌}
use Rattle.bfs_bytes.specs.Fields.{unsigned_at, signed64_at, unsigned_bytes, signed64_bytes}
use Rattle.bfs_base.specs.declared.kind.KeyKind.{KeyKind}
use Rattle.bfs_base.specs.declared.kind.KeyKind.TheVariants.{Text, I32, U32, I64, U64, F32, F64}
use Rattle.bfs_node.specs.declared.header.Header.{Header}

-- the fields of a page
abbrev pub header_at : List ℕ → Header
header_at page = record {
  magic = unsigned_at 4 page 0;
  node_size = unsigned_at 4 page 4;
  levels = unsigned_at 4 page 8;
  data_type = unsigned_at 4 page 12;
  root_pointer = signed64_at page 16;
  free_pointer = signed64_at page 24;
  maximum_size = signed64_at page 32;
}

-- the 40 bytes of these fields
unfoldable pub header_bytes : Header → List ℕ
header_bytes h =
    unsigned_bytes 4 h.magic ++ unsigned_bytes 4 h.node_size ++ unsigned_bytes 4 h.levels ++ unsigned_bytes 4 h.data_type
    ++ signed64_bytes h.root_pointer ++ signed64_bytes h.free_pointer ++ signed64_bytes h.maximum_size

-- the number that stands for a kind of keys
abbrev pub code_of : KeyKind → ℕ
code_of Text = 0
code_of I32 = 1
code_of U32 = 2
code_of I64 = 3
code_of U64 = 4
code_of F32 = 5
code_of F64 = 6

abbrev pub HasMagic : Header → Type 0
HasMagic h = h.magic ≡ 0x69f6c2e8

abbrev pub HasSize : Header → Type 0
HasSize h = h.node_size ≡ 1024

-- text, or one of the four kinds of whole numbers
abbrev pub HasKind : Header → Type 0
HasKind h = h.data_type ≤ 4

-- a header of a tree that is read here
pub record IsHeader (h : Header) : Type 0 where
  pub magic_is : HasMagic h
  pub size : HasSize h
  pub kind : HasKind h
