-- Which nodes an index lists, under which keys.
use Rattle.std.specs.Prelude.{ℕ, List, [], ◌∷◌, Option, Some, None, Bool, not, ◌&&◌, ◌==◌, if◌then◌else◌, length, take, map as each, codes}
use Rattle.std.specs.List.{filter, filter_map, take_while}
use Rattle.std.specs.Str.{bytes_eq}
use Rattle.std.specs.Option.{option_map, option_and_then, option_map_or}
use Rattle.std.specs.declared.cmp.Ordering.{Ordering}
use Rattle.std.specs.Ordering.{nat_cmp, ordering_then, is_le}
use Rattle.std.specs.FinMap.{get, entries}
use Rattle.byteorder.specs.Endian.{little_number}
use Rattle.bfs_bytes.specs.Fields.{unsigned_bytes, signed32_bytes, signed64_bytes}
use Rattle.bfs_base.specs.Keys.{key_cmp, number_of}
use Rattle.bfs_base.specs.declared.kind.KeyKind.{KeyKind}
use Rattle.bfs_base.specs.declared.kind.KeyKind.TheVariants as kinds
use Rattle.bfs_tree.specs.declared.rows.Key.{Key}
use Rattle.bfs_tree.specs.declared.rows.Key.TheVariants as keys
use Rattle.bfs_tree.specs.declared.rows.FoundRow.{FoundRow}
use Rattle.bfs_tree.specs.Orders.{placed, in_order}
use Rattle.bfs_tree.specs.Trees.{Node, Nodes, Tree, Attribute, is_file}

-- the type code of the attributes that an index of this kind lists: CSTR, LONG, ULNG, LLNG, ULLG, FLOT and DBLE, four letters each
abbrev pub code_of : KeyKind → ℕ
code_of kinds.Text = 0x43535452
code_of kinds.I32 = 0x4c4f4e47
code_of kinds.U32 = 0x554c4e47
code_of kinds.I64 = 0x4c4c4e47
code_of kinds.U64 = 0x554c4c47
code_of kinds.F32 = 0x464c4f54
code_of kinds.F64 = 0x44424c45

-- these bytes, unless they are empty
abbrev pub unless_empty : List ℕ → Option (List ℕ)
unless_empty [] = None
unless_empty (b ∷ bs) = Some (b ∷ bs)

-- these bytes, where there are just so many
abbrev pub of_length : ℕ → List ℕ → Option (List ℕ)
of_length n bytes = if length bytes == n then Some bytes else None

-- The key that an attribute's bytes give an index. Text is what stands before the first zero, cut to 255 bytes, and an
-- empty text gives none. A number is the bytes themselves, where there are exactly as many as the kind has.
abbrev pub key_of_bytes : KeyKind → List ℕ → Option (List ℕ)
key_of_bytes kinds.Text bytes = unless_empty (take 255 (take_while (λ b. not (b == 0)) bytes))
key_of_bytes kinds.I32 bytes = of_length 4 bytes
key_of_bytes kinds.U32 bytes = of_length 4 bytes
key_of_bytes kinds.I64 bytes = of_length 8 bytes
key_of_bytes kinds.U64 bytes = of_length 8 bytes
key_of_bytes kinds.F32 bytes = None
key_of_bytes kinds.F64 bytes = None

-- an attribute is listed where its type is the index's
abbrev pub key_of_attribute : KeyKind → Attribute → Option (List ℕ)
key_of_attribute kind a = if a.code == code_of kind then key_of_bytes kind a.bytes else None

-- The key under which an index lists a node, as bytes. `name` lists all nodes but the root by name. `size` and
-- `last_modified` list the files, by size and by the stamp of the last change of the content. Any other index lists
-- each node, the root too, that has an attribute of the index's name and type.
abbrev pub key_in : ℕ → List ℕ → KeyKind → ℕ → Node → Option (List ℕ)
key_in root index kind id node =
    if bytes_eq index (codes "name") then (if id == root then None else Some node.name)
    else if bytes_eq index (codes "size") then (if is_file node.kind then Some (unsigned_bytes 8 node.size) else None)
    else if bytes_eq index (codes "last_modified") then (if is_file node.kind then Some (signed64_bytes node.modified) else None)
    else option_and_then (key_of_attribute kind) (get node.attributes index)

-- by key, then by id
abbrev pub pair_cmp : KeyKind → List ℕ × ℕ → List ℕ × ℕ → Ordering
pair_cmp kind a b = ordering_then (key_cmp kind a.0 b.0) (nat_cmp a.1 b.1)

-- of these nodes, the pairs of key and id of those that the index lists
abbrev pub pairs_in : ℕ → List ℕ → KeyKind → List (ℕ × Node) → List (List ℕ × ℕ)
pairs_in root index kind nodes = filter_map (λ e. option_map (λ key. (key, e.0)) (key_in root index kind e.0 e.1)) nodes

-- of these nodes, the pairs of those that the index lists, by key, then by id
abbrev pub listed_among : ℕ → List ℕ → KeyKind → List (ℕ × Node) → List (List ℕ × ℕ)
listed_among root index kind nodes = in_order (pair_cmp kind) (pairs_in root index kind nodes)

-- Listed: the pairs of key and id of all nodes that match the index's rule, by key, then by id
abbrev pub listed : Tree → List ℕ → KeyKind → List (List ℕ × ℕ)
listed tree index kind = listed_among tree.root index kind (entries tree.nodes)

-- the key under which an index lists the node of an id, if it is there and the index does
abbrev pub key_at : Tree → List ℕ → KeyKind → ℕ → Option (List ℕ)
key_at tree index kind id = option_and_then (key_in tree.root index kind id) (get tree.nodes id)

-- pairs without those of a node
abbrev pub without_id : ℕ → List (List ℕ × ℕ) → List (List ℕ × ℕ)
without_id id pairs = filter (λ pair. not (pair.1 == id)) pairs

-- pairs with one of a node in its place, if it has a key
abbrev pub with_key : KeyKind → ℕ → Option (List ℕ) → List (List ℕ × ℕ) → List (List ℕ × ℕ)
with_key kind id None pairs = pairs
with_key kind id (Some key) pairs = placed (pair_cmp kind) pairs (key, id)

-- the pairs of a node go, and the pair of its new key comes, if it has one
abbrev pub relisted : KeyKind → ℕ → Option (List ℕ) → List (List ℕ × ℕ) → List (List ℕ × ℕ)
relisted kind id key pairs = with_key kind id key (without_id id pairs)

-- a key's kind, and its bytes as they stand in a page of the index
abbrev pub kind_of_key : Key → KeyKind
kind_of_key (keys.Text bytes) = kinds.Text
kind_of_key (keys.I32 z) = kinds.I32
kind_of_key (keys.U32 n) = kinds.U32
kind_of_key (keys.I64 z) = kinds.I64
kind_of_key (keys.U64 n) = kinds.U64

abbrev pub bytes_of_key : Key → List ℕ
bytes_of_key (keys.Text bytes) = bytes
bytes_of_key (keys.I32 z) = signed32_bytes z
bytes_of_key (keys.U32 n) = unsigned_bytes 4 n
bytes_of_key (keys.I64 z) = signed64_bytes z
bytes_of_key (keys.U64 n) = unsigned_bytes 8 n

-- the key that these bytes are; there is no index of a float kind
abbrev pub key_from : KeyKind → List ℕ → Key
key_from kinds.Text bytes = keys.Text bytes
key_from kinds.I32 bytes = keys.I32 (number_of kinds.I32 bytes)
key_from kinds.U32 bytes = keys.U32 (little_number 4 bytes)
key_from kinds.I64 bytes = keys.I64 (number_of kinds.I64 bytes)
key_from kinds.U64 bytes = keys.U64 (little_number 8 bytes)
key_from kinds.F32 bytes = keys.Text bytes
key_from kinds.F64 bytes = keys.Text bytes

abbrev pub name_of : Nodes → ℕ → List ℕ
name_of nodes id = option_map_or (λ n. n.name) (get nodes id) []

-- the key lies between two keys, both ends included
abbrev pub is_between : KeyKind → List ℕ → List ℕ → List ℕ × ℕ → Bool
is_between kind low high pair = is_le (key_cmp kind low pair.0) && is_le (key_cmp kind pair.0 high)

abbrev pub found_row : Nodes → KeyKind → List ℕ × ℕ → FoundRow
found_row nodes kind pair = record { key = key_from kind pair.0; id = pair.1; name = name_of nodes pair.1 }

-- the pairs of Listed with key from low to high, each with its node's name
abbrev pub rows_between : Tree → List ℕ → KeyKind → Key → Key → List FoundRow
rows_between tree index kind low high = each (found_row tree.nodes kind) (filter (is_between kind (bytes_of_key low) (bytes_of_key high)) (listed tree index kind))
