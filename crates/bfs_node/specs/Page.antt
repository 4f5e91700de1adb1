-- A page of a B+tree as a list of rows, each a key and a value, and three links.
use Rattle.std.specs.Prelude.{◌≡◌, ◌<◌, ◌≤◌, ℕ, ℤ, pos, negsuc, ◌+◌, ◌-◌, ◌*◌, ◌/◌, zero, suc, List, [], ◌∷◌, ◌++◌, length, take, drop, get_or, replicate}
use Rattle.bfs_bytes.specs.Fields.{unsigned_at, signed64_at, unsigned_bytes, signed64_bytes}
use Rattle.bfs_base.specs.declared.kind.KeyKind.{KeyKind}
use Rattle.bfs_base.specs.declared.kind.KeyKind.TheVariants.{Text, I32, U32, I64, U64, F32, F64}
use Rattle.bfs_node.specs.declared.links.Links.{Links}

abbrev pub Row : Type 0
Row = List ℕ × ℤ

abbrev pub key_of : Row → List ℕ
key_of r = r.0

abbrev pub value_of : Row → ℤ
value_of r = r.1

-- the row at a place of a list
abbrev pub row_in : List Row → ℕ → Row
row_in rows i = get_or rows i ([], pos 0)

-- the number of keys, and of the keys' bytes
abbrev pub count_at : List ℕ → ℕ
count_at page = unsigned_at 2 page 24

abbrev pub key_bytes_at : List ℕ → ℕ
key_bytes_at page = unsigned_at 2 page 26

-- where the keys' ends begin, behind so many bytes of keys: 28 + bytes, rounded up to 8
abbrev pub base_of : ℕ → ℕ
base_of bytes = (28 + bytes + 7) / 8 * 8

-- the bytes of a page that n rows with so many bytes of keys take: two for each key's end, eight for each value
abbrev pub taken_by : ℕ → ℕ → ℕ
taken_by n bytes = base_of bytes + 10 * n

abbrev pub base_at : List ℕ → ℕ
base_at page = base_of (key_bytes_at page)

-- where a key ends, and where it starts, counted from the first key: it starts where the one before it ends
abbrev pub end_at : List ℕ → ℕ → ℕ
end_at page j = unsigned_at 2 page (base_at page + 2 * j)

abbrev pub start_at : List ℕ → ℕ → ℕ
start_at page zero = 0
start_at page (suc j) = end_at page j

abbrev pub row_at : List ℕ → ℕ → Row
row_at page j =
    (take (end_at page j - start_at page j) (drop (28 + start_at page j) page), signed64_at page (base_at page + 2 * count_at page + 8 * j))

-- n rows, from row j on
abbrev pub rows_from : List ℕ → ℕ → ℕ → List Row
rows_from page j zero = []
rows_from page j (suc n) = row_at page j ∷ rows_from page (j + 1) n

-- the rows of a page
unfoldable pub rows_of : List ℕ → List Row
rows_of page = rows_from page 0 (count_at page)

-- the keys of rows, one after another
abbrev pub keys_of : List Row → List ℕ
keys_of [] = []
keys_of (r ∷ rs) = r.0 ++ keys_of rs

abbrev pub left_of : List ℕ → ℤ
left_of page = signed64_at page 0

abbrev pub right_of : List ℕ → ℤ
right_of page = signed64_at page 8

abbrev pub overflow_of : List ℕ → ℤ
overflow_of page = signed64_at page 16

abbrev pub links_of : List ℕ → Links
links_of page = record { left = left_of page; right = right_of page; overflow = overflow_of page }

abbrev pub null_links : Links
null_links = record { left = negsuc 0; right = negsuc 0; overflow = negsuc 0 }

-- rows and links beside the kind of the keys
pub record Page : Type 0 where
  pub kind : KeyKind
  pub rows : List Row
  pub links : Links

abbrev pub page_of : KeyKind → List ℕ → Page
page_of kind page = record { kind = kind; rows = rows_of page; links = links_of page }

-- the first 28 bytes of a page: links, number of keys, number of their bytes
unfoldable pub head_bytes : Links → ℕ → ℕ → List ℕ
head_bytes links count bytes =
    signed64_bytes links.left ++ signed64_bytes links.right ++ signed64_bytes links.overflow ++ unsigned_bytes 2 count ++ unsigned_bytes 2 bytes

-- the page with no rows and three null links, and zeros behind its head
unfoldable pub blank_page : List ℕ
blank_page = head_bytes null_links 0 0 ++ replicate 996 0

-- how many bytes a key of a kind has, at least and at most; a tree of a floating point kind has no keys here
abbrev pub least_key : KeyKind → ℕ
least_key Text = 1
least_key I32 = 4
least_key U32 = 4
least_key I64 = 8
least_key U64 = 8
least_key F32 = 1
least_key F64 = 1

abbrev pub most_key : KeyKind → ℕ
most_key Text = 255
most_key I32 = 4
most_key U32 = 4
most_key I64 = 8
most_key U64 = 8
most_key F32 = 0
most_key F64 = 0

abbrev pub IsKeyLength : KeyKind → ℕ → Type 0
IsKeyLength kind n = (least_key kind ≤ n) × (n ≤ most_key kind)

-- each key has a length of its kind
abbrev pub HasKeys : KeyKind → List Row → Type 0
HasKeys kind rows = (j : ℕ) → j < length rows → IsKeyLength kind (length (key_of (row_in rows j)))

-- the keys, their ends and the values fit into the page
abbrev pub HasBounds : List ℕ → Type 0
HasBounds page = taken_by (count_at page) (key_bytes_at page) ≤ 1024

-- a key doesn't end before it starts, and has a length of its kind
abbrev pub HasEnd : KeyKind → List ℕ → ℕ → Type 0
HasEnd kind page j = (start_at page j ≤ end_at page j) × IsKeyLength kind (end_at page j - start_at page j)

-- the last key ends where the keys' bytes do; where there is no key, there are no such bytes
abbrev pub HasLastEnd : List ℕ → Type 0
HasLastEnd page = start_at page (count_at page) ≡ key_bytes_at page

-- the rows of a page can be read: they fit into it, and the keys stand one behind another
pub record HasLayout (page : List ℕ) : Type 0 where
  pub size : length page ≡ 1024
  pub bounds : HasBounds page
  pub ascend : (j : ℕ) → j < count_at page → start_at page j ≤ end_at page j
  pub last : HasLastEnd page

-- a page of this kind of keys
pub record IsPage (kind : KeyKind) (page : List ℕ) : Type 0 where
  pub layout : HasLayout page
  pub keys : HasKeys kind (rows_of page)

-- there is room in a page of these rows for one more, with this key
abbrev pub HasRoom : List Row → List ℕ → Type 0
HasRoom rows key = taken_by (length rows + 1) (length (keys_of rows) + length key) ≤ 1024
