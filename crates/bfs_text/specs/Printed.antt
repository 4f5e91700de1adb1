-- How words, numbers and replies are printed.
use Rattle.std.specs.Prelude.{ℕ, ℤ, ◌+◌, ◌-◌, ◌/◌, ◌%◌, List, [], ◌∷◌, ◌++◌, length, Option, Some, None, Bool, true, false, not, ◌&&◌, ◌||◌, ◌==◌, nat_lt, nat_le, if◌then◌else◌, codes, decimal}
use Rattle.std.specs.List.{flat_map}
use Rattle.std.specs.Fmt.{signed_decimal}
use Rattle.bfs_tree.specs.declared.call.Kind.{Kind}
use Rattle.bfs_tree.specs.declared.call.Kind.TheVariants.{File, Dir, Link}
use Rattle.bfs_tree.specs.declared.call.Call.{Call}
use Rattle.bfs_tree.specs.declared.call.Call.TheVariants as calls
use Rattle.bfs_tree.specs.declared.reply.Info.{Info}
use Rattle.bfs_tree.specs.declared.reply.Reply.{Reply}
use Rattle.bfs_tree.specs.declared.reply.Reply.TheVariants as replies
use Rattle.bfs_tree.specs.declared.reply.Entry.{Entry}
use Rattle.bfs_tree.specs.declared.rows.Key.{Key}
use Rattle.bfs_tree.specs.declared.rows.Key.TheVariants as keys
use Rattle.bfs_tree.specs.declared.rows.AttributeRow.{AttributeRow}
use Rattle.bfs_tree.specs.declared.rows.IndexRow.{IndexRow}
use Rattle.bfs_tree.specs.declared.rows.FoundRow.{FoundRow}
use Rattle.bfs_tree.specs.Listings.{code_of}

-- ---- words

-- a hexadecimal digit, with large letters or small ones from this byte on
abbrev pub hex_digit : ℕ → ℕ → ℕ
hex_digit letter n = if nat_lt n 10 then 48 + n else letter + (n - 10)

-- a byte that stands for itself: a letter, a digit or a sign, but neither `%` nor `=`
abbrev pub is_plain : ℕ → Bool
is_plain b = (nat_le 0x21 b && nat_le b 0x7e) && not ((b == 37) || (b == 61))

-- any other byte is `%` and two hexadecimal digits with large letters
abbrev pub escape : ℕ → List ℕ
escape b = if is_plain b then b ∷ [] else 37 ∷ hex_digit 65 (b / 16) ∷ hex_digit 65 (b % 16) ∷ []

abbrev pub word : List ℕ → List ℕ
word bytes = flat_map escape bytes

-- two hexadecimal digits with small letters
abbrev pub hex : ℕ → List ℕ
hex b = hex_digit 97 (b / 16) ∷ hex_digit 97 (b % 16) ∷ []

-- how many bytes there are, and where there are any, a space and the bytes in hexadecimal digits
abbrev pub counted : List ℕ → List ℕ
counted [] = codes "0"
counted (b ∷ bytes) = decimal (length (b ∷ bytes)) ++ (32 ∷ flat_map hex (b ∷ bytes))

-- a type's four bytes, the highest first
abbrev pub type_word : ℕ → List ℕ
type_word code = word (code / 16777216 % 256 ∷ code / 65536 % 256 ∷ code / 256 % 256 ∷ code % 256 ∷ [])

-- four octal digits
abbrev pub octal : ℕ → List ℕ
octal n = (48 + n / 512 % 8) ∷ (48 + n / 64 % 8) ∷ (48 + n / 8 % 8) ∷ (48 + n % 8) ∷ []

abbrev pub kind_word : Kind → List ℕ
kind_word File = codes "file"
kind_word Dir = codes "dir"
kind_word Link = codes "link"

abbrev pub key_word : Key → List ℕ
key_word (keys.Text bytes) = word bytes
key_word (keys.I32 z) = signed_decimal z
key_word (keys.U32 n) = decimal n
key_word (keys.I64 z) = signed_decimal z
key_word (keys.U64 n) = decimal n

-- the root has no name, and stands as a slash
abbrev pub name_word : List ℕ → List ℕ
name_word [] = codes "/"
name_word (b ∷ bytes) = word (b ∷ bytes)

-- ---- replies

-- a space and a name
abbrev pub named : List ℕ → List ℕ
named name = 32 ∷ word name

-- a space, a type, `=` and a name
abbrev pub attribute_row : AttributeRow → List ℕ
attribute_row row = 32 ∷ (type_word row.kind ++ (61 ∷ word row.name))

abbrev pub index_row : IndexRow → List ℕ
index_row row = 32 ∷ (type_word (code_of row.kind) ++ (61 ∷ word row.name))

abbrev pub found_row : FoundRow → List ℕ
found_row row = 32 ∷ (key_word row.key ++ (61 ∷ name_word row.name))

-- how many rows there are, and the rows
abbrev pub listed : {A : Type 0} → (A → List ℕ) → List A → List ℕ
listed row rows = codes "ok " ++ (decimal (length rows) ++ flat_map row rows)

-- a space and a number
unfoldable pub and_number : ℕ → List ℕ
and_number n = 32 ∷ decimal n

unfoldable pub and_stamp : ℤ → List ℕ
and_stamp z = 32 ∷ signed_decimal z

-- a node's mode, user and group; its size, and when it was made, its content changed, and it changed
abbrev pub owner_words : Info → List ℕ
owner_words i = 32 ∷ (octal i.mode ++ (and_stamp i.uid ++ and_stamp i.gid))

abbrev pub stamp_words : Info → List ℕ
stamp_words i = and_number i.size ++ (and_stamp i.created ++ (and_stamp i.modified ++ and_stamp i.changed))

abbrev pub info_words : Info → List ℕ
info_words i = codes "ok " ++ (kind_word i.kind ++ (owner_words i ++ stamp_words i))

abbrev pub words_of_reply : Reply → List ℕ
words_of_reply (replies.Made id) = codes "ok"
words_of_reply replies.Done = codes "ok"
words_of_reply (replies.Found id kind) = codes "ok"
words_of_reply (replies.Names names) = listed named names
words_of_reply (replies.Info info) = info_words info
words_of_reply (replies.Target bytes) = codes "ok " ++ word bytes
words_of_reply (replies.Attr kind bytes) = codes "ok " ++ (type_word kind ++ (32 ∷ counted bytes))
words_of_reply (replies.Attrs rows) = listed attribute_row rows
words_of_reply (replies.Indices rows) = listed index_row rows
words_of_reply (replies.Rows rows) = listed found_row rows
words_of_reply (replies.Synced upto) = codes "ok"
words_of_reply replies.NotFound = codes "notfound"
words_of_reply replies.NotDir = codes "notdir"
words_of_reply replies.NotFile = codes "notfile"
words_of_reply replies.NotLink = codes "notlink"
words_of_reply replies.NameBad = codes "namebad"
words_of_reply replies.TooBig = codes "toobig"
words_of_reply replies.Exists = codes "exists"
words_of_reply replies.NotEmpty = codes "notempty"
words_of_reply replies.Inside = codes "inside"
words_of_reply replies.NoAttr = codes "noattr"
words_of_reply replies.FloatIndex = codes "floatindex"
words_of_reply replies.IndexCount = codes "indexcount"
words_of_reply replies.NoIndex = codes "noindex"
words_of_reply replies.BuiltIn = codes "builtin"
words_of_reply replies.KeyKind = codes "keykind"
words_of_reply (replies.PastEnd size) = codes "pastend" ++ and_number size
words_of_reply (replies.Held session) = codes "held"
words_of_reply (replies.NoSpace free needed) = codes "nospace" ++ and_number free
words_of_reply (replies.NoLogRoom blocks room) = codes "nologroom" ++ (and_number blocks ++ and_number room)
words_of_reply (replies.DiskFault before after stops) = codes "diskfault"
words_of_reply (replies.Stopped durable faults) = codes "stopped" ++ and_number durable
words_of_reply (replies.Damaged block) = codes "damaged" ++ and_number block

-- ---- kinds of replies

abbrev pub is_done : Reply → Bool
is_done replies.Done = true
is_done _ = false

abbrev pub is_found : Reply → Bool
is_found (replies.Found id kind) = true
is_found _ = false

abbrev pub is_held : Reply → Bool
is_held (replies.Held session) = true
is_held _ = false
