-- What the words of a script say. A word that is none has no value.
use Rattle.std.specs.Prelude.{ℕ, ℤ, zero, suc, pos, negsuc, ◌+◌, ◌-◌, ◌*◌, ◌^◌, List, [], ◌∷◌, ◌++◌, length, take, drop, Option, Some, None, Bool, true, false, not, ◌&&◌, ◌||◌, ◌==◌, nat_lt, nat_le, if◌then◌else◌, replicate}
use Rattle.std.specs.List.{list_all}
use Rattle.std.specs.Option.{option_map, option_and_then}
use Rattle.bfs_base.specs.declared.kind.KeyKind.{KeyKind}
use Rattle.bfs_base.specs.declared.kind.KeyKind.TheVariants as kinds
use Rattle.bfs_tree.specs.Listings.{code_of, bytes_of_key}
use Rattle.bfs_tree.specs.declared.rows.Key.{Key}
use Rattle.bfs_tree.specs.declared.rows.Key.TheVariants as keys
use Rattle.bfs_text.specs.Cutting.{cut_at}

-- both, where both are there
abbrev pub both : {A B : Type 0} → Option A → Option B → Option (A × B)
both None b = None
both (Some a) None = None
both (Some a) (Some b) = Some (a, b)

-- a value, where it passes a test
abbrev pub where_ : {A : Type 0} → Bool → A → Option A
where_ passes a = if passes then Some a else None

-- ---- numbers

-- the number that digits spell, behind those that spell n
abbrev pub spelled : ℕ → ℕ → List ℕ → ℕ
spelled base n [] = n
spelled base n (d ∷ ds) = spelled base (base * n + (d - 48)) ds

abbrev pub is_digit : ℕ → ℕ → Bool
is_digit base d = nat_le 48 d && nat_lt d (48 + base)

-- from so many to so many digits
abbrev pub is_number : ℕ → ℕ → ℕ → List ℕ → Bool
is_number base least most word = (nat_le least (length word) && nat_le (length word) most) && list_all (is_digit base) word

abbrev pub digits_of : ℕ → ℕ → ℕ → List ℕ → Option ℕ
digits_of base least most word = where_ (is_number base least most word) (spelled base 0 word)

-- a decimal number of 1 to 19 digits, and an octal one of 1 to 4
abbrev pub number_of : List ℕ → Option ℕ
number_of word = digits_of 10 1 19 word

abbrev pub octal_of : List ℕ → Option ℕ
octal_of word = digits_of 8 1 4 word

-- a number up to a limit
abbrev pub up_to : ℕ → Option ℕ → Option ℕ
up_to most None = None
up_to most (Some n) = where_ (nat_le n most) n

abbrev pub begins_with : ℕ → List ℕ → Bool
begins_with b [] = false
begins_with b (c ∷ cs) = c == b

-- a session: 1 to 16, without a leading zero
abbrev pub session_of : List ℕ → Option ℕ
session_of word = if begins_with 48 word then None else up_to 16 (digits_of 10 1 2 word)

-- ---- escapes

-- the value of a hexadecimal digit; where small letters count, `a` to `f` are digits too
abbrev pub hex_of : Bool → ℕ → Option ℕ
hex_of small d =
    if nat_le 48 d && nat_le d 57 then Some (d - 48)
    else if nat_le 65 d && nat_le d 70 then Some (d - 55)
    else if small && (nat_le 97 d && nat_le d 102) then Some (d - 87)
    else None

-- the byte of two hexadecimal digits
abbrev pub byte_of : Bool → ℕ → ℕ → Option ℕ
byte_of small high low = option_map (λ p. 16 * p.0 + p.1) (both (hex_of small high) (hex_of small low))

abbrev pub put_first : Option ℕ → Option (List ℕ) → Option (List ℕ)
put_first b bs = option_map (λ p. p.0 ∷ p.1) (both b bs)

-- the bytes of a word: `%` and two hexadecimal digits with large letters are that byte, and any other byte is itself
abbrev mutual
  pub unescaped : List ℕ → Option (List ℕ)
  unescaped [] = Some []
  unescaped (b ∷ bs) = if b == 37 then escaped bs else put_first (Some b) (unescaped bs)

  -- behind a `%`
  pub escaped : List ℕ → Option (List ℕ)
  escaped [] = None
  escaped (c ∷ []) = None
  escaped (c ∷ d ∷ bs) = put_first (byte_of false c d) (unescaped bs)

-- what was read, and more behind it where there is more
abbrev pub before : {A : Type 0} → List A → Option (List A) → Option (List A)
before xs None = None
before xs (Some more) = Some (xs ++ more)

-- a name, a target or a part of a path: its bytes, at least one of them
abbrev pub name_of : List ℕ → Option (List ℕ)
name_of [] = None
name_of (b ∷ bs) = unescaped (b ∷ bs)

-- the bytes of pairs of hexadecimal digits
abbrev pub hex_bytes : List ℕ → Option (List ℕ)
hex_bytes [] = Some []
hex_bytes (b ∷ []) = None
hex_bytes (b ∷ c ∷ bs) = put_first (byte_of true b c) (hex_bytes bs)

-- ---- paths

abbrev pub part_before : Option (List ℕ) → Option (List (List ℕ)) → Option (List (List ℕ))
part_before None more = None
part_before (Some name) more = before (name ∷ []) more

abbrev pub parts_of : List (List ℕ) → Option (List (List ℕ))
parts_of [] = Some []
parts_of (piece ∷ pieces) = part_before (name_of piece) (parts_of pieces)

-- behind the first slash: nothing, for the root, or parts with slashes between them
abbrev pub names_of : List ℕ → Option (List (List ℕ))
names_of [] = Some []
names_of (b ∷ bs) = parts_of (cut_at 47 (b ∷ bs))

-- a path begins with a slash
abbrev pub path_of : List ℕ → Option (List (List ℕ))
path_of [] = None
path_of (b ∷ bs) = if b == 47 then names_of bs else None

abbrev pub not_root : Option (List (List ℕ)) → Option (List (List ℕ))
not_root None = None
not_root (Some []) = None
not_root (Some (name ∷ names)) = Some (name ∷ names)

-- a path other than that of the root
abbrev pub node_of : List ℕ → Option (List (List ℕ))
node_of word = not_root (path_of word)

-- ---- bytes, values and keys

-- `:` and text, `#` and hexadecimal digits, or `*` and how many times the letter z
abbrev pub bytes_of : List ℕ → Option (List ℕ)
bytes_of [] = None
bytes_of (b ∷ bs) =
    if b == 58 then unescaped bs
    else if b == 35 then hex_bytes bs
    else if b == 42 then option_map (λ n. replicate n 122) (up_to 99999 (number_of bs))
    else None

-- a byte of a type code: a letter or a sign, but none of `%`, `:`, `#`, `*` and `=`
abbrev pub is_type_byte : ℕ → Bool
is_type_byte b = (nat_le 0x21 b && nat_le b 0x7e) && not ((b == 37) || (b == 58) || (b == 35) || (b == 42) || (b == 61))

abbrev pub is_type : List ℕ → Bool
is_type word = (length word == 4) && list_all is_type_byte word

-- a type code, the highest byte first
abbrev pub code_of_bytes : List ℕ → ℕ
code_of_bytes [] = 0
code_of_bytes (a ∷ []) = 0
code_of_bytes (a ∷ b ∷ []) = 0
code_of_bytes (a ∷ b ∷ c ∷ []) = 0
code_of_bytes (a ∷ b ∷ c ∷ d ∷ bs) = 256 * (256 * (256 * a + b) + c) + d

abbrev pub type_of : List ℕ → Option ℕ
type_of word = where_ (is_type word) (code_of_bytes word)

-- a decimal number of any length
abbrev pub decimal_of : List ℕ → Option ℕ
decimal_of word = where_ (nat_lt 0 (length word) && list_all (is_digit 10) word) (spelled 10 0 word)

-- an optional `-`, and decimal digits: whether it is below zero, and how far it is from zero
abbrev pub integer_of : List ℕ → Option (Bool × ℕ)
integer_of [] = None
integer_of (b ∷ bs) = if b == 45 then option_map (λ n. (true, n)) (decimal_of bs) else option_map (λ n. (false, n)) (decimal_of (b ∷ bs))

abbrev pub minus : ℕ → ℤ
minus zero = pos 0
minus (suc n) = negsuc n

-- a number of a signed type, of so many values below zero as from zero on
abbrev pub signed_in : ℕ → Bool × ℕ → Option ℤ
signed_in half n = if n.0 then where_ (nat_le n.1 half) (minus n.1) else where_ (nat_lt n.1 half) (pos n.1)

-- a number of a type without a sign, of so many values
abbrev pub unsigned_in : ℕ → Bool × ℕ → Option ℕ
unsigned_in values n = if n.0 then where_ (n.1 == 0) 0 else where_ (nat_lt n.1 values) n.1

abbrev pub i32_of : List ℕ → Option ℤ
i32_of text = option_and_then (signed_in (2 ^ 31)) (integer_of text)

abbrev pub u32_of : List ℕ → Option ℕ
u32_of text = option_and_then (unsigned_in (2 ^ 32)) (integer_of text)

abbrev pub i64_of : List ℕ → Option ℤ
i64_of text = option_and_then (signed_in (2 ^ 63)) (integer_of text)

abbrev pub u64_of : List ℕ → Option ℕ
u64_of text = option_and_then (unsigned_in (2 ^ 64)) (integer_of text)

-- the text of a key, by the kind of the index that its type names
abbrev pub keyed : ℕ → List ℕ → Option Key
keyed code text =
    if code == code_of kinds.I32 then option_map keys.I32 (i32_of text)
    else if code == code_of kinds.U32 then option_map keys.U32 (u32_of text)
    else if code == code_of kinds.I64 then option_map keys.I64 (i64_of text)
    else if code == code_of kinds.U64 then option_map keys.U64 (u64_of text)
    else if code == code_of kinds.Text then option_map keys.Text (unescaped text)
    else None

abbrev pub is_number_code : ℕ → Bool
is_number_code code = (code == code_of kinds.I32) || (code == code_of kinds.U32) || (code == code_of kinds.I64) || (code == code_of kinds.U64)

-- The bytes of a value's text, by its type: a number's, the lowest first; those of CSTR with a zero behind them; or the text's own.
abbrev pub text_bytes : ℕ → List ℕ → Option (List ℕ)
text_bytes code text =
    if is_number_code code then option_map bytes_of_key (keyed code text)
    else if code == code_of kinds.Text then option_map (λ bytes. bytes ++ (0 ∷ [])) (unescaped text)
    else unescaped text

-- the bytes of a value behind its type: behind `:` the type says what the text means
abbrev pub typed_bytes : ℕ → List ℕ → Option (List ℕ)
typed_bytes code [] = None
typed_bytes code (b ∷ bs) = if b == 58 then text_bytes code bs else bytes_of (b ∷ bs)

abbrev pub with_code : List ℕ → Option ℕ → Option (ℕ × List ℕ)
with_code rest None = None
with_code rest (Some code) = option_map (λ bytes. (code, bytes)) (typed_bytes code rest)

-- an attribute's value: its type and its bytes
abbrev pub value_of : List ℕ → Option (ℕ × List ℕ)
value_of word = with_code (drop 4 word) (type_of (take 4 word))

abbrev pub key_behind : ℕ → List ℕ → Option Key
key_behind code [] = None
key_behind code (b ∷ bs) = if b == 58 then keyed code bs else None

-- a key: one of the five types of indices, `:`, and the number or the text
abbrev pub key_of : List ℕ → Option Key
key_of word = option_and_then (λ code. key_behind code (drop 4 word)) (type_of (take 4 word))

-- the kind of an index, by its type code
abbrev pub kind_by : ℕ → Option KeyKind
kind_by code =
    if code == code_of kinds.Text then Some kinds.Text
    else if code == code_of kinds.I32 then Some kinds.I32
    else if code == code_of kinds.U32 then Some kinds.U32
    else if code == code_of kinds.I64 then Some kinds.I64
    else if code == code_of kinds.U64 then Some kinds.U64
    else if code == code_of kinds.F32 then Some kinds.F32
    else if code == code_of kinds.F64 then Some kinds.F64
    else None

abbrev pub kind_of : List ℕ → Option KeyKind
kind_of word = option_and_then kind_by (type_of word)
