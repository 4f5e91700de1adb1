-- Which names are refused, and which targets.
use Rattle.std.specs.Prelude.{ℕ, List, [], ◌∷◌, length, Bool, false, not, ◌||◌, ◌==◌, nat_lt, codes}
use Rattle.std.specs.List.{list_any}
use Rattle.std.specs.Str.{bytes_eq, is_utf8}
use Rattle.bfs_tree.specs.declared.call.MakeKind.{MakeKind}
use Rattle.bfs_tree.specs.declared.call.MakeKind.TheVariants.{File, Dir, Link}

-- the bytes have this one among them
abbrev pub has_byte : ℕ → List ℕ → Bool
has_byte b bytes = list_any (λ c. c == b) bytes

-- A name is bad where it is empty, longer than 255 bytes, not UTF-8, has a slash or a zero byte, or is `.` or `..`.
abbrev pub is_bad_name : List ℕ → Bool
is_bad_name name =
    (length name == 0) || nat_lt 255 (length name) || not (is_utf8 name) || has_byte 47 name || has_byte 0 name || bytes_eq name (codes ".") || bytes_eq name (codes "..")

-- An attribute's name is bad too where it is the one byte 0x13.
abbrev pub is_bad_attribute_name : List ℕ → Bool
is_bad_attribute_name name = is_bad_name name || bytes_eq name (19 ∷ [])

-- A link's target is bad where it is empty or has a zero byte. Other nodes have none.
abbrev pub is_bad_target : MakeKind → Bool
is_bad_target File = false
is_bad_target Dir = false
is_bad_target (Link target) = (length target == 0) || has_byte 0 target

abbrev pub target_of : MakeKind → List ℕ
target_of File = []
target_of Dir = []
target_of (Link target) = target
