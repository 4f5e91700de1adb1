-- What stands behind a byte that a word spells, and whether a word is one.
use Rattle.std.specs.Prelude.{ℕ, List, [], ◌∷◌, Option, Some, None, Bool, true, false, ◌==◌, ◌&&◌, if◌then◌else◌}
use Rattle.std.specs.Option.{is_some}
use Rattle.bfs_text.specs.Cutting.{cut_at}
use Rattle.bfs_text.specs.Words.{byte_of, where_, unescaped, parts_of}

-- behind the two digits of an escape
abbrev pub behind_digits : List ℕ → Option (List ℕ)
behind_digits [] = None
behind_digits (c ∷ []) = None
behind_digits (c ∷ d ∷ bs) = where_ (is_some (byte_of false c d)) bs

-- behind the first byte that is spelled, where there is one and it is spelled right
abbrev pub behind_byte : List ℕ → Option (List ℕ)
behind_byte [] = None
behind_byte (b ∷ bs) = if b == 37 then behind_digits bs else Some bs

-- the parts are names, but that the first may have begun before them
abbrev pub are_more : List (List ℕ) → Bool
are_more [] = true
are_more (piece ∷ pieces) = is_some (unescaped piece) && is_some (parts_of pieces)

-- what is left of a path's parts, where a part is to begin, or within one
abbrev pub is_path_left : Bool → List ℕ → Bool
is_path_left fresh bytes = if fresh then is_some (parts_of (cut_at 47 bytes)) else are_more (cut_at 47 bytes)
