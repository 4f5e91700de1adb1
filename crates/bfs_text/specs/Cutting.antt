-- How bytes are cut into lines, and a line into words.
use Rattle.std.specs.Prelude.{ℕ, List, [], ◌∷◌, Option, Some, None, ◌==◌, if◌then◌else◌}
use Rattle.std.specs.Borrow.{Bor}

-- the pieces with a byte more at the front of the first one
abbrev pub joined : ℕ → List (List ℕ) → List (List ℕ)
joined b [] = (b ∷ []) ∷ []
joined b (piece ∷ pieces) = (b ∷ piece) ∷ pieces

-- The pieces between separators. There is one more of them than separators, and each may be empty.
abbrev pub cut_at : ℕ → List ℕ → List (List ℕ)
cut_at sep [] = [] ∷ []
cut_at sep (b ∷ bs) = if b == sep then [] ∷ cut_at sep bs else joined b (cut_at sep bs)

-- The lines. A line feed ends each of them; the last may lack it.
abbrev pub lines_of : List ℕ → List (List ℕ)
lines_of [] = []
lines_of (b ∷ bs) = if b == 10 then [] ∷ lines_of bs else joined b (lines_of bs)

-- the words of a line, between single spaces
abbrev pub words_of : List ℕ → List (List ℕ)
words_of line = cut_at 32 line

-- the pieces that are still to come: none behind the last one
abbrev pub pieces_left : ℕ → Option (Bor (List ℕ)) → List (List ℕ)
pieces_left sep None = []
pieces_left sep (Some bytes) = cut_at sep bytes.now
