-- What a range answers.
use Rattle.std.specs.Prelude.{◌≡◌, ◌<◌, ℕ, List, map, length}
use Rattle.std.specs.List.{AllByRecursion}
use Rattle.bfs_base.specs.declared.kind.KeyKind.{KeyKind}
use Rattle.bfs_node.specs.Page.{Row, rows_of, row_in}
use Rattle.bfs_pages.specs.Answers.{IsLeafPage}
use Rattle.bfs_pages.specs.Trees.{page_in}
use Rattle.bfs_range.specs.declared.ranged.RangedRow.{RangedRow}
use Rattle.bfs_values.specs.Links.{link_in}
use Rattle.bfs_values.specs.Values.{IsReadable, values_in}

-- a row of an answer: the key, and the numbers that the value means
abbrev pub answer_row : List ℕ → Row → RangedRow
answer_row bytes r = record { key = r.0; numbers = values_in bytes r.1 }

abbrev pub answer_of : List ℕ → List Row → List RangedRow
answer_of bytes rows = map (answer_row bytes) rows

-- this is the page of a leaf
abbrev pub IsRead : KeyKind → List ℕ → ℕ → List ℕ → Type 0
IsRead kind bytes leaf page = (page ≡ page_in bytes leaf) × IsLeafPage kind (length bytes) page

-- a leaf of the stream has this row, and its value can be read
abbrev pub IsRowOf : KeyKind → List ℕ → Row → Type 0
IsRowOf kind bytes r = (leaf : ℕ) × IsLeafPage kind (length bytes) (page_in bytes leaf) × ((i : ℕ) × (i < length (rows_of (page_in bytes leaf))) × (r ≡ row_in (rows_of (page_in bytes leaf)) i)) × IsReadable bytes (link_in r.1)

-- each row of an answer is the key of such a row, with the numbers that its value means
abbrev pub IsAnswerOf : KeyKind → List ℕ → RangedRow → Type 0
IsAnswerOf kind bytes a = (r : Row) × IsRowOf kind bytes r × (a ≡ answer_row bytes r)

abbrev pub AreAnswers : KeyKind → List ℕ → List RangedRow → Type 0
AreAnswers kind bytes rows = AllByRecursion (IsAnswerOf kind bytes) rows
