-- How rows stand in the bytes of a page.
use Rattle.std.specs.Prelude.{◌≡◌, ◌<◌, ◌≤◌, ℕ, ℤ, ◌+◌, ◌*◌, List, [], ◌∷◌, ◌++◌, length, take, drop, FitsSigned}
use Rattle.std.specs.Int.{w64}
use Rattle.bfs_bytes.specs.Fields.{unsigned_bytes, signed64_bytes}
use Rattle.bfs_node.specs.Page.{Row, value_of, row_in, keys_of, base_of, taken_by}

-- n bytes from a place on
abbrev pub part : List ℕ → ℕ → ℕ → List ℕ
part p at n = take n (drop at p)

-- p with these bytes at a place
abbrev pub with_part : List ℕ → ℕ → List ℕ → List ℕ
with_part p at bs = take at p ++ bs ++ drop (at + length bs) p

abbrev pub two : ℕ → List ℕ
two n = unsigned_bytes 2 n

abbrev pub eight : ℤ → List ℕ
eight z = signed64_bytes z

-- the ends of the keys, where the first begins at s
abbrev pub ends_of : ℕ → List Row → List ℕ
ends_of s [] = []
ends_of s (r ∷ rs) = two (s + length r.0) ++ ends_of (s + length r.0) rs

abbrev pub values_of : List Row → List ℕ
values_of [] = []
values_of (r ∷ rs) = eight r.1 ++ values_of rs

-- rows stand in a page, whose ends begin at base and whose values begin at values
pub record Written (p : List ℕ) (base values : ℕ) (rows : List Row) : Type 0 where
  pub keys : part p 28 (length (keys_of rows)) ≡ keys_of rows
  pub ends : part p base (2 * length rows) ≡ ends_of 0 rows
  pub values_are : part p values (8 * length rows) ≡ values_of rows

-- each value is a number of 64 bits
abbrev pub IsNumber : Row → Type 0
IsNumber row = FitsSigned w64 (value_of row)

abbrev pub AreNumbers : List Row → Type 0
AreNumbers rows = (m : ℕ) → m < length rows → IsNumber (row_in rows m)

-- these are the rows of a page
pub record Holds (p : List ℕ) (rows : List Row) : Type 0 where
  pub size : length p ≡ 1024
  pub count : part p 24 2 ≡ two (length rows)
  pub key_bytes : part p 26 2 ≡ two (length (keys_of rows))
  pub small : AreNumbers rows
  pub fits : taken_by (length rows) (length (keys_of rows)) ≤ 1024
  pub written : Written p (base_of (length (keys_of rows))) (base_of (length (keys_of rows)) + 2 * length rows) rows
