-- What the steps of adding a number make of the bytes of a stream.
use Rattle.std.specs.Prelude.{◌≡◌, ◌<◌, ◌^◌, ℕ, List, [], ◌∷◌, length}
use Rattle.bfs_base.specs.declared.kind.KeyKind.{KeyKind}
use Rattle.bfs_node.specs.declared.header.Header.{Header}
use Rattle.bfs_pages.specs.Trees.{page_in, neighbours_in, IsTreeHeader}
use Rattle.bfs_pages.specs.Writes.{PageSet, IsTaken}
use Rattle.bfs_values.specs.Values.{IsDuplicates, page_count, page_numbers, next_of, placed}

-- a page is taken, and these are its bytes since
pub record IsPut (kind : KeyKind) (b c : List ℕ) (q : ℕ) (page : List ℕ) : Type 0 where
  pub middle : List ℕ
  pub header : Header
  pub good : IsTreeHeader kind (length middle) header
  pub taken : IsTaken kind b middle q header
  pub set : PageSet middle c q page

-- a duplicate page without a page to its right, with these numbers
pub record IsLast (page numbers : List ℕ) : Type 0 where
  pub good : IsDuplicates page
  pub next : (neighbours_in page).1 ≡ 0
  pub numbers_are : page_numbers page ≡ numbers

-- a duplicate page has one number more, and the neighbours that it had
pub record IsWidened (b c : List ℕ) (at number : ℕ) : Type 0 where
  pub page : List ℕ
  pub set : PageSet b c at page
  pub good : IsDuplicates page
  pub left : (neighbours_in page).0 ≡ (neighbours_in (page_in b at)).0
  pub next : (neighbours_in page).1 ≡ next_of b at
  pub numbers_are : page_numbers page ≡ placed number (page_numbers (page_in b at))

-- a page is taken for one number, and it is the right neighbour of a page, which has the numbers and the left neighbour that
-- it had, and is the left neighbour of the new page
pub record IsExtended (kind : KeyKind) (b c : List ℕ) (last q number : ℕ) : Type 0 where
  pub middle : List ℕ
  pub fresh : List ℕ
  pub put : IsPut kind b middle q fresh
  pub is_last : IsLast fresh (number ∷ [])
  pub names : last < 2 ^ 63 → (neighbours_in fresh).0 ≡ last
  pub page : List ℕ
  pub set : PageSet middle c last page
  pub next : (neighbours_in page).1 ≡ q
  pub left : (neighbours_in page).0 ≡ (neighbours_in (page_in b last)).0
  pub count : page_count page ≡ page_count (page_in b last)
  pub numbers_are : page_numbers page ≡ page_numbers (page_in b last)
