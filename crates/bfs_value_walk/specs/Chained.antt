-- A chain of duplicate pages, as far as it was walked over.
use Rattle.std.specs.Prelude.{◌≡◌, ◌≤◌, ◌/◌, ℕ, ◌+◌, List, ◌++◌, length, Option, Some, None}
use Rattle.bfs_base.specs.Lists.{times, Has, IsOnce}
use Rattle.bfs_base.specs.declared.kind.KeyKind.{KeyKind}
use Rattle.bfs_values.specs.Values.{EndsAfter, AreDuplicates, chain_from, chain_of, numbers_of_pages, in_order}
use Rattle.bfs_values.specs.Reached.{Ends}
use Rattle.bfs_finding.specs.TreeFaults.{IsMetTwice}
use Rattle.bfs_finding.specs.Walks.{chain_pages}

-- `done` was walked over, and has these numbers; the chain goes on at a place, over at most so many pages. `before` says how often a
-- page was met before the chain was, and `seen` how often it was since.
pub record IsChaining (bytes : List ℕ) (first : ℕ) (done : List ℕ) (left at : ℕ) (numbers : List ℕ) (before seen : ℕ → ℕ) : Type 0 where
  pub all : chain_of bytes first ≡ done ++ chain_from bytes left at
  pub ends : (n : ℕ) → EndsAfter bytes n at → Ends bytes first
  pub good : AreDuplicates bytes done
  pub are : numbers ≡ numbers_of_pages bytes done
  pub count : (x : ℕ) → seen x ≡ before x + times x done
  pub long : length done + left ≡ length bytes / 1024

-- the chain comes to an end, is one of duplicate pages with these numbers, and its pages were met too
pub record IsChained (bytes : List ℕ) (first : ℕ) (numbers : List ℕ) (before seen : ℕ → ℕ) : Type 0 where
  pub ends : Ends bytes first
  pub good : AreDuplicates bytes (chain_of bytes first)
  pub are : numbers ≡ numbers_of_pages bytes (chain_of bytes first)
  pub count : (x : ℕ) → seen x ≡ before x + times x (chain_of bytes first)

-- the pages of this chain are reached by a value of the tree, and one of them that was met before, or is there twice, is met twice
pub record IsOwn (kind : KeyKind) (bytes : List ℕ) (first : ℕ) (before : ℕ → ℕ) : Type 0 where
  pub pages : (x : ℕ) → Has (chain_of bytes first) x → Has (chain_pages kind bytes) x
  pub twice : (x : ℕ) → 1 ≤ x → 2 ≤ before x + times x (chain_of bytes first) → IsMetTwice kind bytes x

-- numbers put in ascending order, where none of them stands twice; none where one does
abbrev pub IsInTurn : List ℕ → Option (List ℕ) → Type 0
IsInTurn numbers None = ¬ IsOnce numbers
IsInTurn numbers (Some ns) = IsOnce numbers × (ns ≡ in_order numbers)
