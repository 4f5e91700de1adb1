-- The rows of a tree that were read, with the numbers of their values.
use Rattle.std.specs.Prelude.{◌≡◌, ◌<◌, ◌+◌, ℕ, List, Bool}
use Rattle.bfs_base.specs.Lists.{times}
use Rattle.bfs_base.specs.declared.kind.KeyKind.{KeyKind}
use Rattle.bfs_node.specs.Page.{Row}
use Rattle.bfs_pages.specs.Trees.{page_in}
use Rattle.bfs_values.specs.Values.{fragment_count}
use Rattle.bfs_values.specs.Reached.{AreReached, AllMean, IsWholeTree}
use Rattle.bfs_values.specs.Rows.{rows_in}
use Rattle.bfs_finding.specs.Walks.{chain_pages, fragments_in}
use Rattle.bfs_range.specs.declared.ranged.RangedRow.{RangedRow}
use Rattle.bfs_range.specs.Answers.{answer_of}
use Rattle.bfs_value_walk.specs.Met.{shape_times, AreMarked}
use Rattle.bfs_value_walk.specs.Named.{named, parted}

-- the values of these rows mean numbers, and what they reach is marked; and their keys with the numbers were taken
pub record AreTaken (kind : KeyKind) (bytes : List ℕ) (rows : List Row) (size : ℕ) (marks : List Bool) (names : List ℕ) (took : List RangedRow → Type 0) : Type 0 where
  pub met : AreMarked kind bytes rows size marks names
  pub are : took (answer_of bytes rows)

-- each fragment in use of a page was named
abbrev pub AreNamed : List ℕ → ℕ → List ℕ → ℕ → Type 0
AreNamed bytes size names x = (f : ℕ) → f < 16 → 0 < fragment_count (page_in bytes x) f → named size names x f ≡ 1

-- of each page with a fragment that was named, each fragment in use was
abbrev pub AreAllNamed : List ℕ → ℕ → List ℕ → Type 0
AreAllNamed bytes size names = (x : ℕ) → 0 < parted size names x → AreNamed bytes size names x

-- The values of a tree's rows mean numbers, and its keys with them were taken; these are the pages that the values reach, and no other
-- page is named. `seen` says how often a page is of the tree's shape, or reached.
pub record IsReached (kind : KeyKind) (bytes : List ℕ) (seen : ℕ → ℕ) (took : List RangedRow → Type 0) : Type 0 where
  pub pages : List ℕ
  pub values : AreReached bytes (rows_in kind bytes) pages
  pub mean : AllMean bytes (rows_in kind bytes)
  pub count : (x : ℕ) → shape_times kind bytes x + times x pages ≡ seen x
  pub none : (x : ℕ) → times x pages ≡ 0 → (times x (chain_pages kind bytes) ≡ 0) × (times x (fragments_in (rows_in kind bytes)) ≡ 0)
  pub are : took (answer_of bytes (rows_in kind bytes))

-- the bytes are those of a whole tree, and its keys with their numbers were taken, in order
abbrev pub IsWholeTaken : KeyKind → List ℕ → (List RangedRow → Type 0) → Type 0
IsWholeTaken kind bytes took = IsWholeTree kind bytes × took (answer_of bytes (rows_in kind bytes))

-- the bytes are those of a whole tree, and these are its keys with their numbers, in order
abbrev pub IsWholeWith : KeyKind → List ℕ → List RangedRow → Type 0
IsWholeWith kind bytes rows = IsWholeTree kind bytes × (rows ≡ answer_of bytes (rows_in kind bytes))
