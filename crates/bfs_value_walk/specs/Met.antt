-- What the values of a tree's rows reach, as far as they were read.
use Rattle.std.specs.Prelude.{◌≡◌, ◌<◌, ◌↔◌, ℕ, ◌+◌, List, ◌∷◌, ◌++◌, Bool}
use Rattle.std.specs.List.{flat_map}
use Rattle.bfs_base.specs.Lists.{times, Has, IsOnce}
use Rattle.bfs_base.specs.declared.kind.KeyKind.{KeyKind}
use Rattle.bfs_node.specs.Page.{Row}
use Rattle.bfs_values.specs.Values.{chain_of}
use Rattle.bfs_values.specs.Reached.{chains_in, times_named, AllMean}
use Rattle.bfs_values.specs.Rows.{rows_in}
use Rattle.bfs_sound.specs.Owners.{In}
use Rattle.bfs_finding.specs.TreeFaults.{IsLeafRow}
use Rattle.bfs_finding.specs.Walks.{frees_in}
use Rattle.bfs_tree_check.specs.Freed.{built_times}
use Rattle.bfs_tree_check.specs.Marked.{marked}
use Rattle.bfs_value_walk.specs.Named.{named, parted}

-- how often a page is the header, interior, a leaf, or in the free list
abbrev pub shape_times : KeyKind → List ℕ → ℕ → ℕ
shape_times kind bytes x = built_times kind bytes x + times x (frees_in kind bytes)

-- the pages of the chains that rows name
abbrev pub chained_by : List ℕ → List Row → List ℕ
chained_by bytes rows = flat_map (chain_of bytes) (chains_in rows)

-- The values of these rows mean numbers. `seen` says how often a page is of the tree's shape, in a chain, or has fragments that they
-- name; `parts` how often it has such; and `names` how many of them name a fragment.
pub record AreMet (kind : KeyKind) (bytes : List ℕ) (rows : List Row) (seen parts : ℕ → ℕ) (names : ℕ → ℕ → ℕ) : Type 0 where
  pub fragments : List ℕ
  pub count : (x : ℕ) → shape_times kind bytes x + (times x (chained_by bytes rows) + times x fragments) ≡ seen x
  pub once : IsOnce fragments
  pub are : (x : ℕ) → times x fragments ≡ parts x
  pub there : (x : ℕ) → Has fragments x ↔ ((f : ℕ) × (0 < times_named x f rows))
  pub each : (x f : ℕ) → times_named x f rows ≡ names x f
  pub mean : AllMean bytes rows

-- the same, by marks and words
abbrev pub AreMarked : KeyKind → List ℕ → List Row → ℕ → List Bool → List ℕ → Type 0
AreMarked kind bytes rows size marks names = AreMet kind bytes rows (marked size marks) (parted size names) (named size names)

-- a row of a leaf comes next, behind these rows and before those
pub record IsNext (kind : KeyKind) (bytes : List ℕ) (leaf : ℕ) (done : List Row) (r : Row) (rest : List Row) : Type 0 where
  pub rows : rows_in kind bytes ≡ done ++ (r ∷ rest)
  pub there : IsLeafRow kind bytes leaf r

-- and so these rows of a leaf
pub record AreNext (kind : KeyKind) (bytes : List ℕ) (leaf : ℕ) (done rows rest : List Row) : Type 0 where
  pub are : rows_in kind bytes ≡ done ++ (rows ++ rest)
  pub there : (r : Row) → In r rows → IsLeafRow kind bytes leaf r
