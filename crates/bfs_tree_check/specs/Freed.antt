-- The free list of a tree, as far as it was walked over.
use Rattle.std.specs.Prelude.{◌≡◌, ℕ, ◌+◌, ◌/◌, List, [], ◌∷◌, ◌++◌, length}
use Rattle.bfs_base.specs.Lists.{times}
use Rattle.bfs_base.specs.declared.kind.KeyKind.{KeyKind}
use Rattle.bfs_pages.specs.Trees.{state_of, FreeFrom}
use Rattle.bfs_finding.specs.Walks.{free_from, inners_in, leaves_in, frees_in}

-- how often a page is the header, an interior page or a leaf
abbrev pub built_times : KeyKind → List ℕ → ℕ → ℕ
built_times kind bytes x = times x (0 ∷ []) + (times x (inners_in kind bytes) + times x (leaves_in kind bytes))

-- `done` was walked over, and the list goes on at a place, over at most so many pages. `seen` says how often a page was met.
pub record IsFreeing (kind : KeyKind) (bytes done : List ℕ) (left at : ℕ) (seen : ℕ → ℕ) : Type 0 where
  pub all : frees_in kind bytes ≡ done ++ free_from (state_of kind bytes).frees left at
  pub chain : (rest : List ℕ) → FreeFrom (state_of kind bytes).frees at rest → FreeFrom (state_of kind bytes).frees (state_of kind bytes).free (done ++ rest)
  pub count : (x : ℕ) → built_times kind bytes x + times x done ≡ seen x
  pub long : length done + left ≡ length bytes / 1024

-- the free list comes to an end, and its pages were met too
pub record IsFreed (kind : KeyKind) (bytes : List ℕ) (seen : ℕ → ℕ) : Type 0 where
  pub chain : FreeFrom (state_of kind bytes).frees (state_of kind bytes).free (frees_in kind bytes)
  pub count : (x : ℕ) → built_times kind bytes x + times x (frees_in kind bytes) ≡ seen x
