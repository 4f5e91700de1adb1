-- What removing a number from a row's value makes of a tree.
use Rattle.std.specs.Prelude.{◌≡◌, ◌≤◌, ◌<◌, ◌^◌, ℕ, ℤ, pos, List, [], ◌∷◌, ◌++◌, length, Option, Some, None, ◌==◌, if◌then◌else◌}
use Rattle.bfs_base.specs.declared.kind.KeyKind.{KeyKind}
use Rattle.bfs_node.specs.Page.{Row}
use Rattle.bfs_pages.specs.Order.{Key}
use Rattle.bfs_pages.specs.Shapes.{Shape}
use Rattle.bfs_values.specs.Stored.{Stored, SameNumbers, IsRevalued}

-- numbers without one
abbrev pub without_number : ℕ → List ℕ → List ℕ
without_number n [] = []
without_number n (x ∷ xs) = if x == n then without_number n xs else x ∷ without_number n xs

-- The tree stands as it did, where the row of this key has a new value, which means these numbers, one or more. Where none is
-- left, the row may get any plain number for its value. The values of all other rows mean what they meant.
abbrev pub IsLessened : KeyKind → List ℕ → List ℕ → Shape → List Row → Key → List Row → List ℕ → Option ℤ → Type 0
IsLessened kind b c t front key back numbers (Some value) = (1 ≤ length numbers) × IsRevalued kind b c t front key back value numbers
IsLessened kind b c t front key back numbers None = (numbers ≡ []) × ((n : ℕ) → n < 2 ^ 62 → Stored kind c t (front ++ ((key, pos n) ∷ back))) × SameNumbers b c (front ++ back)
