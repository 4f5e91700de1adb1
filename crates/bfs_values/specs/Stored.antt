-- A tree whose values mean numbers, and what adding a number to a row's value makes of it.
use Rattle.std.specs.Prelude.{◌≡◌, ◌⊎◌, ◌<◌, ℕ, ℤ, List, ◌∷◌, ◌++◌, length, Option, IfSome, nat_le, if◌then◌else◌}
use Rattle.std.specs.List.{AllByRecursion}
use Rattle.bfs_base.specs.Lists.{times}
use Rattle.bfs_base.specs.declared.kind.KeyKind.{KeyKind}
use Rattle.bfs_node.specs.Page.{Row}
use Rattle.bfs_node.specs.declared.fault.TreeFault.{TreeFault}
use Rattle.bfs_node.specs.declared.fault.TreeFault.TheVariants.{Exists, Absent, Damaged, Pages, NoMemory}
use Rattle.bfs_pages.specs.Answers.{IsOutgrown}
use Rattle.bfs_pages.specs.Order.{Key}
use Rattle.bfs_pages.specs.Shapes.{Shape}
use Rattle.bfs_pages.specs.Trees.{IsTree}
use Rattle.bfs_values.specs.Values.{values_in, placed}
use Rattle.bfs_values.specs.Reached.{AreReached, AllMean}

-- ascending numbers with one: they stay where it is there, else it is put among them
abbrev pub with_number : ℕ → List ℕ → List ℕ
with_number n ns = if nat_le 1 (times n ns) then ns else placed n ns

-- A tree of this shape stands in a stream's bytes, and each of its pages is the header, in the tree, reached by the value of
-- one of these rows, or in the free list, once. Each row's value means numbers.
pub record Stored (kind : KeyKind) (bytes : List ℕ) (t : Shape) (rows : List Row) : Type 0 where
  pub reached : List ℕ
  pub free : List ℕ
  pub tree : IsTree kind bytes reached t free
  pub values : AreReached bytes rows reached
  pub mean : AllMean bytes rows

-- the values of rows mean the numbers that they meant
abbrev pub SameNumbers : List ℕ → List ℕ → List Row → Type 0
SameNumbers b c rows = AllByRecursion (λ r. values_in c r.1 ≡ values_in b r.1) rows

-- The tree stands as it did, where the row of this key has a new value, which means these numbers. The values of all other
-- rows mean what they meant.
pub record IsRevalued (kind : KeyKind) (b c : List ℕ) (t : Shape) (front : List Row) (key : Key) (back : List Row) (value : ℤ) (numbers : List ℕ) : Type 0 where
  pub stored : Stored kind c t (front ++ ((key, value) ∷ back))
  pub means : values_in c value ≡ numbers
  pub others : SameNumbers b c (front ++ back)

-- a stream of more than 2^62 bytes, in which a page may have no link, or one that can't get a page more
abbrev pub IsTooLong : List ℕ → Type 0
IsTooLong bytes = (4611686018427387904 < length bytes) ⊎ IsOutgrown bytes

-- no page is damaged, and there is room but in a stream that is too long
abbrev pub IsScant : {F : Type 0} → Option (List ℕ) → TreeFault F → Type 0
IsScant told Exists = ⊥
IsScant told Absent = ⊥
IsScant told (Damaged page sort) = ⊥
IsScant told (Pages fault) = Unit {0}
IsScant told NoMemory = IfSome told IsTooLong
