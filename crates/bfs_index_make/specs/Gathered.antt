-- The pairs that a new index lists, as they are gathered.
use Rattle.std.specs.Prelude.{ℕ, List, [], Option, map}
use Rattle.std.specs.List.{AllByRecursion, cons_option, flat_map}
use Rattle.std.specs.Option.{option_map}
use Rattle.bfs_base.specs.declared.kind.KeyKind.{KeyKind}
use Rattle.bfs_super.specs.declared.geometry.Geometry.{Geometry}
use Rattle.bfs_bitmap.specs.Runs.{Room}
use Rattle.bfs_tree.specs.Listings.{key_at}
use Rattle.bfs_tree.specs.Trees.{Tree}
use Rattle.bfs_range.specs.declared.ranged.RangedRow.{RangedRow}
use Rattle.bfs_shift.specs.Lists.{Lists}
use Rattle.bfs_look.specs.Ready.{IsReady, HasNodeAt}

-- a node's number with the key under which an index lists it, if it does
abbrev pub pair_at : Tree → List ℕ → KeyKind → ℕ → List (List ℕ × ℕ)
pair_at tree name kind id = cons_option (option_map (λ key. (key, id)) (key_at tree name kind id)) []

-- and those of some nodes, one after the other
abbrev pub pairs_at : Tree → List ℕ → KeyKind → List ℕ → List (List ℕ × ℕ)
pairs_at tree name kind ids = flat_map (pair_at tree name kind) ids

-- each of these numbers is a node's
abbrev pub AreNodes : Tree → List ℕ → Type 0
AreNodes tree ids = AllByRecursion (HasNodeAt tree) ids

-- the numbers in the pairs of an index, and those that rows of a range have
abbrev pub ids_of : List (List ℕ × ℕ) → List ℕ
ids_of pairs = map (λ pair. pair.1) pairs

abbrev pub numbers_of : List RangedRow → List ℕ
numbers_of rows = flat_map (λ row. row.numbers) rows

-- some volume between two calls is this map, and these are nodes of its tree
pub record HasNodes (g : Geometry) (m : ℕ → Option (List ℕ)) (ids : List ℕ) : Type 0 where
  pub room : Room
  pub tree : Tree
  pub lists : Lists
  pub ready : IsReady g room m tree lists
  pub nodes : AreNodes tree ids
