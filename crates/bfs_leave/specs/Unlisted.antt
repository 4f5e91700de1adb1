-- A node that an index lists no more.
use Rattle.std.specs.Prelude.{◌≡◌, ◌↔◌, ℕ, ℤ, List, Option, Some, None}
use Rattle.std.specs.List.{Contains}
use Rattle.std.specs.List.Sorted.{IsStrictlySortedBy}
use Rattle.bfs_base.specs.declared.kind.KeyKind.{KeyKind}
use Rattle.bfs_base.specs.declared.kind.KeyKind.TheVariants.{Text}
use Rattle.bfs_node.specs.declared.fault.TreeFault.{TreeFault}
use Rattle.bfs_pages.specs.Maps.{assoc}
use Rattle.bfs_stream.specs.declared.fault.GrowFault.{GrowFault}
use Rattle.bfs_tree.specs.Listings.{pair_cmp}
use Rattle.bfs_maps.specs.Refused.{IsUndone}
use Rattle.bfs_shift.specs.Lists.{Lists}

-- Where an index has the name, it is of this kind, and the pairs are those that it lists but for one, in order.
abbrev pub ListsLess : Lists → KeyKind → List ℕ → List ℕ → ℕ → List (List ℕ × ℕ) → Type 0
ListsLess lists kind name key id pairs = (value : ℤ) → assoc Text lists.names name ≡ Some value
    → (lists.kinds name ≡ kind) × IsStrictlySortedBy (pair_cmp kind) pairs
    × ((k : List ℕ) (n : ℕ) → Contains pairs (k, n) ↔ (Contains (lists.pairs name) (k, n) × ((k ≡ key) × (n ≡ id) → ⊥)))

-- why a node is listed still: a block could not be had, and none is damaged; and where there is no index, nothing is answered
abbrev pub IsUnlistFault : Option ℕ → TreeFault GrowFault → Type 0
IsUnlistFault None fault = ⊥
IsUnlistFault (Some inode) fault = IsUndone fault
