-- The pairs of an index, held against those that it has to list.
use Rattle.std.specs.Prelude.{◌≡◌, ◌≤◌, ℕ, List, ◌∷◌, length, map, take}
use Rattle.std.specs.List.Sorted.{IsStrictlySortedBy}
use Rattle.bfs_base.specs.Images.{IsBytes}
use Rattle.bfs_base.specs.declared.kind.KeyKind.{KeyKind}
use Rattle.bfs_range.specs.declared.ranged.RangedRow.{RangedRow}
use Rattle.bfs_tree.specs.Listings.{key_from, pair_cmp}
use Rattle.bfs_sound.specs.Owners.{In}
use Rattle.bfs_finding.specs.declared.finding.Finding.{Finding}
use Rattle.bfs_finding.specs.declared.finding.Finding.TheVariants.{RowMissing, RowExtra}
use Rattle.bfs_node_check.specs.declared.fault.NodeFault.{NodeFault}
use Rattle.bfs_node_check.specs.declared.fault.NodeFault.TheVariants.{Wrong, NoMemory}
use Rattle.bfs_index.specs.declared.found.Pair as kept

-- a pair of a key and the number of a node
abbrev pub Pair : Type 0
Pair = List ℕ × ℕ

abbrev pub pair_of : kept.Pair → Pair
pair_of p = (p.key, p.id)

abbrev pub pairs_of : List kept.Pair → List Pair
pairs_of ps = map pair_of ps

-- a key with each of its numbers
abbrev pub row_pairs : RangedRow → List Pair
row_pairs row = map (λ n. (row.key, n)) row.numbers

-- each pair is below those behind it
abbrev pub Ascends : KeyKind → List Pair → Type 0
Ascends kind = IsStrictlySortedBy (pair_cmp kind)

-- the first of these pairs is this one
abbrev pub IsNext : List Pair → Pair → Type 0
IsNext pairs pair = (more : List Pair) × (pairs ≡ pair ∷ more)

-- the first pairs of those that are wanted, so many, are these
pub record AreMet (wanted : List Pair) (count : ℕ) (met : List Pair) : Type 0 where
  pub few : count ≤ length wanted
  pub are : take count wanted ≡ met

-- of an index of this name and kind it is said that a pair is missing which is wanted and isn't found, or that one is there which is found
-- and isn't wanted; or nothing was said, for want of memory
abbrev pub IsDifference : List ℕ → KeyKind → List Pair → List Pair → Finding → Type 0
IsDifference index kind wanted found (RowMissing name key id) = (name ≡ index) × ((bytes : List ℕ) × IsBytes bytes × (key ≡ key_from kind bytes) × In (bytes, id) wanted × ¬ In (bytes, id) found)
IsDifference index kind wanted found (RowExtra name key id) = (name ≡ index) × ((bytes : List ℕ) × IsBytes bytes × (key ≡ key_from kind bytes) × In (bytes, id) found × ¬ In (bytes, id) wanted)
IsDifference index kind wanted found _ = ⊥

abbrev pub IsTold : List ℕ → KeyKind → List Pair → List Pair → NodeFault → Type 0
IsTold index kind wanted found (Wrong finding) = IsDifference index kind wanted found finding
IsTold index kind wanted found NoMemory = Unit {0}
