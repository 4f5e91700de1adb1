-- The pairs of an index, put in order by a check, are those that the tree lists.
use Rattle.std.specs.Prelude.{◌≡◌, ◌↔◌, ℕ, List, [], ◌∷◌, map}
use Rattle.std.specs.List.{AllByRecursion}
use Rattle.std.specs.FinMap.{from_entries, entries}
use Rattle.std.specs.Ordering.{nat_cmp}
use Rattle.std.specs.declared.cmp.Ordering.{Ordering}
use Rattle.std.specs.declared.cmp.Ordering.TheVariants.{Less}
use Rattle.bfs_base.specs.Lists.{IsOnce}
use Rattle.bfs_base.specs.declared.kind.KeyKind.{KeyKind}
use Rattle.bfs_tree.specs.Listings.{pair_cmp, pairs_in, listed_among}
use Rattle.bfs_tree.specs.Orders.{in_order}
use Rattle.bfs_sound.specs.Owners.{In}
use Rattle.bfs_tour.specs.Tours.{Visit}

-- a pair of a key and the number of a node
abbrev pub Pair : Type 0
Pair = List ℕ × ℕ

-- each is below those behind it
abbrev pub Rises : {X : Type 0} → (X → X → Ordering) → List X → Type 0
Rises cmp [] = Unit {0}
Rises cmp (x ∷ xs) = AllByRecursion (λ y. cmp x y ≡ Less) xs × Rises cmp xs

-- pairs that rise and are those that an index lists of what was visited, are what it lists of the map of this
abbrev pub PairsAreListed : Type 0
PairsAreListed = (root : ℕ) (index : List ℕ) (kind : KeyKind) (visits : List Visit) (pairs : List Pair) → IsOnce (map (λ e. e.0) visits) → Rises (pair_cmp kind) pairs
    → ((p : Pair) → In p pairs ↔ In p (pairs_in root index kind visits)) → pairs ≡ listed_among root index kind (entries (from_entries {R = nat_cmp} visits))

-- the pairs of what was visited, gathered in any order and then put in order, are what an index lists of the map of this
abbrev pub GatheredAreListed : Type 0
GatheredAreListed = (root : ℕ) (index : List ℕ) (kind : KeyKind) (visits gathered : List Visit) → IsOnce (map (λ e. e.0) visits) → IsOnce (map (λ e. e.0) gathered) → ((e : Visit) → In e gathered ↔ In e visits)
    → in_order (pair_cmp kind) (pairs_in root index kind gathered) ≡ listed_among root index kind (entries (from_entries {R = nat_cmp} visits))
