-- The pairs of an index as a list.
use Rattle.std.specs.Prelude.{◌≡◌, ◌⊎◌, ◌↔◌, ℕ, List}
use Rattle.std.specs.List.{Contains}
use Rattle.std.specs.List.Sorted.{IsStrictlySortedBy}
use Rattle.bfs_base.specs.declared.kind.KeyKind.{KeyKind}
use Rattle.bfs_pages.specs.Order.{Key}
use Rattle.bfs_tree.specs.Listings.{pair_cmp}
use Rattle.bfs_values.specs.Reached.{IsWholeTree, AreWritten}
use Rattle.bfs_values.specs.Rows.{rows_in}
use Rattle.bfs_index.specs.Indices.{pairs_in, HasWith, HasWithout}

-- the pairs of a whole tree strictly ascend, by key, then by id
abbrev pub PairsAscend : Type 0
PairsAscend = (kind : KeyKind) (bytes : List ℕ) → IsWholeTree kind bytes → IsStrictlySortedBy (pair_cmp kind) (pairs_in kind bytes)

-- pairs that strictly ascend and are just those of a whole tree are its rows written out
abbrev pub WrittenIsUnique : Type 0
WrittenIsUnique = (kind : KeyKind) (bytes : List ℕ) (pairs : List (Key × ℕ)) → IsWholeTree kind bytes → IsStrictlySortedBy (pair_cmp kind) pairs
    → ((k : Key) (n : ℕ) → Contains (pairs_in kind bytes) (k, n) ↔ Contains pairs (k, n)) → AreWritten bytes (rows_in kind bytes) pairs

-- Where the rows were a list written out, and a pair was added, they are any list that strictly ascends and has the pairs of that
-- list and this one.
abbrev pub AddedIsWritten : Type 0
AddedIsWritten = (kind : KeyKind) (old bytes : List ℕ) (key : Key) (id : ℕ) (was pairs : List (Key × ℕ)) → AreWritten old (rows_in kind old) was → HasWith kind old key id bytes → IsStrictlySortedBy (pair_cmp kind) pairs
    → ((k : Key) (n : ℕ) → Contains pairs (k, n) ↔ (Contains was (k, n) ⊎ ((k ≡ key) × (n ≡ id)))) → AreWritten bytes (rows_in kind bytes) pairs

-- and where it was taken, any list that strictly ascends and has the pairs of that list without this one
abbrev pub TakenIsWritten : Type 0
TakenIsWritten = (kind : KeyKind) (old bytes : List ℕ) (key : Key) (id : ℕ) (was pairs : List (Key × ℕ)) → AreWritten old (rows_in kind old) was → HasWithout kind old key id bytes → IsStrictlySortedBy (pair_cmp kind) pairs
    → ((k : Key) (n : ℕ) → Contains pairs (k, n) ↔ (Contains was (k, n) × ((k ≡ key) × (n ≡ id) → ⊥))) → AreWritten bytes (rows_in kind bytes) pairs
