-- What follows of an index whose pairs were held against those that it has to list.
use Rattle.std.specs.Prelude.{◌≡◌, ℕ, List}
use Rattle.bfs_base.specs.declared.kind.KeyKind.{KeyKind}
use Rattle.bfs_node.specs.Search.{IsSought}
use Rattle.bfs_tree.specs.Listings.{listed}
use Rattle.bfs_tree.specs.Trees.{Tree}
use Rattle.bfs_values.specs.Reached.{AreWritten}
use Rattle.bfs_values.specs.Rows.{rows_in}
use Rattle.bfs_sound.specs.Volumes.{Volume}
use Rattle.bfs_sound.specs.Inodes.{content}
use Rattle.bfs_sound.specs.Owners.{In}
use Rattle.bfs_finding.specs.declared.finding.Finding.{Finding}
use Rattle.bfs_finding.specs.Findings.{IsIndexAt, pairs_at, IsUnlisted}
use Rattle.bfs_index_check.specs.Compared.{IsDifference}

-- each pair has a key that an index of this kind can have
abbrev pub AreSought : KeyKind → List (List ℕ × ℕ) → Type 0
AreSought kind pairs = (pair : List ℕ × ℕ) → In pair pairs → IsSought kind pair.0

-- what is said of an index is true of the volume with the tree, where the pairs are those that the index has to list and those that stand in it
abbrev pub DifferenceIsUnlisted : Type 0
DifferenceIsUnlisted = (v : Volume) (tree : Tree) (index : List ℕ) (kind : KeyKind) (id : ℕ) (finding : Finding) → IsIndexAt v tree index kind id → AreSought kind (listed tree index kind) → AreSought kind (pairs_at v kind id)
    → IsDifference index kind (listed tree index kind) (pairs_at v kind id) finding → IsUnlisted v tree finding

-- where they are the same, the index's rows are written with what it has to list
abbrev pub SameIsListed : Type 0
SameIsListed = (v : Volume) (tree : Tree) (index : List ℕ) (kind : KeyKind) (id : ℕ) (pairs : List (List ℕ × ℕ)) → AreWritten (content v id) (rows_in kind (content v id)) pairs → pairs ≡ listed tree index kind
    → AreWritten (content v id) (rows_in kind (content v id)) (listed tree index kind)
