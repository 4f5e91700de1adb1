-- What is true of the lists of indices: what stands in them, that they ascend, and how they move with the nodes.
use Rattle.std.specs.Prelude.{◌≡◌, ◌≢◌, ◌⊎◌, ◌↔◌, true, ℕ, List, Some}
use Rattle.std.specs.List.{Contains}
use Rattle.std.specs.List.Sorted.{IsStrictlySortedBy}
use Rattle.std.specs.FinMap.{get, insert, remove}
use Rattle.bfs_base.specs.declared.kind.KeyKind.{KeyKind}
use Rattle.bfs_tree.specs.Trees.{Tree, Node, is_file}
use Rattle.bfs_tree.specs.Listings.{key_in, key_at, pair_cmp, listed, without_id, relisted}

-- a pair stands in an index's list exactly where the index lists the node of its id under its key
abbrev pub ListedHas : Type 0
ListedHas = (tree : Tree) (index : List ℕ) (kind : KeyKind) (key : List ℕ) (id : ℕ) → Contains (listed tree index kind) (key, id) ↔ (key_at tree index kind id ≡ Some key)

-- the pairs strictly ascend, by key, then by id
abbrev pub ListedAscends : Type 0
ListedAscends = (tree : Tree) (index : List ℕ) (kind : KeyKind) → IsStrictlySortedBy (pair_cmp kind) (listed tree index kind)

-- pairs that strictly ascend and are just those that the index lists are its list
abbrev pub ListedIsUnique : Type 0
ListedIsUnique = (tree : Tree) (index : List ℕ) (kind : KeyKind) (pairs : List (List ℕ × ℕ)) → IsStrictlySortedBy (pair_cmp kind) pairs
    → ((key : List ℕ) (id : ℕ) → Contains pairs (key, id) ↔ (key_at tree index kind id ≡ Some key)) → pairs ≡ listed tree index kind

-- the list stays where each node has the key that it had
abbrev pub ListedStays : Type 0
ListedStays = (old new : Tree) (index : List ℕ) (kind : KeyKind) → ((id : ℕ) → key_at new index kind id ≡ key_at old index kind id) → listed new index kind ≡ listed old index kind

-- where all nodes but one have the keys that they had, the one node's pair goes, and the pair of its new key comes in its place by order
abbrev pub ListedMoves : Type 0
ListedMoves = (old new : Tree) (index : List ℕ) (kind : KeyKind) (id : ℕ) → ((q : ℕ) → q ≢ id → key_at new index kind q ≡ key_at old index kind q)
    → listed new index kind ≡ relisted kind id (key_at new index kind id) (listed old index kind)

-- and the pairs are those of the other nodes that stood there, and the one node's new pair
abbrev pub MovedHas : Type 0
MovedHas = (old new : Tree) (index : List ℕ) (kind : KeyKind) (id : ℕ) → ((q : ℕ) → q ≢ id → key_at new index kind q ≡ key_at old index kind q)
    → (key : List ℕ) (q : ℕ) → Contains (listed new index kind) (key, q) ↔ (((q ≢ id) × Contains (listed old index kind) (key, q)) ⊎ ((q ≡ id) × (key_at new index kind id ≡ Some key)))

-- a node is put at an id, and a node is taken
abbrev pub ListedPut : Type 0
ListedPut = (tree : Tree) (index : List ℕ) (kind : KeyKind) (id : ℕ) (node : Node)
    → listed (record tree { nodes = insert tree.nodes id node }) index kind ≡ relisted kind id (key_in tree.root index kind id node) (listed tree index kind)

abbrev pub ListedTaken : Type 0
ListedTaken = (tree : Tree) (index : List ℕ) (kind : KeyKind) (id : ℕ) → listed (record tree { nodes = remove tree.nodes id }) index kind ≡ without_id id (listed tree index kind)

-- a node is put in the place of one with the same key, and the list stays
abbrev pub ListedKept : Type 0
ListedKept = (tree : Tree) (index : List ℕ) (kind : KeyKind) (id : ℕ) (old new : Node) → get tree.nodes id ≡ Some old → key_in tree.root index kind id new ≡ key_in tree.root index kind id old
    → listed (record tree { nodes = insert tree.nodes id new }) index kind ≡ listed tree index kind

-- a key depends on what a node is, its name, its size, the stamp of a file's content, and the attribute of the index's name
abbrev pub KeyDependsOn : Type 0
KeyDependsOn = (root : ℕ) (index : List ℕ) (kind : KeyKind) (id : ℕ) (m n : Node) → m.kind ≡ n.kind → m.name ≡ n.name → m.size ≡ n.size → (is_file m.kind ≡ true → m.modified ≡ n.modified)
    → get m.attributes index ≡ get n.attributes index → key_in root index kind id m ≡ key_in root index kind id n
