-- What each change within a call keeps of a volume.
use Rattle.std.specs.Prelude.{◌≡◌, ℕ, ℤ, List, [], length, ◌++◌, Option, Some, None, unwrap_or, ◌↔◌}
use Rattle.std.specs.FinMap.{get, insert, remove, empty}
use Rattle.bfs_base.specs.Lists.{AreSame}
use Rattle.bfs_base.specs.declared.kind.KeyKind.TheVariants.{Text}
use Rattle.bfs_super.specs.Conditions.{natural}
use Rattle.bfs_super.specs.declared.geometry.Geometry.{Geometry}
use Rattle.bfs_bitmap.specs.Runs.{Room, marked_count}
use Rattle.bfs_node.specs.Page.{Row}
use Rattle.bfs_pages.specs.Maps.{assoc}
use Rattle.bfs_stream.specs.Told.{contents}
use Rattle.bfs_stream.specs.Grown.{IsOfVolume}
use Rattle.bfs_tree.specs.declared.call.Kind.TheVariants.{Dir}
use Rattle.bfs_tree.specs.Listings.{listed}
use Rattle.bfs_tree.specs.Trees.{Node, Tree, IsNode, IsPlain}
use Rattle.bfs_values.specs.Rows.{rows_in}
use Rattle.bfs_sound.specs.Volumes.{Volume, sizes, IsMarked}
use Rattle.bfs_sound.specs.Inodes.{content, index_directory}
use Rattle.bfs_sound.specs.Nodes.{HasNode}
use Rattle.bfs_sound.specs.Listings.{HasIndexDirectory, index_rows}
use Rattle.bfs_sound.specs.Owners.{node_blocks, index_blocks, reach}
use Rattle.bfs_sound.specs.Whole.{IsSound}
use Rattle.bfs_sound.specs.Laws.{with_blocks, changed}
use Rattle.bfs_shift.specs.Lists.{Lists, with_rows, Agrees}
use Rattle.bfs_shift.specs.Stocked.{IsListing, Stocked, Shifts}

-- the lists of a volume that stands for a tree: what its directories have, and what the tree says of the indices
abbrev pub lists_of : Volume → Tree → Lists
lists_of v tree = record {
  rows = λ id. rows_in Text (content v id);
  names = index_rows v;
  kinds = λ name. unwrap_or (get tree.indices name) Text;
  pairs = λ name. listed tree name (unwrap_or (get tree.indices name) Text);
}

-- Where a call begins: a sound volume is stocked, with nothing loose, and its lists agree with its tree.
abbrev pub SoundIsStocked : Type 0
SoundIsStocked = (v : Volume) (tree : Tree) → IsSound v tree → Stocked v tree (lists_of v tree) [] × Agrees tree (lists_of v tree)

-- Where a call ends: a stocked volume with nothing loose whose lists agree with its plain tree is sound, where the count of used
-- blocks is right, and a tree without indices stands on a volume without an index directory.
abbrev pub StockedIsSound : Type 0
StockedIsSound = (v : Volume) (tree : Tree) (lists : Lists) → Stocked v tree lists [] → Agrees tree lists → IsPlain tree
    → tree.root ≡ v.geometry.root → (tree.indices ≡ empty → v.geometry.indices ≡ 0)
    → v.geometry.used ≡ length (reach v tree) → IsSound v tree

-- A node changes: its blocks shift, those of the node, of its attribute directory and of its attributes alike, perhaps with loose
-- blocks that it takes in or lets go, and there it has another record since.
abbrev pub NodeChanges : Type 0
NodeChanges = (v : Volume) (tree : Tree) (lists : Lists) (gone come loose : List ℕ) (new : ℕ → List ℕ) (d : ℕ) (n now : Node) (rows : List Row)
    → Stocked v tree lists (gone ++ loose) → IsNode tree d n
    → Shifts v new (node_blocks v (d, n) ++ gone) (node_blocks (with_blocks v new) (d, now) ++ come) → HasNode (with_blocks v new) d now
    → (now.kind ≡ Dir → rows_in Text (content (with_blocks v new) d) ≡ rows)
    → Stocked (with_blocks v new) (record tree { nodes = insert tree.nodes d now }) (with_rows lists d rows) (come ++ loose)

-- Loose blocks that are just those of an inode with a node's record become that node of the tree.
abbrev pub NodeJoins : Type 0
NodeJoins = (v : Volume) (tree : Tree) (lists : Lists) (own rest : List ℕ) (id : ℕ) (n : Node) → Stocked v tree lists (own ++ rest)
    → get tree.nodes id ≡ None
    → HasNode v id n → AreSame own (node_blocks v (id, n)) → (n.kind ≡ Dir → rows_in Text (content v id) ≡ lists.rows id)
    → Stocked v (record tree { nodes = insert tree.nodes id n }) lists rest

-- A node leaves the tree, and its blocks become loose.
abbrev pub NodeLeaves : Type 0
NodeLeaves = (v : Volume) (tree : Tree) (lists : Lists) (loose : List ℕ) (id : ℕ) (n : Node) → Stocked v tree lists loose → IsNode tree id n
    → Stocked v (record tree { nodes = remove tree.nodes id }) lists (node_blocks v (id, n) ++ loose)

-- Loose blocks change: taken, written, grown, given back.
abbrev pub LooseChanges : Type 0
LooseChanges = (v : Volume) (tree : Tree) (lists : Lists) (xs ys rest : List ℕ) (new : ℕ → List ℕ) → Stocked v tree lists (xs ++ rest)
    → Shifts v new xs ys → Stocked (with_blocks v new) tree lists (ys ++ rest)

-- The order of the loose blocks doesn't matter.
abbrev pub LooseInAnyOrder : Type 0
LooseInAnyOrder = (v : Volume) (tree : Tree) (lists : Lists) (loose other : List ℕ) → AreSame loose other → Stocked v tree lists loose
    → Stocked v tree lists other

-- The rows that are listed of no directory of the tree don't matter.
abbrev pub RowsElsewhere : Type 0
RowsElsewhere = (v : Volume) (tree : Tree) (lists : Lists) (loose : List ℕ) (id : ℕ) (rows : List Row) → get tree.nodes id ≡ None
    → Stocked v tree lists loose → Stocked v tree (with_rows lists id rows) loose

-- The indices change, the index directory and all indices alike, perhaps with loose blocks that they take in or let go: they list
-- something else since.
abbrev pub IndicesChange : Type 0
IndicesChange = (v : Volume) (tree : Tree) (lists now : Lists) (gone come loose : List ℕ) (new : ℕ → List ℕ)
    → Stocked v tree lists (gone ++ loose)
    → Shifts v new (index_blocks v ++ gone) (index_blocks (with_blocks v new) ++ come) → ((id : ℕ) → now.rows id ≡ lists.rows id)
    → HasIndexDirectory (with_blocks v new) (index_directory v) → index_rows (with_blocks v new) ≡ now.names
    → ((name : List ℕ) (value : ℤ) → assoc Text now.names name ≡ Some value → IsListing (with_blocks v new) (natural value) (now.kinds name) (now.pairs name))
    → Stocked (with_blocks v new) tree now (come ++ loose)

-- The indices of the tree are not read, and neither is the count of used blocks: both may be others.
abbrev pub IndicesAreFree : Type 0
IndicesAreFree = (v : Volume) (tree other : Tree) (lists : Lists) (loose : List ℕ) → other.nodes ≡ tree.nodes → Stocked v tree lists loose
    → Stocked v other lists loose

abbrev pub CountIsFree : Type 0
CountIsFree = (v : Volume) (tree : Tree) (lists : Lists) (loose : List ℕ) (used : ℕ) → Stocked v tree lists loose
    → Stocked (changed v v.blocks used) tree lists loose

-- The used blocks that a bitmap counts are what is reached, with the loose blocks: where nothing is loose, what the superblock has to
-- say at the end of a call.
abbrev pub CountIsReach : Type 0
CountIsReach = (g : Geometry) (v : Room) (m : ℕ → Option (List ℕ)) (tree : Tree) (lists : Lists) (loose : List ℕ) → IsOfVolume (sizes g) v
    → Stocked (record { geometry = g; blocks = contents m }) tree lists loose
    → marked_count v m v.blocks ≡ length (reach (record { geometry = g; blocks = contents m }) tree ++ loose)

-- A call ends with the count that its bitmap has.
abbrev pub CountedIsSound : Type 0
CountedIsSound = (v : Volume) (tree : Tree) (lists : Lists) (used : ℕ) → Stocked v tree lists [] → Agrees tree lists → IsPlain tree
    → tree.root ≡ v.geometry.root → (tree.indices ≡ empty → v.geometry.indices ≡ 0)
    → used ≡ length (reach v tree) → IsSound (changed v v.blocks used) tree

-- Where the same blocks are marked, as many are reached.
abbrev pub LengthIsSame : Type 0
LengthIsSame = (v w : Volume) (tree other : Tree) (lists now : Lists) (loose rest : List ℕ) → Stocked v tree lists loose → Stocked w other now rest
    → w.geometry.blocks ≡ v.geometry.blocks → ((k : ℕ) → IsMarked w k ↔ IsMarked v k) → length (reach w other ++ rest) ≡ length (reach v tree ++ loose)
