-- What a change of one inode's stream keeps of a volume within a call: the stream of a directory, of an index, and of the index
-- directory.
use Rattle.std.specs.Prelude.{◌≡◌, ◌≢◌, ◌<◌, ℕ, ℤ, pos, List, [], ◌∷◌, ◌++◌, Bool, Option, Some, None, drop, false, true, ◌≤◌, ◌^◌}
use Rattle.std.specs.List.{flat_map}
use Rattle.std.specs.FinMap.{insert, empty}
use Rattle.bfs_base.specs.Lists.{Agree, AreSame, ChangesAt, Has}
use Rattle.bfs_base.specs.declared.kind.KeyKind.{KeyKind}
use Rattle.bfs_base.specs.declared.kind.KeyKind.TheVariants.{Text}
use Rattle.bfs_super.specs.Conditions.{natural}
use Rattle.bfs_super.specs.declared.geometry.Geometry.{Geometry}
use Rattle.bfs_bitmap.specs.Runs.{Room, Fits}
use Rattle.bfs_bytes.specs.Fields.{run_in}
use Rattle.bfs_inode.specs.Inode.{inode_at, stream_at}
use Rattle.bfs_inode.specs.Refusals.{IsInode, Names}
use Rattle.bfs_smalldata.specs.Items.{Item, items_of}
use Rattle.bfs_node.specs.Page.{Row}
use Rattle.bfs_pages.specs.Maps.{assoc, put, without}
use Rattle.bfs_stream.specs.Places.{HasStream, whole_at}
use Rattle.bfs_stream.specs.Told.{contents, AreTold}
use Rattle.bfs_stream.specs.Grown.{IsOfVolume, Owns, Grown}
use Rattle.bfs_stream.specs.Trimmed.{Trimmed}
use Rattle.bfs_maps.specs.Moves.{KeepsInode, Moved}
use Rattle.bfs_tree.specs.declared.call.Kind.TheVariants.{Dir}
use Rattle.bfs_tree.specs.Listings.{key_in}
use Rattle.bfs_tree.specs.Trees.{Node, Tree, IsNode, HasPlainNodes, IsPlain}
use Rattle.bfs_values.specs.Rows.{rows_in}
use Rattle.bfs_values.specs.Reached.{IsWholeTree, AreWritten}
use Rattle.bfs_sound.specs.Volumes.{Volume, sizes, IsMarked}
use Rattle.bfs_sound.specs.Inodes.{content, inode_blocks, is_proper, proper_rows, id_of}
use Rattle.bfs_sound.specs.Attributes.{is_name_item, is_zero, attribute_directory, attribute_inodes}
use Rattle.bfs_sound.specs.Nodes.{HasContent, HasNode}
use Rattle.bfs_sound.specs.Owners.{has_no_stream, own_blocks, node_blocks, In}
use Rattle.bfs_sound.specs.Whole.{IsSound}
use Rattle.bfs_sound.specs.Laws.{with_blocks}
use Rattle.bfs_maps.specs.Mapped.{HasHeld, IsMap, HasRowsNow}
use Rattle.bfs_maps.specs.NumberTrees.{AreNumbers}
use Rattle.bfs_shift.specs.Lists.{Lists, RowsAgree, with_rows, with_pairs, with_names, with_index}
use Rattle.bfs_maps.specs.Laws.{DiffersAt}
use Rattle.bfs_shift.specs.Stocked.{IsListing, Stocked, Shifts}
use Rattle.bfs_shift.specs.Shifts.{volume_in}
use Rattle.bfs_shift.specs.Inodes.{KeepsPlace, HasBytes, IsSamePlace, HasStatus}

-- What pages of a stream that are written and added make of a told map is a shift of its inode's blocks.
abbrev pub MovesShift : Type 0
MovesShift = (g : Geometry) (id : ℕ) (v now : Room) (m map : ℕ → Option (List ℕ)) → IsOfVolume (sizes g) v → 0 < g.block_size
    → Moved (record { id = id; sizes = sizes g }) v now m map
    → ((k : ℕ) → Has (whole_at (sizes g) (contents m) id) k → IsMarked (volume_in g m) k)
    → Shifts (volume_in g m) (contents map) (whole_at (sizes g) (contents m) id) (whole_at (sizes g) (contents map) id)

-- A node whose inode's block was written, and whose attributes stay, is the node of the new record.
abbrev pub NodeIsRestated : Type 0
NodeIsRestated = (v : Volume) (new : ℕ → List ℕ) (d : ℕ) (n now : Node) → KeepsPlace (v.blocks d) (new d) → HasBytes (v.blocks d) (new d)
    → Agree v.blocks new (flat_map (inode_blocks v) (attribute_inodes v (attribute_directory v d)))
    → IsSamePlace n now → HasStatus (with_blocks v new) d now → HasContent (with_blocks v new) d now now.kind → HasNode v d n
    → HasNode (with_blocks v new) d now

-- A directory's stream becomes another tree of names, on blocks of its own and fresh ones: the volume is stocked with the same
-- nodes, and with the new rows.
abbrev pub RowsChange : Type 0
RowsChange = (v : Volume) (tree : Tree) (lists : Lists) (loose : List ℕ) (new : ℕ → List ℕ) (d : ℕ) (n : Node) (rows : List Row)
    → Stocked v tree lists loose → IsNode tree d n → n.kind ≡ Dir
    → Shifts v new (inode_blocks v d) (inode_blocks (with_blocks v new) d) → KeepsInode (v.blocks d) (new d) → HasBytes (v.blocks d) (new d)
    → HasStream (sizes v.geometry) new d → IsWholeTree Text (content (with_blocks v new) d)
    → rows_in Text (content (with_blocks v new) d) ≡ rows
    → Stocked (with_blocks v new) tree (with_rows lists d rows) loose

-- An index's stream becomes another tree of its kind, which means other pairs.
abbrev pub IndexChanges : Type 0
IndexChanges = (v : Volume) (tree : Tree) (lists : Lists) (loose : List ℕ) (new : ℕ → List ℕ) (name : List ℕ) (value : ℤ) (pairs : List (List ℕ × ℕ))
    → Stocked v tree lists loose → assoc Text lists.names name ≡ Some value
    → Shifts v new (inode_blocks v (natural value)) (inode_blocks (with_blocks v new) (natural value))
    → KeepsInode (v.blocks (natural value)) (new (natural value)) → HasBytes (v.blocks (natural value)) (new (natural value))
    → HasStream (sizes v.geometry) new (natural value) → IsWholeTree (lists.kinds name) (content (with_blocks v new) (natural value))
    → AreWritten (content (with_blocks v new) (natural value)) (rows_in (lists.kinds name) (content (with_blocks v new) (natural value))) pairs
    → Stocked (with_blocks v new) tree (with_pairs lists name pairs) loose

-- the blocks of the inodes that rows name
abbrev pub blocks_named : Volume → List Row → List ℕ
blocks_named v rows = flat_map (λ row. inode_blocks v (id_of row)) rows

-- of an inode the stream alone was written, and it is a tree of names
pub record IsDirectoryNow (v : Volume) (new : ℕ → List ℕ) (d : ℕ) : Type 0 where
  pub kept : KeepsInode (v.blocks d) (new d)
  pub bytes : HasBytes (v.blocks d) (new d)
  pub stream : HasStream (sizes v.geometry) new d
  pub tree : IsWholeTree Text (content (with_blocks v new) d)

-- The index directory's stream becomes another tree of names. The inodes that the names lead to have the blocks that those of the
-- names before had, but for loose ones that come to the indices or go from them; and each of them is an index.
abbrev pub NamesChange : Type 0
NamesChange = (v : Volume) (tree : Tree) (lists now : Lists) (gone come loose : List ℕ) (new : ℕ → List ℕ)
    → Stocked v tree lists (gone ++ loose) → v.geometry.indices ≢ 0
    → Shifts v new (inode_blocks v v.geometry.indices) (inode_blocks (with_blocks v new) v.geometry.indices)
    → IsDirectoryNow v new v.geometry.indices
    → ((id : ℕ) → now.rows id ≡ lists.rows id) → proper_rows (with_blocks v new) v.geometry.indices ≡ now.names
    → AreSame (blocks_named v now.names ++ come) (blocks_named v lists.names ++ gone)
    → ((name : List ℕ) (value : ℤ) → assoc Text now.names name ≡ Some value → IsListing v (natural value) (now.kinds name) (now.pairs name))
    → Stocked (with_blocks v new) tree now (come ++ loose)

-- An index joins: loose blocks have just its inode and its stream, and the index directory's rows gain its name.
abbrev pub IndexJoins : Type 0
IndexJoins = (v : Volume) (tree : Tree) (lists : Lists) (own loose : List ℕ) (new : ℕ → List ℕ) (name : List ℕ) (id : ℕ) (kind : KeyKind) (pairs : List (List ℕ × ℕ))
    → Stocked v tree lists (own ++ loose) → v.geometry.indices ≢ 0
    → Shifts v new (inode_blocks v v.geometry.indices) (inode_blocks (with_blocks v new) v.geometry.indices)
    → IsDirectoryNow v new v.geometry.indices → is_proper name ≡ true
    → rows_in Text (content (with_blocks v new) v.geometry.indices) ≡ put Text (rows_in Text (content v v.geometry.indices)) name (pos id)
    → AreSame own (inode_blocks v id) → IsListing v id kind pairs
    → Stocked (with_blocks v new) tree (with_index (with_names lists (proper_rows (with_blocks v new) v.geometry.indices)) name kind pairs) loose
    × DiffersAt Text lists.names (proper_rows (with_blocks v new) v.geometry.indices) name (Some (pos id))

-- An index leaves: the index directory's rows lose its name, and its blocks become loose.
abbrev pub IndexLeaves : Type 0
IndexLeaves = (v : Volume) (tree : Tree) (lists : Lists) (loose : List ℕ) (new : ℕ → List ℕ) (name : List ℕ) (value : ℤ)
    → Stocked v tree lists loose → v.geometry.indices ≢ 0 → assoc Text lists.names name ≡ Some value
    → Shifts v new (inode_blocks v v.geometry.indices) (inode_blocks (with_blocks v new) v.geometry.indices)
    → IsDirectoryNow v new v.geometry.indices
    → rows_in Text (content (with_blocks v new) v.geometry.indices) ≡ without Text (rows_in Text (content v v.geometry.indices)) name
    → Stocked (with_blocks v new) tree (with_names lists (proper_rows (with_blocks v new) v.geometry.indices)) (inode_blocks v (natural value) ++ loose)
    × DiffersAt Text lists.names (proper_rows (with_blocks v new) v.geometry.indices) name None

-- A node's status is written in its inode's block, and nothing else: mode, user, group and stamps.
abbrev pub StatusChanges : Type 0
StatusChanges = (v : Volume) (tree : Tree) (lists : Lists) (loose : List ℕ) (new : ℕ → List ℕ) (d : ℕ) (n now : Node)
    → Stocked v tree lists loose → IsNode tree d n → 0 < v.geometry.block_size
    → ChangesAt v.blocks new (d ∷ []) → KeepsPlace (v.blocks d) (new d) → HasBytes (v.blocks d) (new d)
    → stream_at (new d) ≡ stream_at (v.blocks d) → (inode_at (new d)).stream_bytes ≡ (inode_at (v.blocks d)).stream_bytes
    → IsSamePlace n now → now.size ≡ n.size → now.target ≡ n.target → HasStatus (with_blocks v new) d now
    → Stocked (with_blocks v new) (record tree { nodes = insert tree.nodes d now }) lists loose

-- The inode at this block is a new node's: no attribute directory, and in the small data area the item with its name alone.
pub record IsFresh (v : Volume) (id : ℕ) (n : Node) : Type 0 where
  pub inode : IsInode (v.blocks id) id v.geometry.shift
  pub status : HasStatus v id n
  pub content_is : HasContent v id n n.kind
  pub other : id ≢ v.geometry.root
  pub parent : Names (run_in (v.blocks id) 44) n.parent v.geometry.shift
  pub directory : is_zero (run_in (v.blocks id) 52) ≡ true
  pub item : Item
  pub area : items_of (drop 232 (v.blocks id)) ≡ Some (item ∷ [])
  pub named : is_name_item item ≡ true
  pub name : item.bytes ≡ n.name
  pub attributes : n.attributes ≡ empty

-- A fresh inode is a node, with the blocks that are its own and no others.
abbrev pub FreshIsNode : Type 0
FreshIsNode = (v : Volume) (id : ℕ) (n : Node) → IsFresh v id n → HasNode v id n × (node_blocks v (id, n) ≡ own_blocks v (id, n))

-- A stream that has grown by fresh blocks, and one that was cut and has given blocks back.
abbrev pub GrownShift : Type 0
GrownShift = (g : Geometry) (id : ℕ) (v now : Room) (m : ℕ → Option (List ℕ)) (fresh : List ℕ) (told : Option (ℕ → Option (List ℕ))) (old new : ℕ → Bool)
    → IsOfVolume (sizes g) v → 0 < g.block_size
    → (grown : Grown (record { id = id; sizes = sizes g }) v now m fresh told old new) → now ≡ record v { tally = now.tally }
    → ((k : ℕ) → Has (whole_at (sizes g) (contents m) id) k → IsMarked (volume_in g m) k)
    → Shifts (volume_in g m) (contents grown.map) (whole_at (sizes g) (contents m) id) (whole_at (sizes g) (contents grown.map) id)

abbrev pub TrimmedShift : Type 0
TrimmedShift = (g : Geometry) (id : ℕ) (v now : Room) (m : ℕ → Option (List ℕ)) (gone : List ℕ) (told : Option (ℕ → Option (List ℕ))) (old new : ℕ → Bool)
    → IsOfVolume (sizes g) v → 0 < g.block_size
    → (cut : Trimmed (record { id = id; sizes = sizes g }) v now m gone told old new)
    → ((k : ℕ) → Has (whole_at (sizes g) (contents m) id) k → IsMarked (volume_in g m) k)
    → Shifts (volume_in g m) (contents cut.map) (whole_at (sizes g) (contents m) id) (whole_at (sizes g) (contents cut.map) id)

-- A directory's map has other rows since, as a call on it says: the volume is stocked with the same nodes, and with these rows.
abbrev pub DirectoryHasRows : Type 0
DirectoryHasRows = (g : Geometry) (d : ℕ) (v now : Room) (m : ℕ → Option (List ℕ)) (rows : List Row) (told : Option (ℕ → Option (List ℕ))) (old new : ℕ → Bool) (tree : Tree) (lists : Lists) (loose : List ℕ) (n : Node)
    → IsOfVolume (sizes g) v → 0 < g.block_size → Stocked (volume_in g m) tree lists loose → IsNode tree d n → n.kind ≡ Dir
    → (since : HasRowsNow Text (record { id = d; sizes = sizes g }) v now m rows told old new)
    → HasBytes (contents m d) (contents since.map d)
    → Stocked (volume_in g since.map) tree (with_rows lists d rows) loose

-- The index directory's map has other rows since: what it is, for an index that joins or leaves.
abbrev pub NamesHaveRows : Type 0
NamesHaveRows = (g : Geometry) (v now : Room) (m : ℕ → Option (List ℕ)) (rows : List Row) (told : Option (ℕ → Option (List ℕ))) (old new : ℕ → Bool) (tree : Tree) (lists : Lists) (loose : List ℕ)
    → IsOfVolume (sizes g) v → 0 < g.block_size → Stocked (volume_in g m) tree lists loose → g.indices ≢ 0
    → (since : HasRowsNow Text (record { id = g.indices; sizes = sizes g }) v now m rows told old new)
    → HasBytes (contents m g.indices) (contents since.map g.indices)
    → Shifts (volume_in g m) (contents since.map) (inode_blocks (volume_in g m) g.indices) (inode_blocks (volume_in g since.map) g.indices)
    × IsDirectoryNow (volume_in g m) (contents since.map) g.indices × (rows_in Text (content (volume_in g since.map) g.indices) ≡ rows)

-- An index's pages have moved, and mean other pairs since.
abbrev pub IndexHasPairs : Type 0
IndexHasPairs = (g : Geometry) (v now : Room) (m map : ℕ → Option (List ℕ)) (name : List ℕ) (value : ℤ) (pairs : List (List ℕ × ℕ)) (tree : Tree) (lists : Lists) (loose : List ℕ)
    → IsOfVolume (sizes g) v → 0 < g.block_size → Stocked (volume_in g m) tree lists loose → assoc Text lists.names name ≡ Some value
    → Moved (record { id = natural value; sizes = sizes g }) v now m map → HasBytes (contents m (natural value)) (contents map (natural value))
    → IsWholeTree (lists.kinds name) (content (volume_in g map) (natural value))
    → AreWritten (content (volume_in g map) (natural value)) (rows_in (lists.kinds name) (content (volume_in g map) (natural value))) pairs
    → Stocked (volume_in g map) tree (with_pairs lists name pairs) loose

-- The stream of a node that has one changes, and perhaps its status: a file's, with its size, or any other.
abbrev pub ContentChanges : Type 0
ContentChanges = (v : Volume) (tree : Tree) (lists : Lists) (loose : List ℕ) (new : ℕ → List ℕ) (d : ℕ) (n now : Node) (rows : List Row)
    → Stocked v tree lists loose → IsNode tree d n → has_no_stream v (d, n) ≡ false
    → Shifts v new (inode_blocks v d) (inode_blocks (with_blocks v new) d) → KeepsPlace (v.blocks d) (new d) → HasBytes (v.blocks d) (new d)
    → IsSamePlace n now → HasStatus (with_blocks v new) d now → HasContent (with_blocks v new) d now now.kind
    → (now.kind ≡ Dir → rows_in Text (content (with_blocks v new) d) ≡ rows)
    → Stocked (with_blocks v new) (record tree { nodes = insert tree.nodes d now }) (with_rows lists d rows) loose

-- What the calls on maps ask: the stream of an owner is held, and so is one of loose blocks; the
-- rows of a directory are numbers, since they are ids of nodes; and a directory is a map.
abbrev pub OwnerIsHeld : Type 0
OwnerIsHeld = (g : Geometry) (v : Room) (m : ℕ → Option (List ℕ)) (id : ℕ)
    → Owns (record { id = id; sizes = sizes g }) v [] m → AreTold m (whole_at (sizes g) (contents m) id)
    → HasHeld (record { id = id; sizes = sizes g }) v m

abbrev pub RowsAreNumbers : Type 0
RowsAreNumbers = (v : Volume) (tree : Tree) (lists : Lists) (loose : List ℕ) (d : ℕ) (n : Node)
    → Stocked v tree lists loose → RowsAgree tree lists → HasPlainNodes tree → v.geometry.blocks ≤ 2 ^ 62 → IsNode tree d n → n.kind ≡ Dir → AreNumbers (lists.rows d)

abbrev pub DirectoryIsMap : Type 0
DirectoryIsMap = (g : Geometry) (v : Room) (m : ℕ → Option (List ℕ)) (tree : Tree) (lists : Lists) (loose : List ℕ) (d : ℕ) (n : Node)
    → IsOfVolume (sizes g) v → 0 < g.block_size → Fits v m → Stocked (volume_in g m) tree lists loose → IsNode tree d n → n.kind ≡ Dir
    → AreTold m (whole_at (sizes g) (contents m) d) → AreNumbers (lists.rows d)
    → IsMap Text (record { id = d; sizes = sizes g }) v m

-- A whole call: mode, user, group and stamps of a node are written, and no index lists it under them. The volume is sound with the
-- tree in which the node has its new record.
abbrev pub StatusIsSound : Type 0
StatusIsSound = (v : Volume) (tree : Tree) (new : ℕ → List ℕ) (d : ℕ) (n now : Node) → IsSound v tree → IsNode tree d n → 0 < v.geometry.block_size
    → ChangesAt v.blocks new (d ∷ []) → KeepsPlace (v.blocks d) (new d) → HasBytes (v.blocks d) (new d) → stream_at (new d) ≡ stream_at (v.blocks d)
    → (inode_at (new d)).stream_bytes ≡ (inode_at (v.blocks d)).stream_bytes
    → IsSamePlace n now → now.size ≡ n.size → now.target ≡ n.target → HasStatus (with_blocks v new) d now
    → ((index : List ℕ) (kind : KeyKind) → key_in tree.root index kind d now ≡ key_in tree.root index kind d n)
    → IsPlain (record tree { nodes = insert tree.nodes d now }) → IsSound (with_blocks v new) (record tree { nodes = insert tree.nodes d now })

-- An attribute's stream shifts, and so do the blocks of its node.
abbrev pub AttributeShifts : Type 0
AttributeShifts = (v : Volume) (tree : Tree) (lists : Lists) (loose : List ℕ) (new : ℕ → List ℕ) (id : ℕ) (n : Node) (d : ℕ) (row : Row)
    → Stocked v tree lists loose → IsNode tree id n → attribute_directory v id ≡ Some d → In row (proper_rows v d)
    → Shifts v new (inode_blocks v (id_of row)) (inode_blocks (with_blocks v new) (id_of row))
    → Shifts v new (node_blocks v (id, n)) (node_blocks (with_blocks v new) (id, n)) × (new id ≡ v.blocks id)

-- An attribute directory's stream shifts. The inodes that its rows name since have the blocks that those of the rows before had, but for
-- loose ones that come to the node or go from it; and so the blocks of its node shift.
abbrev pub AttributeRowsShift : Type 0
AttributeRowsShift = (v : Volume) (tree : Tree) (lists : Lists) (gone come loose : List ℕ) (new : ℕ → List ℕ) (id : ℕ) (n : Node) (d : ℕ)
    → Stocked v tree lists (gone ++ loose) → IsNode tree id n → attribute_directory v id ≡ Some d
    → Shifts v new (inode_blocks v d) (inode_blocks (with_blocks v new) d)
    → AreSame (blocks_named v (proper_rows (with_blocks v new) d) ++ come) (blocks_named v (proper_rows v d) ++ gone)
    → Shifts v new (node_blocks v (id, n) ++ gone) (node_blocks (with_blocks v new) (id, n) ++ come) × (new id ≡ v.blocks id)
