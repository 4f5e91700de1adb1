-- Need: how many blocks a call may allocate, and how many it may change, by the volume and its tree before the call.
use Rattle.std.specs.Prelude.{ℕ, zero, suc, ℤ, ◌+◌, ◌-◌, ◌*◌, List, [], ◌∷◌, ◌++◌, length, drop, min, nat_lt, nat_le, not, ◌==◌, if◌then◌else◌, Option, Some, None, is_some, replicate, sum_by, codes}
use Rattle.std.specs.List.{filter, flat_map}
use Rattle.std.specs.Option.{option_map_or}
use Rattle.std.specs.FinMap.{entries}
use Rattle.bfs_base.specs.declared.kind.KeyKind.{KeyKind}
use Rattle.bfs_base.specs.declared.kind.KeyKind.TheVariants.{Text}
use Rattle.bfs_super.specs.Conditions.{natural, ceil}
use Rattle.bfs_super.specs.Geometry.{bitmap_length}
use Rattle.bfs_node.specs.Header.{header_at}
use Rattle.bfs_values.specs.Maps.{assoc}
use Rattle.bfs_smalldata.specs.Items.{Item, size_of, sizes_of, items_of}
use Rattle.bfs_smalldata.specs.Edits.{without}
use Rattle.bfs_stream.specs.Sizes.{array_length}
use Rattle.bfs_stream.specs.Places.{fields, arrays_at}
use Rattle.bfs_tree.specs.declared.call.Call.{Call}
use Rattle.bfs_tree.specs.declared.call.Call.TheVariants as calls
use Rattle.bfs_tree.specs.Listings.{listed, key_at}
use Rattle.bfs_tree.specs.Names.{target_of}
use Rattle.bfs_tree.specs.Refusals.{is_built_in}
use Rattle.bfs_tree.specs.Steps.{changes_tree}
use Rattle.bfs_tree.specs.Trees.{Node, Tree, child, is_dir}
use Rattle.bfs_sound.specs.Volumes.{Volume, sizes}
use Rattle.bfs_sound.specs.Inodes.{content, stream_blocks, rows_of, inodes_of, index_directory}
use Rattle.bfs_sound.specs.Attributes.{own_name, is_name_item, attribute_directory}
use Rattle.bfs_sound.specs.Listings.{index_rows}
use Rattle.bfs_sound.specs.Owners.{Owner, with_streams, node_owners}

-- What a call costs: the levels of the tree of each row that it puts or takes; what filling a new index takes; the data blocks
-- of attributes and targets, and those that a file gains; the array blocks that the file gains; and how many blocks the
-- streams have that are cut or given up, their array blocks among them.
pub record Cost : Type 0 where
  pub rows : List ℕ
  pub filling : ℕ
  pub bytes : ℕ
  pub file : ℕ
  pub arrays : ℕ
  pub left : ℕ

abbrev pub no_cost : Cost
no_cost = record { rows = []; filling = 0; bytes = 0; file = 0; arrays = 0; left = 0 }

-- One row in a tree of so many levels: at most 3 * levels + 4 pages, one inode, 12 array blocks, and bitmap blocks.
abbrev pub row_need : ℕ → ℕ
row_need levels = 4 * levels + 24

-- One bitmap block for each data block and for each block that is left, but no more than the bitmap has.
abbrev pub bitmap_need : Volume → Cost → ℕ
bitmap_need v c = min (c.bytes + c.file + c.left) (bitmap_length v.geometry.blocks v.geometry.block_size)

-- all but the data blocks of a file, which the log doesn't hold
abbrev pub logged_cost : Volume → Cost → ℕ
logged_cost v c = sum_by row_need c.rows + c.filling + c.bytes + c.arrays + bitmap_need v c + 8

-- two costs together
abbrev pub both : Cost → Cost → Cost
both a b = record { rows = a.rows ++ b.rows; filling = a.filling + b.filling; bytes = a.bytes + b.bytes; file = a.file + b.file; arrays = a.arrays + b.arrays; left = a.left + b.left }

-- The longest of some items, and among equals the last.
abbrev pub longer : Item → Option Item → Item
longer item None = item
longer item (Some other) = if nat_le (size_of item) (size_of other) then other else item

abbrev pub longest : List Item → Option Item
longest [] = None
longest (item ∷ items) = Some (longer item (longest items))

-- The items that move, the longest first, until the others fit into so many bytes; at most n of them.
abbrev pub moving : ℕ → ℕ → List Item → List Item
moving zero room items = []
moving (suc n) room items = if nat_le (sizes_of items) room then [] else option_map_or (λ item. item ∷ moving n room (without item.name items)) (longest items) []

-- the attributes among the items of an area that move where the node's own name gets so many bytes
abbrev pub moving_from : ℕ → ℕ → Option (List Item) → List Item
moving_from size name_length None = []
moving_from size name_length (Some items) =
    let attributes = filter (λ item. not (is_name_item item)) items in
    moving (length attributes) (size - (8 + length own_name + 3 + name_length + 1)) attributes

module _ (v : Volume) where
  -- the levels of the tree in an inode's stream
  abbrev pub levels_of : ℕ → ℕ
  levels_of id = (header_at (content v id)).levels

  -- the blocks that so many bytes fill
  abbrev pub filled : ℕ → ℕ
  filled n = ceil n v.geometry.block_size

  -- the blocks of a stream with its array blocks, and those of the streams of owners
  abbrev pub stream_length : ℕ → ℕ
  stream_length id = length (arrays_at (sizes v.geometry) v.blocks id) + length (stream_blocks v id)

  abbrev pub streams_length : List Owner → ℕ
  streams_length os = sum_by (λ o. if o.1 then 0 else stream_length o.0) os

  -- a row of the tree that a row of the index directory names, if it is there
  abbrev pub row_at : Option ℤ → List ℕ
  row_at None = []
  row_at (Some value) = levels_of (natural value) ∷ []

  -- a row of the index of this name, where there is one
  abbrev pub index_row : List ℕ → List ℕ
  index_row name = row_at (assoc Text (index_rows v) name)

  -- a row of the index of an attribute's name; the built-in indices list no attributes
  abbrev pub attribute_index_row : List ℕ → List ℕ
  attribute_index_row name = if is_built_in name then [] else index_row name

  -- a row of each built-in index
  abbrev pub built_in_rows : List ℕ
  built_in_rows = index_row (codes "name") ++ index_row (codes "size") ++ index_row (codes "last_modified")

  -- a row of a directory of inodes; one that is made for it has a tree of one level
  abbrev pub row_of : Option ℕ → ℕ
  row_of None = 1
  row_of (Some d) = levels_of d

  -- a row of the attribute directory of a node
  abbrev pub attribute_row : ℕ → ℕ
  attribute_row id = row_of (attribute_directory v id)

  -- the rows of a node in the indices: one in each built-in index, and one in each attribute index that lists it
  abbrev pub rows_of_node : Tree → ℕ → List ℕ
  rows_of_node tree id =
      built_in_rows ++ flat_map (λ (e : List ℕ × KeyKind). if is_some (key_at tree e.0 e.1 id) then attribute_index_row e.0 else []) (entries tree.indices)

  -- the attributes of a node that move out of small data where it gets this name
  abbrev pub moves : ℕ → List ℕ → List Item
  moves id name = moving_from (length (drop 232 (v.blocks id))) (length name) (items_of (drop 232 (v.blocks id)))

  -- Make: a row of the directory and of the three indices, and the blocks of a target that the inode has no room for
  abbrev pub target_length : List ℕ → ℕ
  target_length target = if nat_lt (length target) 144 then 0 else filled (length target)

  abbrev pub making : ℕ → List ℕ → Cost
  making dir target = record no_cost { rows = levels_of dir ∷ built_in_rows; bytes = target_length target }

  -- Remove: a row of the directory, the node's rows in the indices, and all its streams
  abbrev pub removing : Tree → ℕ → Option (ℕ × Node) → Cost
  removing tree dir None = no_cost
  removing tree dir (Some e) = record no_cost { rows = levels_of dir ∷ rows_of_node tree e.0; left = streams_length (node_owners v e) }

  -- Rename: a row of each directory, two of the index of names, one for `..`, and one for each attribute that moves
  abbrev pub dots_row : ℕ × Node → List ℕ
  dots_row e = if is_dir e.1.kind then levels_of e.0 ∷ [] else []

  abbrev pub moving_cost : ℕ → ℕ → ℕ × Node → List Item → Cost
  moving_cost dir to_dir e items = record no_cost {
    rows = (levels_of dir ∷ levels_of to_dir ∷ index_row (codes "name") ++ index_row (codes "name")) ++ (dots_row e ++ replicate (length items) (attribute_row e.0));
    bytes = sum_by (λ (item : Item). filled (length item.bytes)) items;
  }

  -- and where another node of the name is replaced, what it costs to remove that
  abbrev pub replacing : Tree → ℕ → ℕ → Option (ℕ × Node) → Cost
  replacing tree to_dir id None = no_cost
  replacing tree to_dir id (Some there) = if there.0 == id then no_cost else removing tree to_dir (Some there)

  abbrev pub renaming : Tree → ℕ → ℕ → List ℕ → Option (ℕ × Node) → Cost
  renaming tree dir to_dir to_name None = no_cost
  renaming tree dir to_dir to_name (Some e) = both (moving_cost dir to_dir e (moves e.0 to_name)) (replacing tree to_dir e.0 (child tree to_dir to_name))

  -- SetSize: two rows of each of two indices. A file that grows gains data blocks, as many as whole arrays have, and array
  -- blocks for their runs; of one that is cut all blocks count.
  abbrev pub growth : ℕ → ℕ → ℕ
  growth id size = array_length (sizes v.geometry) * ceil (filled size - length (stream_blocks v id)) (array_length (sizes v.geometry))

  abbrev pub arrays_for : ℕ → ℕ
  arrays_for gained = if gained == 0 then 0 else ceil gained 128 + 3 * array_length (sizes v.geometry)

  abbrev pub resizing : ℕ → ℕ → Cost
  resizing id size = record no_cost {
    rows = (index_row (codes "size") ++ index_row (codes "size")) ++ (index_row (codes "last_modified") ++ index_row (codes "last_modified"));
    file = growth id size;
    arrays = arrays_for (growth id size);
    left = if nat_lt size (natural (fields (sizes v.geometry) v.blocks id).size) then stream_length id else 0;
  }

  -- The inodes that may be given up with an attribute of this name: its own, and with the last row the attribute directory.
  abbrev pub left_with : Option ℕ → Option ℤ → List ℕ
  left_with o None = []
  left_with o (Some value) = if length (rows_of v o) == 1 then inodes_of v o else natural value ∷ []

  abbrev pub attribute_left : ℕ → List ℕ → ℕ
  attribute_left id name = streams_length (with_streams (left_with (attribute_directory v id) (assoc Text (rows_of v (attribute_directory v id)) name)))

  -- AttrWrite: two rows of the attribute's index and two of the attribute directory. AttrRemove: one of each.
  abbrev pub attribute_writing : ℕ → List ℕ → ℕ → Cost
  attribute_writing id name n = record no_cost {
    rows = (attribute_row id ∷ attribute_row id ∷ attribute_index_row name) ++ attribute_index_row name;
    bytes = filled n;
    left = attribute_left id name;
  }

  abbrev pub attribute_removing : ℕ → List ℕ → Cost
  attribute_removing id name = record no_cost { rows = attribute_row id ∷ attribute_index_row name; left = attribute_left id name }

  -- IndexMake: a row of the index directory, and 4 blocks for each pair that is listed with 24 more. IndexRemove: a row of
  -- the index directory, and the index's stream.
  abbrev pub index_making : ℕ → Cost
  index_making pairs = record no_cost { rows = row_of (index_directory v) ∷ []; filling = 4 * pairs + 24 }

  abbrev pub index_left : Option ℤ → ℕ
  index_left None = 0
  index_left (Some value) = stream_length (natural value)

  abbrev pub index_removing : List ℕ → Cost
  index_removing name = record no_cost { rows = row_of (index_directory v) ∷ []; left = index_left (assoc Text (index_rows v) name) }

  -- the cost of a call that changes the tree; a mode costs no rows, and a hold for writing two of `last_modified`
  abbrev pub cost_of : Tree → Call → Cost
  cost_of tree (calls.Make dir name kind mode) = making dir (target_of kind)
  cost_of tree (calls.Remove dir name) = removing tree dir (child tree dir name)
  cost_of tree (calls.Rename dir name to_dir to_name) = renaming tree dir to_dir to_name (child tree dir name)
  cost_of tree (calls.SetSize id size) = resizing id size
  cost_of tree (calls.AttrWrite id name kind bytes) = attribute_writing id name (length bytes)
  cost_of tree (calls.AttrRemove id name) = attribute_removing id name
  cost_of tree (calls.IndexMake name kind) = index_making (length (listed tree name kind))
  cost_of tree (calls.IndexRemove name) = index_removing name
  cost_of tree (calls.Hold id at count writes) = record no_cost { rows = index_row (codes "last_modified") ++ index_row (codes "last_modified") }
  cost_of tree _ = no_cost

  -- Need for the log, and Need: the data blocks of a file are in the second alone. A call that only reads has need of nothing.
  abbrev pub logged_need : Tree → Call → ℕ
  logged_need tree call = if changes_tree call then logged_cost v (cost_of tree call) else 0

  abbrev pub need : Tree → Call → ℕ
  need tree call = if changes_tree call then logged_cost v (cost_of tree call) + (cost_of tree call).file else 0
