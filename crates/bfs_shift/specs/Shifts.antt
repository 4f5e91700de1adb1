-- What the calls below make of a volume's blocks is a shift; and how shifts are widened and cited.
use Rattle.std.specs.Prelude.{◌≡◌, ◌≢◌, ◌<◌, ◌≤◌, ℕ, ℤ, ◌+◌, List, [], ◌++◌, Option, Some, false}
use Rattle.bfs_base.specs.Lists.{times, Has, IsOnce, AreSame, ChangesAt, counted_from}
use Rattle.bfs_base.specs.declared.kind.KeyKind.TheVariants.{Text}
use Rattle.bfs_super.specs.Conditions.{natural}
use Rattle.bfs_super.specs.declared.geometry.Geometry.{Geometry}
use Rattle.bfs_bitmap.specs.Runs as bits
use Rattle.bfs_bitmap.specs.Runs.{Room, Fits, IsFreeRun}
use Rattle.bfs_stream.specs.Places.{HasStream, whole_at}
use Rattle.bfs_stream.specs.Told.{contents, AreTold}
use Rattle.bfs_stream.specs.Grown.{IsOfVolume, Owns}
use Rattle.bfs_pages.specs.Maps.{assoc}
use Rattle.bfs_tree.specs.declared.call.Kind.TheVariants.{Dir}
use Rattle.bfs_tree.specs.Trees.{Node, Tree, IsNode}
use Rattle.bfs_sound.specs.Volumes.{Volume, sizes, bitmap_blocks, IsMarked}
use Rattle.bfs_sound.specs.Inodes.{inodes_of, index_directory}
use Rattle.bfs_sound.specs.Attributes.{attribute_directory, attribute_inodes}
use Rattle.bfs_sound.specs.Owners.{has_no_stream, owners, In}
use Rattle.bfs_shift.specs.Lists.{Lists}
use Rattle.bfs_shift.specs.Stocked.{Stocked, Shifts}

-- the volume that a told map is
abbrev pub volume_in : Geometry → (ℕ → Option (List ℕ)) → Volume
volume_in g m = record { geometry = g; blocks = contents m }

-- A run that is taken from the bitmap: its blocks come.
abbrev pub TakenShift : Type 0
TakenShift = (g : Geometry) (v now : Room) (m : ℕ → Option (List ℕ)) (first len : ℕ) (told : Option (ℕ → Option (List ℕ)))
    → IsOfVolume (sizes g) v → 0 < g.block_size → first + len ≤ v.blocks
    → IsFreeRun v m first len → (is : bits.IsMarked v now first len 1 m told)
    → Shifts (volume_in g m) (contents is.map) [] (counted_from first len)

-- A run that is given back: its blocks go.
abbrev pub GivenShift : Type 0
GivenShift = (g : Geometry) (v now : Room) (m : ℕ → Option (List ℕ)) (first len : ℕ) (told : Option (ℕ → Option (List ℕ)))
    → IsOfVolume (sizes g) v → 0 < g.block_size → first + len ≤ v.blocks
    → (is : bits.IsMarked v now first len 0 m told) → Shifts (volume_in g m) (contents is.map) (counted_from first len) []

-- Blocks that are marked, and none of the bitmap, are written, and nothing else.
abbrev pub WritesShift : Type 0
WritesShift = (v : Volume) (new : ℕ → List ℕ) (xs : List ℕ) → 0 < v.geometry.block_size → ChangesAt v.blocks new xs → IsOnce xs
    → ((k : ℕ) → Has xs k → IsMarked v k × (times k (bitmap_blocks v.geometry) ≡ 0))
    → Shifts v new xs xs

-- A shift is one of more blocks too, of marked ones that have those which go among them: the others of them stay.
abbrev pub ShiftWidens : Type 0
ShiftWidens = (v : Volume) (new : ℕ → List ℕ) (xs ys us vs : List ℕ) → Shifts v new xs ys
    → ((k : ℕ) → times k us + times k ys ≡ times k vs + times k xs) → ((k : ℕ) → times k xs ≤ times k us)
    → IsOnce us → ((k : ℕ) → Has us k → IsMarked v k) → Shifts v new us vs

-- The order of the blocks doesn't matter.
abbrev pub ShiftInAnyOrder : Type 0
ShiftInAnyOrder = (v : Volume) (new : ℕ → List ℕ) (xs ys us vs : List ℕ) → AreSame xs us → AreSame ys vs → Shifts v new xs ys
    → Shifts v new us vs

-- The stream of an owner of a stocked volume owns its blocks, where they are told and the bitmap fits: what its pages have for a
-- premise. Owners are each node with a stream, attribute directories, attributes, the index directory and the indices.
abbrev pub OwnerOwns : Type 0
OwnerOwns = (g : Geometry) (v : Room) (m : ℕ → Option (List ℕ)) (tree : Tree) (lists : Lists) (loose : List ℕ) (id : ℕ)
    → IsOfVolume (sizes g) v → 0 < g.block_size → Fits v m
    → Stocked (volume_in g m) tree lists loose → In (id, false) (owners (volume_in g m) tree) → HasStream (sizes g) (contents m) id
    → AreTold m (whole_at (sizes g) (contents m) id)
    → Owns (record { id = id; sizes = sizes g }) v [] m

-- And so does a stream whose blocks are loose.
abbrev pub LooseOwns : Type 0
LooseOwns = (g : Geometry) (v : Room) (m : ℕ → Option (List ℕ)) (tree : Tree) (lists : Lists) (own rest : List ℕ) (id : ℕ)
    → IsOfVolume (sizes g) v → 0 < g.block_size → Fits v m
    → Stocked (volume_in g m) tree lists (own ++ rest) → AreSame own (whole_at (sizes g) (contents m) id)
    → HasStream (sizes g) (contents m) id → AreTold m (whole_at (sizes g) (contents m) id)
    → Owns (record { id = id; sizes = sizes g }) v [] m

-- A directory of the tree is such an owner, and so are the index directory and each index.
abbrev pub DirectoryOwns : Type 0
DirectoryOwns = (g : Geometry) (v : Room) (m : ℕ → Option (List ℕ)) (tree : Tree) (lists : Lists) (loose : List ℕ) (d : ℕ) (n : Node)
    → IsOfVolume (sizes g) v → 0 < g.block_size → Fits v m → Stocked (volume_in g m) tree lists loose → IsNode tree d n → n.kind ≡ Dir
    → AreTold m (whole_at (sizes g) (contents m) d) → Owns (record { id = d; sizes = sizes g }) v [] m

abbrev pub NamesOwn : Type 0
NamesOwn = (g : Geometry) (v : Room) (m : ℕ → Option (List ℕ)) (tree : Tree) (lists : Lists) (loose : List ℕ)
    → IsOfVolume (sizes g) v → 0 < g.block_size → Fits v m → Stocked (volume_in g m) tree lists loose → g.indices ≢ 0
    → AreTold m (whole_at (sizes g) (contents m) g.indices) → Owns (record { id = g.indices; sizes = sizes g }) v [] m

abbrev pub IndexOwns : Type 0
IndexOwns = (g : Geometry) (v : Room) (m : ℕ → Option (List ℕ)) (tree : Tree) (lists : Lists) (loose : List ℕ) (name : List ℕ) (value : ℤ)
    → IsOfVolume (sizes g) v → 0 < g.block_size → Fits v m → Stocked (volume_in g m) tree lists loose → assoc Text lists.names name ≡ Some value
    → AreTold m (whole_at (sizes g) (contents m) (natural value)) → Owns (record { id = natural value; sizes = sizes g }) v [] m

-- Who owns: each node, by itself or with its stream; its attribute directory and its attributes; the index directory and the indices.
pub record AreOwners (v : Volume) (tree : Tree) : Type 0 where
  pub node : (id : ℕ) (n : Node) → IsNode tree id n → In (id, has_no_stream v (id, n)) (owners v tree)
  pub attribute : (id : ℕ) (n : Node) (j : ℕ) → IsNode tree id n → In j (attribute_inodes v (attribute_directory v id)) → In (j, false) (owners v tree)
  pub index : (j : ℕ) → In j (inodes_of v (index_directory v)) → In (j, false) (owners v tree)

abbrev pub OwnersAre : Type 0
OwnersAre = (v : Volume) (tree : Tree) → AreOwners v tree
