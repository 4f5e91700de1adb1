-- An index that is made.
use Rattle.std.specs.Prelude.{◌≡◌, ◌≢◌, ℕ, ℤ, pos, List, [], ◌++◌, Bool, true, false, Option, Some, None}
use Rattle.std.specs.FinMap.{get, insert}
use Rattle.bfs_base.specs.Keys.{IsTreeKind}
use Rattle.bfs_base.specs.Lists.{Has}
use Rattle.bfs_base.specs.declared.kind.KeyKind.{KeyKind}
use Rattle.bfs_base.specs.declared.kind.KeyKind.TheVariants.{Text, I32, U32, I64, U64, F32, F64}
use Rattle.bfs_bytes.specs.declared.Run.{Run}
use Rattle.bfs_super.specs.declared.geometry.Geometry.{Geometry}
use Rattle.bfs_bitmap.specs.Runs.{Room}
use Rattle.bfs_node.specs.Page.{Row}
use Rattle.bfs_maps.specs.Laws.{DiffersAt}
use Rattle.bfs_pages.specs.Maps.{assoc}
use Rattle.bfs_stream.specs.Told.{AreTold}
use Rattle.bfs_make.specs.declared.making.InodeForm.{InodeForm}
use Rattle.bfs_tree.specs.Listings.{listed}
use Rattle.bfs_tree.specs.Names.{is_bad_name}
use Rattle.bfs_tree.specs.Trees.{Tree, HasBuiltIn}
use Rattle.bfs_sound.specs.Inodes.{inode_blocks}
use Rattle.bfs_shift.specs.Lists.{Lists, with_names, with_index}
use Rattle.bfs_shift.specs.Shifts.{volume_in}
use Rattle.bfs_shift.specs.Stocked.{IsListing}
use Rattle.bfs_shift.specs.Work.{IsAtWork, GoesOn, IsStepped}
use Rattle.bfs_look.specs.Ready.{IsReady}

-- what holds of a call that makes an index, whatever the volume: the name isn't bad, and its keys aren't floats
pub record MayIndex (name : List ℕ) (kind : KeyKind) : Type 0 where
  pub good_name : is_bad_name name ≡ false
  pub tree_kind : IsTreeKind kind

-- the tree has the indices that list every node by what it is, and none of this name
pub record IsNewIndex (tree : Tree) (name : List ℕ) : Type 0 where
  pub built_in : HasBuiltIn tree.indices
  pub absent : get tree.indices name ≡ None

-- The mode of an index's inode: the mark of an index, a directory's bits, 0700, and one bit for the kind of its keys. In octal 04100040700,
-- 04200040700, 04400040700, 04010040700 and 04020040700.
abbrev pub index_mode : KeyKind → ℕ
index_mode Text = 0x210041c0
index_mode I32 = 0x220041c0
index_mode U32 = 0x240041c0
index_mode I64 = 0x202041c0
index_mode U64 = 0x204041c0
index_mode F32 = 0x200041c0
index_mode F64 = 0x200041c0

-- what an index's inode is made with, in the index directory at an address
abbrev pub index_form : Run → KeyKind → ℤ → InodeForm
index_form parent kind stamp = record { parent = parent; mode = pos (index_mode kind); flags = pos 1; kind = 0; stamp = stamp }

-- An index without pairs was made of free blocks: they are loose, and each of them is told and changed.
pub record HasLooseIndex (g : Geometry) (v now : Room) (m : ℕ → Option (List ℕ)) (tree : Tree) (lists : Lists) (kind : KeyKind) (id : ℕ) (told : Option (ℕ → Option (List ℕ))) (old new : ℕ → Bool) : Type 0 where
  pub map : ℕ → Option (List ℕ)
  pub is : told ≡ Some map
  pub work : IsAtWork g now map tree lists (inode_blocks (volume_in g map) id ++ [])
  pub goes_on : GoesOn g v now m map tree tree old new
  pub listing : IsListing (volume_in g map) id kind []
  pub are_told : AreTold map (inode_blocks (volume_in g map) id)
  pub are_changed : (k : ℕ) → Has (inode_blocks (volume_in g map) id) k → new k ≡ true

-- the tree with an index more
abbrev pub with_new_index : Tree → List ℕ → KeyKind → Tree
with_new_index tree name kind = record tree { indices = insert tree.indices name kind }

-- An index that lists nothing is loose on a volume at work, each of its blocks told and changed; no index has the name, and there is an index
-- directory.
pub record IsToJoin (g : Geometry) (v : Room) (m : ℕ → Option (List ℕ)) (tree : Tree) (lists : Lists) (kind : KeyKind) (name : List ℕ) (id : ℕ) (changed : ℕ → Bool) : Type 0 where
  pub work : IsAtWork g v m tree lists (inode_blocks (volume_in g m) id ++ [])
  pub listing : IsListing (volume_in g m) id kind []
  pub are_told : AreTold m (inode_blocks (volume_in g m) id)
  pub are_changed : (k : ℕ) → Has (inode_blocks (volume_in g m) id) k → changed k ≡ true
  pub absent : assoc Text lists.names name ≡ None
  pub there : g.indices ≢ 0

-- some is, on a volume at work with some tree and lists
pub record HasToJoin (g : Geometry) (v : Room) (m : ℕ → Option (List ℕ)) (name : List ℕ) (id : ℕ) (changed : ℕ → Bool) : Type 0 where
  pub tree : Tree
  pub lists : Lists
  pub kind : KeyKind
  pub ready : IsToJoin g v m tree lists kind name id changed

-- It has joined the indices: the index directory's rows have gained its name, the volume stands for the tree with it, and no block is loose.
pub record HasIndexJoined (g : Geometry) (v now : Room) (m : ℕ → Option (List ℕ)) (tree : Tree) (lists : Lists) (kind : KeyKind) (name : List ℕ) (id : ℕ) (told : Option (ℕ → Option (List ℕ))) (old new : ℕ → Bool) : Type 0 where
  pub names : List Row
  pub step : IsStepped g v now m tree (with_new_index tree name kind) (with_index (with_names lists names) name kind []) [] told old new
  pub differs : DiffersAt Text lists.names names name (Some (pos id))

-- a volume between two calls may have an index of this name and kind, which is to list these pairs
pub record HasNewIndex (g : Geometry) (v : Room) (m : ℕ → Option (List ℕ)) (name : List ℕ) (kind : KeyKind) (pairs : List (List ℕ × ℕ)) : Type 0 where
  pub tree : Tree
  pub lists : Lists
  pub ready : IsReady g v m tree lists
  pub fresh : IsNewIndex tree name
  pub wanted : pairs ≡ listed tree name kind
