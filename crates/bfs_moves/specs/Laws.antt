-- How the steps of a call are put together, where a call begins, and what is known at its end.
use Rattle.std.specs.Prelude.{◌≡◌, ◌<◌, ◌⊎◌, ◌↔◌, ℕ, ℤ, List, [], ◌∷◌, ◌++◌, length, Bool, true, Option, Some, None, IsSome}
use Rattle.std.specs.List.{Contains}
use Rattle.std.specs.List.Sorted.{IsStrictlySortedBy}
use Rattle.std.specs.FinMap.{get, insert, empty}
use Rattle.bfs_base.specs.Lists.{times}
use Rattle.bfs_base.specs.declared.kind.KeyKind.{KeyKind}
use Rattle.bfs_base.specs.declared.kind.KeyKind.TheVariants.{Text}
use Rattle.bfs_super.specs.declared.geometry.Geometry.{Geometry}
use Rattle.bfs_bitmap.specs.Runs.{Room, Fits, IsCounted}
use Rattle.bfs_stream.specs.Told.{contents}
use Rattle.bfs_stream.specs.Grown.{IsOfVolume}
use Rattle.bfs_pages.specs.Maps.{assoc}
use Rattle.bfs_tree.specs.Listings.{key_in, listed, pair_cmp, with_key}
use Rattle.bfs_tree.specs.Trees.{Node, Tree, IsPlain}
use Rattle.bfs_sound.specs.Volumes.{sizes, IsMarked, log_blocks}
use Rattle.bfs_sound.specs.Owners.{fixed_blocks, reach, IsMetadata}
use Rattle.bfs_sound.specs.Whole.{IsSound}
use Rattle.bfs_sound.specs.Laws.{changed}
use Rattle.bfs_shift.specs.Lists.{Lists, Agrees}
use Rattle.bfs_shift.specs.Laws.{lists_of}
use Rattle.bfs_shift.specs.Shifts.{volume_in}
use Rattle.bfs_shift.specs.Work.{IsAtWork, GoesOn}

-- nothing was done, and two steps were
abbrev pub GoesOnSame : Type 0
GoesOnSame = (g : Geometry) (v : Room) (m : ℕ → Option (List ℕ)) (tree : Tree) (old : ℕ → Bool) → GoesOn g v v m m tree tree old old

abbrev pub GoesOnTwice : Type 0
GoesOnTwice = (g : Geometry) (v now later : Room) (m mid map : ℕ → Option (List ℕ)) (tree between after : Tree) (old new last : ℕ → Bool)
    → GoesOn g v now m mid tree between old new → GoesOn g now later mid map between after new last → GoesOn g v later m map tree after old last

-- A call begins on a sound volume, where the bitmap is that of the volume and keeps its count, and metadata is told.
abbrev pub WorkBegins : Type 0
WorkBegins = (g : Geometry) (v : Room) (m : ℕ → Option (List ℕ)) (tree : Tree) → IsOfVolume (sizes g) v → Fits v m → IsCounted v m → IsSound (volume_in g m) tree
    → ((k : ℕ) → IsMetadata (volume_in g m) tree k → times k (fixed_blocks (volume_in g m)) ≡ 0 → IsSome (m k))
    → IsAtWork g v m tree (lists_of (volume_in g m) tree) [] × Agrees tree (lists_of (volume_in g m) tree)

-- a block of the volume that is neither block 0 nor one of the log
abbrev pub IsApart : Geometry → ℕ → Type 0
IsApart g k = (k < g.blocks) × (times k (0 ∷ log_blocks g) ≡ 0)

-- A call has ended on a volume with nothing loose: each block that was marked is, and is metadata just where it was; what was changed
-- is metadata, and neither block 0 nor of the log.
pub record IsCallKept (g : Geometry) (m map : ℕ → Option (List ℕ)) (tree after : Tree) (old new : ℕ → Bool) : Type 0 where
  pub marked : (k : ℕ) → IsMarked (volume_in g m) k → IsMarked (volume_in g map) k
  pub metadata : (k : ℕ) → IsMarked (volume_in g m) k → IsMetadata (volume_in g m) tree k ↔ IsMetadata (volume_in g map) after k
  pub changed : (k : ℕ) → new k ≡ true → (old k ≡ true) ⊎ (IsMetadata (volume_in g map) after k × IsApart g k)

abbrev pub CallIsKept : Type 0
CallIsKept = (g : Geometry) (v now : Room) (m map : ℕ → Option (List ℕ)) (tree after : Tree) (before lists : Lists) (old new : ℕ → Bool)
    → IsAtWork g v m tree before [] → IsAtWork g now map after lists [] → GoesOn g v now m map tree after old new → IsCallKept g m map tree after old new

-- The used blocks that the bitmap counts are what is reached, with the loose blocks.
abbrev pub UsedIsReach : Type 0
UsedIsReach = (g : Geometry) (v : Room) (m : ℕ → Option (List ℕ)) (tree : Tree) (lists : Lists) (loose : List ℕ) → IsAtWork g v m tree lists loose
    → v.tally.used ≡ length (reach (volume_in g m) tree ++ loose)

-- A call ends on a sound volume, whose count of used blocks is the bitmap's.
abbrev pub WorkEnds : Type 0
WorkEnds = (g : Geometry) (v : Room) (m : ℕ → Option (List ℕ)) (tree : Tree) (lists : Lists) → IsAtWork g v m tree lists [] → Agrees tree lists → IsPlain tree
    → tree.root ≡ g.root → (tree.indices ≡ empty → g.indices ≡ 0) → IsSound (changed (volume_in g m) (contents m) v.tally.used) tree

-- The pairs of an index with that of a node that has come: they are in order, they are those from before and its own, and it stands in
-- its place among them.
pub record IsListedMore (before pairs : List (List ℕ × ℕ)) (kind : KeyKind) (key : List ℕ) (id : ℕ) : Type 0 where
  pub sorted : IsStrictlySortedBy (pair_cmp kind) pairs
  pub has : (k : List ℕ) (n : ℕ) → Contains pairs (k, n) ↔ (Contains before (k, n) ⊎ ((k ≡ key) × (n ≡ id)))
  pub is : pairs ≡ with_key kind id (Some key) before

-- Where lists agree with a tree, and a node comes that an index lists, the pairs of the index are those of the tree with the node.
abbrev pub NodeIsListed : Type 0
NodeIsListed = (tree : Tree) (lists : Lists) (id : ℕ) (node : Node) (index : List ℕ) (value : ℤ) (key : List ℕ) → get tree.nodes id ≡ None → Agrees tree lists
    → assoc Text lists.names index ≡ Some value → key_in tree.root index (lists.kinds index) id node ≡ Some key
    → IsListedMore (lists.pairs index) (listed (record tree { nodes = insert tree.nodes id node }) index (lists.kinds index)) (lists.kinds index) key id
