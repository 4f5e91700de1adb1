-- An inode's block that was written.
use Rattle.std.specs.Prelude.{◌≡◌, ◌≤◌, ◌<◌, ◌⊎◌, ◌↔◌, ℕ, ℤ, pos, List, length, Bool, Option, Some, None}
use Rattle.std.specs.List.{Contains}
use Rattle.std.specs.List.Sorted.{IsStrictlySortedBy}
use Rattle.bfs_base.specs.declared.kind.KeyKind.{KeyKind}
use Rattle.bfs_base.specs.declared.kind.KeyKind.TheVariants.{Text}
use Rattle.bfs_super.specs.declared.geometry.Geometry.{Geometry}
use Rattle.bfs_bitmap.specs.Runs.{Room}
use Rattle.bfs_inode.specs.Inode.{inode_at, stream_at}
use Rattle.bfs_node.specs.Page.{Row}
use Rattle.bfs_pages.specs.Maps.{assoc}
use Rattle.bfs_txn.specs.Told.{with_block}
use Rattle.bfs_stream.specs.Sizes.{Origin, Sizes}
use Rattle.bfs_stream.specs.declared.fault.GrowFault.{GrowFault}
use Rattle.bfs_stream.specs.declared.fault.GrowFault.TheVariants as grow
use Rattle.bfs_stream.specs.Grown.{IsStuck}
use Rattle.bfs_stream.specs.Scans.{IsDamage}
use Rattle.bfs_node.specs.declared.fault.TreeFault.{TreeFault}
use Rattle.bfs_index.specs.Refused.{IsPairFault}
use Rattle.bfs_stream.specs.Told.{contents}
use Rattle.bfs_tree.specs.Listings.{pair_cmp}
use Rattle.bfs_tree.specs.Trees.{Tree}
use Rattle.bfs_make.specs.Mapped.{StreamNow}
use Rattle.bfs_make.specs.NumberTrees.{IsTreeOf}
use Rattle.bfs_shift.specs.Lists.{Lists}
use Rattle.bfs_shift.specs.Stocked.{HasWords}
use Rattle.bfs_shift.specs.Work.{IsAtWork}

-- The inode at a block has another stamp of the last change of its content, and nothing else has changed.
pub record IsRestamped (d : ℕ) (stamp : ℤ) (m : ℕ → Option (List ℕ)) (told : Option (ℕ → Option (List ℕ))) : Type 0 where
  pub bytes : List ℕ
  pub is : told ≡ Some (with_block d bytes m)
  pub inode : inode_at bytes ≡ record (inode_at (contents m d)) { last_modified_time = stamp }
  pub stream : stream_at bytes ≡ stream_at (contents m d)
  pub long : 1024 ≤ length (contents m d)
  pub before : HasWords (contents m d)
  pub after : HasWords bytes

-- a block that is long enough for an inode, whose mode and flags take four bytes each
pub record HasBlockWords (block : List ℕ) : Type 0 where
  pub long : 1024 ≤ length block
  pub words : HasWords block

-- An inode's stream was changed, as the call on its tree says, and its block had its words before.
pub record HasStreamSince (o : Origin) (v now : Room) (m : ℕ → Option (List ℕ)) (P : List ℕ → Type 0) (told : Option (ℕ → Option (List ℕ))) (old new : ℕ → Bool) : Type 0 where
  pub before : HasBlockWords (contents m o.id)
  pub since : StreamNow o v now m P told old new

-- it has these rows since
abbrev pub HasRowsSince : Origin → Room → Room → (ℕ → Option (List ℕ)) → List Row → Option (ℕ → Option (List ℕ)) → (ℕ → Bool) → (ℕ → Bool) → Type 0
HasRowsSince o v now m rows told old new = HasStreamSince o v now m (IsTreeOf Text rows) told old new

-- an index of this kind, that the index directory names, stands at this block of a volume at work
pub record HasIndexAt (g : Geometry) (v : Room) (m : ℕ → Option (List ℕ)) (inode : ℕ) (kind : KeyKind) : Type 0 where
  pub tree : Tree
  pub lists : Lists
  pub loose : List ℕ
  pub name : List ℕ
  pub work : IsAtWork g v m tree lists loose
  pub row : assoc Text lists.names name ≡ Some (pos inode)
  pub kind_is : lists.kinds name ≡ kind

-- why a node wasn't listed: as a call on the index says; and where there is no index, nothing is answered
abbrev pub IsListFault : Sizes → Room → (ℕ → Option (List ℕ)) → Option ℕ → TreeFault GrowFault → Type 0
IsListFault s v m None fault = ⊥
IsListFault s v m (Some inode) fault = IsPairFault (record { id = inode; sizes = s }) v m fault

-- Where an index has the name, it is of this kind, and the pairs are those that it lists and one more, in order.
abbrev pub ListsMore : Lists → KeyKind → List ℕ → List ℕ → ℕ → List (List ℕ × ℕ) → Type 0
ListsMore lists kind name key id pairs = (value : ℤ) → assoc Text lists.names name ≡ Some value
    → (lists.kinds name ≡ kind) × IsStrictlySortedBy (pair_cmp kind) pairs
    × ((k : List ℕ) (n : ℕ) → Contains pairs (k, n) ↔ (Contains (lists.pairs name) (k, n) ⊎ ((k ≡ key) × (n ≡ id))))

-- Why a stream that has room for so many blocks has not grown by them: fewer were added, and no free run of as many as were asked for is
-- left; or a block could not be had, and none is damaged.
abbrev pub IsFewFault : Origin → Room → (ℕ → Option (List ℕ)) → ℕ → GrowFault → Type 0
IsFewFault o v m blocks (grow.NoRun asked free) = (added : ℕ) × (added < blocks) × IsStuck o v m added asked free
IsFewFault o v m blocks (grow.Full room) = ⊥
IsFewFault o v m blocks (grow.Block fault) = ¬ IsDamage fault

-- So it is of a node whose bytes stand in its stream, once its inode was written; it asks for at most two blocks.
abbrev pub IsSoundFault : Origin → Room → (ℕ → Option (List ℕ)) → GrowFault → Type 0
IsSoundFault o v m fault = (bytes : List ℕ) × (blocks : ℕ) × (blocks ≤ 2) × IsFewFault o v (with_block o.id bytes m) blocks fault
