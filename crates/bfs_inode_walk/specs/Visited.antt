-- One inode that a check goes over: when it is right for its place, which blocks it has, and when what is said of it is true.
use Rattle.std.specs.Prelude.{◌≡◌, ◌≤◌, ◌&&◌, ℕ, List, ◌++◌, Bool, true, false, Some}
use Rattle.bfs_base.specs.Lists.{times, Has}
use Rattle.bfs_inode.specs.Refusals.{IsInode}
use Rattle.bfs_txn.specs.Faults.{Counts, IsCauseOf}
use Rattle.bfs_stream.specs.Places.{HasStream}
use Rattle.bfs_sound.specs.Volumes.{Volume, sizes}
use Rattle.bfs_sound.specs.Inodes.{mode_bits}
use Rattle.bfs_sound.specs.Owners.{owner_blocks}
use Rattle.bfs_finding.specs.Findings.{IsBroken}
use Rattle.bfs_finding.specs.Ways.{Way, Arrives, lacks_stream, blocks_by}
use Rattle.bfs_node_check.specs.declared.role.Role.{Role}
use Rattle.bfs_node_check.specs.Roles.{IsGoodMode, is_node, role_of}
use Rattle.bfs_node_check.specs.Inodes.{IsGoodNode}
use Rattle.bfs_inode_walk.specs.declared.fault.VisitFault.{VisitFault}
use Rattle.bfs_inode_walk.specs.declared.fault.VisitFault.TheVariants.{Wrong, Taken, Block}

-- in its place it has its own block alone: a node that is a short link
abbrev pub is_alone : Volume → Role → ℕ → Bool
is_alone v role b = is_node role && lacks_stream v b

-- the blocks of an inode in its place: its own, and unless that is all, its array blocks and those of its stream
abbrev pub role_blocks : Volume → Role → ℕ → List ℕ
role_blocks v role b = owner_blocks v (b, is_alone v role b)

-- An inode is right for its place: in its fields and its mode; a node in its kind, its items and its target; and in its stream, where
-- it has one.
pub record IsSoundIn (v : Volume) (role : Role) (b : ℕ) : Type 0 where
  pub inode : IsInode (v.blocks b) b v.geometry.shift
  pub mode : IsGoodMode role (mode_bits v b)
  pub node : is_node role ≡ true → IsGoodNode v b
  pub stream : is_alone v role b ≡ false → HasStream (sizes v.geometry) v.blocks b

-- a finding is true of the volume; the other faults say nothing of it
abbrev pub IsTrueOf : Volume → VisitFault → Type 0
IsTrueOf v (Wrong finding) = IsBroken v finding
IsTrueOf v (Taken block owner) = Unit {0}
IsTrueOf v (Block fault) = Unit {0}

-- a block is one of these, and is there a second time among those before with these
abbrev pub IsTwiceAmong : List ℕ → List ℕ → ℕ → Type 0
IsTwiceAmong before own block = Has own block × (2 ≤ times block (before ++ own))

-- a block that is said to be taken is one of these, which this inode has, and is among those that were claimed before
abbrev pub IsTaken : List ℕ → List ℕ → ℕ → VisitFault → Type 0
IsTaken before own id (Wrong finding) = Unit {0}
IsTaken before own id (Taken block owner) = (owner ≡ id) × Has own block × Has before block
IsTaken before own id (Block fault) = Unit {0}

-- no block is said to be taken
abbrev pub IsUntaken : VisitFault → Type 0
IsUntaken (Wrong finding) = Unit {0}
IsUntaken (Taken block owner) = ⊥
IsUntaken (Block fault) = Unit {0}

-- A block of an inode to which a way of some kind leads was claimed at first.
pub record IsClaimedFirst (IsWay : Way → Type 0) (v : Volume) (first : List ℕ) (block owner : ℕ) : Type 0 where
  pub way : Way
  pub kind : IsWay way
  pub arrives : Arrives v way owner
  pub here : Has (blocks_by v way owner) block
  pub claimed : Has first block

-- a block that is said to be taken is so; the other faults say nothing of claims
abbrev pub IsTakenFirst : (Way → Type 0) → Volume → List ℕ → VisitFault → Type 0
IsTakenFirst IsWay v first (Wrong finding) = Unit {0}
IsTakenFirst IsWay v first (Taken block owner) = IsClaimedFirst IsWay v first block owner
IsTakenFirst IsWay v first (Block fault) = Unit {0}

-- whether a block is one of these
abbrev pub IsHad : List ℕ → ℕ → Bool → Type 0
IsHad own block true = Has own block
IsHad own block false = times block own ≡ 0

-- a block that couldn't be had has its cause
abbrev pub IsVisitCause : Counts → Counts → VisitFault → Type 0
IsVisitCause old new (Wrong finding) = Unit {0}
IsVisitCause old new (Taken block owner) = Unit {0}
IsVisitCause old new (Block fault) = IsCauseOf old new fault

-- the blocks of an inode by the way that leads to it are those by its place
abbrev pub BlocksAreByRole : Type 0
BlocksAreByRole = (v : Volume) (way : Way) (role : Role) (b : ℕ) → role_of way ≡ Some role → blocks_by v way b ≡ role_blocks v role b
