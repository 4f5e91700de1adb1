-- What a device keeps beside its disk, and what is true of it.
use Rattle.std.specs.Prelude.{◌≡◌, ◌⊎◌, ◌<◌, ◌≤◌, ℕ, ◌+◌, ◌*◌, List, [], ◌∷◌, length, Bool, true, false, Option, Some, None, if◌then◌else◌}
use Rattle.std.specs.Vec.{vec_capacity}
use Rattle.bfs_disk.specs.State.{State, IsImage}
use Rattle.bfs_disk.specs.Blocks.{contents_of}
use Rattle.bfs_super.specs.declared.sup.Super.{Super}
use Rattle.bfs_super.specs.Conditions.{natural, IsValid}
use Rattle.bfs_log.specs.Replay.{over}
use Rattle.bfs_txn.specs.Changed.{AreOfSize, number_at}
use Rattle.bfs_txn.specs.declared.group.Group.{Group}
use Rattle.bfs_device.specs.declared.journal.Journal.{Journal}
use Rattle.bfs_device.specs.declared.journal.Mark.{Mark}
use Rattle.bfs_device.specs.declared.journal.Stop.{Stop}
use Rattle.bfs_device.specs.declared.journal.Phase.{Phase}
use Rattle.bfs_device.specs.declared.journal.Phase.TheVariants.{Log, LogSafe, Open, OpenSafe, Home as GoHome, HomeSafe, Tail, TailSafe, Pass}
use Rattle.bfs_device.specs.Layouts.{Layout, layout_of, IsData, ring_count}
use Rattle.bfs_device.specs.Versions.{upto, used_upto, front_homes, RecoversTo}
use Rattle.bfs_device.specs.Phases.{Rests, Stands}
use Rattle.bfs_device.specs.Orders.{IsOnce, AllAscend}

-- is the first group durable before the call of this phase?
abbrev pub is_durable : Phase → Bool
is_durable (Log at) = false
is_durable LogSafe = false
is_durable Open = false
is_durable OpenSafe = false
is_durable (GoHome at) = true
is_durable HomeSafe = true
is_durable Tail = true
is_durable TailSafe = true
is_durable Pass = false

-- The superblock with the log as it was before the first group, the groups that haven't left the log in their order, what is
-- next for the first of them, the number of the last that has left, the marks, how many more there is room for, the disk calls
-- since adoption, and the stop.
pub record Books : Type 0 where
  pub sup : Super
  pub groups : List Group
  pub phase : Phase
  pub left : ℕ
  pub marks : List Mark
  pub spare : ℕ
  pub moment : ℕ
  pub stop : Option Stop

pub record View (D : Type 0) : Type 0 where
  pub disk : D
  pub books : Books

-- the groups that aren't durable yet
abbrev pub waiting : List Group → Phase → List Group
waiting [] phase = []
waiting (g ∷ gs) phase = if is_durable phase then gs else g ∷ gs

-- the number of the last entry that is durable
abbrev pub durable_in : ℕ → List Group → Phase → ℕ
durable_in left [] phase = left
durable_in left (g ∷ gs) phase = if is_durable phase then g.last else left

abbrev pub durable_of : Books → ℕ
durable_of b = durable_in b.left b.groups b.phase

-- the number of the last group that was sealed
abbrev pub last_in : ℕ → List Group → ℕ
last_in left [] = left
last_in left (g ∷ gs) = last_in g.last gs

abbrev pub sealed_of : Books → ℕ
sealed_of b = last_in b.left b.groups

-- the number is the last of one of the groups
abbrev pub IsLastOf : ℕ → List Group → Type 0
IsLastOf n [] = ⊥
IsLastOf n (g ∷ gs) = (n ≡ g.last) ⊎ IsLastOf n gs

-- the durable number, or the last number of a later sealed group
abbrev pub IsVersion : Books → ℕ → Type 0
IsVersion b n = (n ≡ durable_of b) ⊎ IsLastOf n (waiting b.groups b.phase)

-- the bytes of a block in the version of a number: those of the newest group up to it that hasn't left the log, else what the
-- disk reads
abbrev pub version : Books → State → ℕ → ℕ → List ℕ
version b state n = over (upto n b.groups) (contents_of state (layout_of b.sup).sectors)

-- the used blocks of that version
abbrev pub used_of : Books → ℕ → ℕ
used_of b n = used_upto n b.groups (natural b.sup.used_blocks)

-- replay of this image gives one of the versions
pub record RecoversOne (b : Books) (touched : ℕ → Bool) (state : State) (image : List ℕ) : Type 0 where
  pub number : ℕ
  pub is_version : IsVersion b number
  pub recovers : RecoversTo b.sup (front_homes b.groups) touched (version b state number) (used_of b number) image

-- a group that may be sealed on such a volume
pub record IsSealed (l : Layout) (size : ℕ) (g : Group) : Type 0 where
  pub order : g.first ≤ g.last
  pub once : IsOnce g.blocks
  pub sized : AreOfSize size g.blocks
  pub places : (i : ℕ) → i < length g.blocks → IsData l (number_at g.blocks i)
  pub used : g.used ≤ l.blocks
  pub room : ring_count g.blocks < l.len

-- the group follows the number of another, which left so many used blocks; where it has no blocks it leaves as many
pub record IsNext (l : Layout) (size left used : ℕ) (g : Group) : Type 0 where
  pub follows : g.first ≡ left + 1
  pub sealed : IsSealed l size g
  pub same_used : g.blocks ≡ [] → g.used ≡ used

-- the groups follow one another
abbrev pub Follow : Layout → ℕ → ℕ → ℕ → List Group → Type 0
Follow l size left used [] = Unit {0}
Follow l size left used (g ∷ gs) = IsNext l size left used g × Follow l size g.last g.used gs

-- the phase is one of this group
abbrev pub IsPhaseOf : List (ℕ × List ℕ) → Phase → Type 0
IsPhaseOf pairs (Log at) = at < ring_count pairs
IsPhaseOf pairs LogSafe = 0 < length pairs
IsPhaseOf pairs Open = 0 < length pairs
IsPhaseOf pairs OpenSafe = 0 < length pairs
IsPhaseOf pairs (GoHome at) = at < length pairs
IsPhaseOf pairs HomeSafe = 0 < length pairs
IsPhaseOf pairs Tail = 0 < length pairs
IsPhaseOf pairs TailSafe = 0 < length pairs
IsPhaseOf pairs Pass = pairs ≡ []

abbrev pub IsPhaseFor : List Group → Phase → Type 0
IsPhaseFor [] phase = phase ≡ Pass
IsPhaseFor (g ∷ gs) phase = IsPhaseOf g.blocks phase

-- what a device knows of what it keeps
pub record Ready (j : Journal) : Type 0 where
  pub valid : IsValid j.sup
  pub empty : j.sup.log_start ≡ j.sup.log_end
  pub follow : Follow (layout_of j.sup) j.sup.block_size j.left (natural j.sup.used_blocks) j.groups.items
  pub phase : IsPhaseFor j.groups.items j.phase
  pub ordered : j.ordered ≡ true → AllAscend j.groups.items
  pub few : length j.groups.items ≤ 16
  pub room : 16 ≤ vec_capacity j.groups
  pub marks : length j.marks.items + length (waiting j.groups.items j.phase) + j.spare ≤ vec_capacity j.marks
  pub buffer : length j.buffer.items ≡ j.sup.block_size

abbrev pub books_of : Journal → Books
books_of j = record {
  sup = j.sup;
  groups = j.groups.items;
  phase = j.phase;
  left = j.left;
  marks = j.marks.items;
  spare = j.spare;
  moment = j.moment;
  stop = j.stop;
}

-- the blocks of the volume lie on the disk
abbrev pub IsOnDisk : Option ℕ → Super → Type 0
IsOnDisk None s = ⊥
IsOnDisk (Some sectors) s = (layout_of s).sectors * (layout_of s).blocks ≤ sectors

-- the disk has what the first group's phase says, in the version that the disk reads
abbrev pub Standing : Super → List Group → Phase → (ℕ → List ℕ) → (ℕ → Bool) → State → Type 0
Standing s [] phase v touched state = Rests s v touched state
Standing s (g ∷ gs) phase v touched state = Stands s g v touched state phase

-- A device whose disk holds this state is right: the disk has what the phase says, or, where it has stopped, each image that a
-- crash leaves recovers to one of the versions. The touched blocks are those that data writes named since the last barrier
-- that succeeded.
abbrev pub IsRightAs : Option Stop → Books → (ℕ → Bool) → State → Type 0
IsRightAs None b touched state = Standing b.sup b.groups b.phase (contents_of state (layout_of b.sup).sectors) touched state
IsRightAs (Some stop) b touched state = (image : List ℕ) → IsImage state image → RecoversOne b touched state image

abbrev pub IsRight : Books → (ℕ → Bool) → State → Type 0
IsRight b touched state = IsRightAs b.stop b touched state

-- each block but block 0 and those of the log has the same bytes in each version
abbrev pub AreSame : Books → State → Books → State → Type 0
AreSame old_books old new_books new = (n : ℕ) → IsVersion new_books n → (k : ℕ) → IsData (layout_of old_books.sup) k → version new_books new n k ≡ version old_books old n k
