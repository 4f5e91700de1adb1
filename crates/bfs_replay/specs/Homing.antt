-- A disk on which the blocks that the log names are written home.
use Rattle.std.specs.Prelude.{◌≡◌, ◌⊎◌, ◌<◌, ℕ, ◌+◌, ◌*◌, List, ◌++◌, length, All, Option, Bool, true, false}
use Rattle.bfs_base.specs.Images.{sector, overwritten}
use Rattle.bfs_base.specs.Lists.{times}
use Rattle.bfs_disk.specs.State.{State, IsOneOf, ReadsAs, Holds, Tells, newest}
use Rattle.bfs_super.specs.declared.sup.Super.{Super}
use Rattle.bfs_super.specs.Geometry.{geometry_of}
use Rattle.bfs_super.specs.Layout.{super_at, sector_of}
use Rattle.bfs_log.specs.Entry.{IsHome}
use Rattle.bfs_log.specs.Replay.{Home, Valid, AgreeBut, Logs, block_sectors, blocks_of, home_places, homes_of, log_to, super_of, with_homes}

-- The disk reads as the image, and is quiet too where that is asked.
abbrev pub Reads : Bool → List ℕ → State → Type 0
Reads false image s = ReadsAs s image
Reads true image s = Holds image s

-- Of the homes of a log some were written: the disk reads as the image with these, and outside of all homes' blocks as the image.
-- Where it was quiet, a crash too leaves every sector there as the image has it.
pub record Homing (quiet : Bool) (r : ℕ) (all done : List Home) (image : List ℕ) (s : State) : Type 0 where
  pub size : length image ≡ 512 * s.size
  pub reads : ReadsAs s (with_homes r done image)
  pub outside : (k j : ℕ) → j < r → times k (home_places all) ≡ 0 → r * k + j < s.size → newest s (r * k + j) ≡ sector (r * k + j) image
  pub others : quiet ≡ true → (k j : ℕ) (c : List ℕ) → j < r → times k (home_places all) ≡ 0 → r * k + j < s.size → IsOneOf (s.contents (r * k + j)) c → c ≡ sector (r * k + j) image

-- all homes are written, and then this superblock, which reads back
pub record Closed (r : ℕ) (all : List Home) (image : List ℕ) (s : Super) (c : List ℕ) : Type 0 where
  pub written : c ≡ overwritten 1 (sector_of s) (with_homes r all image)
  pub again : super_at (sector_of s) ≡ s

-- or the superblock isn't written yet, and only the homes' blocks differ from the image
abbrev pub ClosedOrNot : ℕ → List Home → List ℕ → Super → List ℕ → Type 0
ClosedOrNot r all image s c = AgreeBut r all image c ⊎ Closed r all image s c

-- the image has this superblock, and the homes are blocks that an entry of its log may name
pub record IsLogOf (image : List ℕ) (s : Super) (all : List Home) : Type 0 where
  pub super : super_of image ≡ s
  pub valid : Valid image
  pub homes : All (IsHome (geometry_of s)) (home_places all)

-- A walk over the log has written the homes of the entries in front home, and comes to those behind.
pub record Between (quiet : Bool) (image : List ℕ) (s : Super) (entries : List (List Home)) (at : ℕ) (told : Option State) : Type 0 where
  pub front : List (List Home)
  pub back : List (List Home)
  pub parts : front ++ back ≡ entries
  pub ahead : Logs (geometry_of s) (blocks_of image) at (log_to s) back
  pub known : Tells told (Homing quiet (block_sectors s) (homes_of entries) (homes_of front) image)
