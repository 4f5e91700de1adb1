-- What a device's blocks are after so many of its groups, and that replay of an image gives such a version.
use Rattle.std.specs.Prelude.{◌≡◌, ◌⊎◌, ◌≤◌, ℕ, List, [], ◌∷◌, ◌++◌, Bool, false, nat_le, if◌then◌else◌}
use Rattle.bfs_super.specs.declared.sup.Super.{Super}
use Rattle.bfs_super.specs.Geometry.{geometry_of}
use Rattle.bfs_log.specs.Replay.{Home, Replayed, Valid, super_of, blocks_of}
use Rattle.bfs_txn.specs.declared.group.Group.{Group}
use Rattle.bfs_device.specs.Layouts.{IsData, layout_of, homes_in}
use Rattle.bfs_device.specs.Phases.{IsHomeOf}

-- the changed blocks of the groups up to a number, the newest last
abbrev pub upto : ℕ → List Group → List Home
upto n [] = []
upto n (g ∷ gs) = (if nat_le g.last n then homes_in g.blocks else []) ++ upto n gs

-- the used blocks after them
abbrev pub used_upto : ℕ → List Group → ℕ → ℕ
used_upto n [] used = used
used_upto n (g ∷ gs) used = used_upto n gs (if nat_le g.last n then g.used else used)

-- the homes of the first group, of which alone the log may have entries
abbrev pub front_homes : List Group → List Home
front_homes [] = []
front_homes (g ∷ gs) = homes_in g.blocks

-- Replay of this image is defined. It gives a valid volume whose log is empty, with the superblock's geometry, log run, root and
-- indices, and with so many used blocks, and these blocks, but for block 0, those of the log and the touched. Behind block 0 it
-- changes none but these homes.
pub record RecoversTo (s : Super) (homes : List Home) (touched : ℕ → Bool) (blocks : ℕ → List ℕ) (used : ℕ) (image : List ℕ) : Type 0 where
  pub result : List ℕ
  pub replayed : Replayed image result
  pub valid : Valid result
  pub emptied : (super_of result).log_start ≡ (super_of result).log_end
  pub geometry : geometry_of (super_of result) ≡ record (geometry_of s) { used = used }
  pub agrees : (b : ℕ) → IsData (layout_of s) b → touched b ≡ false → blocks_of result b ≡ blocks b
  pub written : (b : ℕ) → 1 ≤ b → IsHomeOf homes b ⊎ (blocks_of result b ≡ blocks_of image b)
