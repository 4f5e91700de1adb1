-- What replay of the log gives.
use Rattle.std.specs.Prelude.{◌≡◌, ◌≢◌, ◌<◌, ◌≤◌, ◌==◌, ℕ, ◌+◌, ◌*◌, ◌/◌, List, [], ◌∷◌, length, map, if◌then◌else◌}
use Rattle.std.specs.Int.{w32, cast_signed}
use Rattle.std.specs.List.{flat_map}
use Rattle.bfs_base.specs.Images.{sector, block, overwritten}
use Rattle.bfs_base.specs.Lists.{times}
use Rattle.bfs_super.specs.declared.sup.Super.{Super}
use Rattle.bfs_super.specs.declared.geometry.Geometry.{Geometry}
use Rattle.bfs_super.specs.Conditions.{natural, IsValid}
use Rattle.bfs_super.specs.Layout.{super_at, sector_of}
use Rattle.bfs_super.specs.Geometry.{geometry_of}
use Rattle.bfs_log.specs.declared.entry.Place.{Place}
use Rattle.bfs_log.specs.declared.entry.EntryFault.{EntryFault}
use Rattle.bfs_log.specs.Ring.{next_place}
use Rattle.bfs_log.specs.Entry.{IsEntry, IsFault, blocks_in, runs_of, log_first}

-- the superblock of an image
abbrev pub super_of : List ℕ → Super
super_of image = super_at (sector 1 image)

-- an image has two sectors, a superblock that meets its conditions, and the blocks that this counts
pub record Valid (image : List ℕ) : Type 0 where
  pub sectors : 512 * 2 ≤ length image
  pub super : IsValid (super_of image)
  pub blocks : natural (super_of image).num_blocks * (super_of image).block_size ≤ length image

-- the sectors of a block, and the blocks of an image
abbrev pub block_sectors : Super → ℕ
block_sectors s = s.block_size / 512

abbrev pub blocks_of : List ℕ → ℕ → List ℕ
blocks_of image b = block (block_sectors (super_of image)) b image

-- bytes that the log has for a block, which is their home
pub record Home : Type 0 where
  pub place : ℕ
  pub bytes : List ℕ

abbrev pub home_places : List Home → List ℕ
home_places homes = map (λ home. home.place) homes

-- the blocks of a volume are f; a place counts from the log's first block
module _ (g : Geometry) (f : ℕ → List ℕ) where
  abbrev pub logged : ℕ → List ℕ
  logged at = f (log_first g + at)

  -- the log has the bytes for these blocks from a place on, one after the other
  abbrev pub homes_from : ℕ → List ℕ → List Home
  homes_from at [] = []
  homes_from at (b ∷ blocks) = record { place = b; bytes = logged at } ∷ homes_from (next_place at 1 g.log.len) blocks

  -- the homes that the entry at a place names, whose bytes follow its array block
  abbrev pub homes_at : ℕ → List Home
  homes_at at = homes_from (next_place at 1 g.log.len) (blocks_in g (runs_of (logged at)))

  abbrev pub place_in : ℕ → ℕ → Place
  place_in at end = record { geometry = g; length = g.log.len; start = at; end = end }

  -- from one place to another the log has these entries, each with its homes
  abbrev pub Logs : ℕ → ℕ → List (List Home) → Type 0
  Logs at end [] = at ≡ end
  Logs at end (homes ∷ entries) =
      IsEntry (place_in at end) (logged at) × (homes ≡ homes_at at) × Logs (next_place at (1 + length homes) g.log.len) end entries

  -- behind these entries comes one that is malformed
  abbrev pub Fails : ℕ → ℕ → List (List Home) → EntryFault → Type 0
  Fails at end [] fault = (at ≢ end) × IsFault (place_in at end) (logged at) fault
  Fails at end (homes ∷ entries) fault =
      IsEntry (place_in at end) (logged at) × (homes ≡ homes_at at) × Fails (next_place at (1 + length homes) g.log.len) end entries fault

-- the homes of all entries, in order
abbrev pub homes_of : List (List Home) → List Home
homes_of entries = flat_map (λ homes. homes) entries

-- an image of r sectors a block with each home's bytes at its place, in order
abbrev pub with_homes : ℕ → List Home → List ℕ → List ℕ
with_homes r [] image = image
with_homes r (home ∷ homes) image = with_homes r homes (overwritten (r * home.place) home.bytes image)

-- the superblock of a volume whose log was replayed
abbrev pub emptied : Super → Super
emptied s = record s { log_start = s.log_end; flags = cast_signed w32 0x434c454e }

abbrev pub log_from : Super → ℕ
log_from s = natural s.log_start

abbrev pub log_to : Super → ℕ
log_to s = natural s.log_end

-- Replay of an image gives this one: the same where the log is empty, else each home is written and then the superblock.
pub record Replayed (image result : List ℕ) : Type 0 where
  pub valid : Valid image
  pub entries : List (List Home)
  pub log : Logs (geometry_of (super_of image)) (blocks_of image) (log_from (super_of image)) (log_to (super_of image)) entries
  pub same : result ≡ (if log_from (super_of image) == log_to (super_of image) then image
      else overwritten 1 (sector_of (emptied (super_of image))) (with_homes (block_sectors (super_of image)) (homes_of entries) image))

-- Replay of an image finds this fault first.
pub record Malformed (image : List ℕ) (fault : EntryFault) : Type 0 where
  pub valid : Valid image
  pub entries : List (List Home)
  pub log : Fails (geometry_of (super_of image)) (blocks_of image) (log_from (super_of image)) (log_to (super_of image)) entries fault

-- the same map of blocks with homes written over it in order
abbrev pub put : Home → (ℕ → List ℕ) → ℕ → List ℕ
put home f k = if k == home.place then home.bytes else f k

abbrev pub over : List Home → (ℕ → List ℕ) → ℕ → List ℕ
over [] f = f
over (home ∷ homes) f = over homes (put home f)

-- two images of r sectors a block have the same sectors but for those of the homes' blocks
pub record AgreeBut (r : ℕ) (homes : List Home) (one other : List ℕ) : Type 0 where
  pub size : length other ≡ length one
  pub each : (k j : ℕ) → j < r → times k (home_places homes) ≡ 0 → sector (r * k + j) other ≡ sector (r * k + j) one
