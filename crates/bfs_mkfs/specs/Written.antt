-- What the disk is made to hold, sector by sector.
use Rattle.std.specs.Prelude.{◌≡◌, ◌⊎◌, ◌<◌, ◌≤◌, ℕ, ◌+◌, ◌-◌, ◌*◌, ◌/◌, List, length, replicate}
use Rattle.bfs_base.specs.Images.{sector}
use Rattle.bfs_disk.specs.State.{State, IsOneOf, newest}

-- each content that a crash may leave of a sector has P, and what a read gives of it has Q
pub record Meets (P Q : ℕ → List ℕ → Type 0) (state : State) : Type 0 where
  pub leaves : (k : ℕ) → k < state.size → (c : List ℕ) → IsOneOf (state.contents k) c → P k c
  pub reads : (k : ℕ) → k < state.size → Q k (newest state k)

-- 512 zeros
abbrev pub blank_sector : List ℕ
blank_sector = replicate 512 0

-- the superblock's sector of an image is blank
abbrev pub IsBlank : List ℕ → Type 0
IsBlank image = sector 1 image ≡ blank_sector

-- an area of a volume: bytes from a sector on
pub record Area : Type 0 where
  pub at : ℕ
  pub bytes : List ℕ

abbrev pub area : ℕ → List ℕ → Area
area at bytes = record { at = at; bytes = bytes }

-- the sector behind an area
abbrev pub end_of : Area → ℕ
end_of a = a.at + length a.bytes / 512

-- both areas are behind the superblock's sector
abbrev pub AreBehind : Area → Area → Type 0
AreBehind a b = (2 ≤ a.at) × (2 ≤ b.at)

-- a sector's content is that of the area, where it is one of the area
abbrev pub Fits : Area → ℕ → List ℕ → Type 0
Fits area k c = area.at ≤ k → k < area.at + length area.bytes / 512 → c ≡ sector (k - area.at) area.bytes

-- a content of the superblock's sector is blank
abbrev pub Cleared : ℕ → List ℕ → Type 0
Cleared k c = k ≡ 1 → c ≡ blank_sector

-- the first area is written too
abbrev pub HalfFilled : Area → ℕ → List ℕ → Type 0
HalfFilled a k c = Cleared k c × Fits a k c

-- and those of two areas are written
pub record Filled (a b : Area) (k : ℕ) (c : List ℕ) : Type 0 where
  pub super : k ≡ 1 → c ≡ blank_sector
  pub first : Fits a k c
  pub second : Fits b k c

-- the superblock's sector is blank or this one
pub record Opening (block : List ℕ) (a b : Area) (k : ℕ) (c : List ℕ) : Type 0 where
  pub super : k ≡ 1 → (c ≡ blank_sector) ⊎ (c ≡ block)
  pub first : Fits a k c
  pub second : Fits b k c

-- it is this one
pub record Opened (block : List ℕ) (a b : Area) (k : ℕ) (c : List ℕ) : Type 0 where
  pub super : k ≡ 1 → c ≡ block
  pub first : Fits a k c
  pub second : Fits b k c

-- the whole of what is written: the superblock's sector and both areas, which lie in the image's first n sectors
pub record IsWritten (block : List ℕ) (a b : Area) (n : ℕ) (image : List ℕ) : Type 0 where
  pub inside : end_of b ≤ n
  pub long : 512 * n ≤ length image
  pub super : sector 1 image ≡ block
  pub first : (k : ℕ) → k < length image / 512 → Fits a k (sector k image)
  pub second : (k : ℕ) → k < length image / 512 → Fits b k (sector k image)
