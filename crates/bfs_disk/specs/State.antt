-- What a disk holds: for each sector of 512 bytes its contents since the last barrier that succeeded, the newest first.
use Rattle.std.specs.Prelude.{◌≡◌, ◌⊎◌, ◌<◌, ℕ, ◌+◌, ◌-◌, ◌*◌, ◌/◌, List, [], ◌∷◌, length, take, Bool, if◌then◌else◌, nat_le, nat_lt, get_or, IsTrue, ◌&&◌, Option, Some}
use Rattle.bfs_base.specs.Images.{sector, IsBytes}

pub record State : Type 0 where
  pub size : ℕ
  pub contents : ℕ → List (List ℕ)

abbrev pub IsOneOf : {X : Type 0} → List X → X → Type 0
IsOneOf [] x = ⊥
IsOneOf (y ∷ ys) x = (x ≡ y) ⊎ IsOneOf ys x

-- what a read of a sector gives
abbrev pub newest : State → ℕ → List ℕ
newest state k = get_or (state.contents k) 0 []

-- what the last barrier that succeeded kept of a sector
abbrev pub oldest : State → ℕ → List ℕ
oldest state k = get_or (state.contents k) (length (state.contents k) - 1) []

-- each sector has contents, of 512 numbers below 256 each
pub record Filled (state : State) : Type 0 where
  pub some : (k : ℕ) → k < state.size → 0 < length (state.contents k)
  pub long : (k : ℕ) → k < state.size → (c : List ℕ) → IsOneOf (state.contents k) c → length c ≡ 512
  pub bytes : (k : ℕ) → k < state.size → (c : List ℕ) → IsOneOf (state.contents k) c → IsBytes c

-- a crash may leave this: one content of each sector
pub record IsImage (state : State) (image : List ℕ) : Type 0 where
  pub size : length image ≡ 512 * state.size
  pub each : (k : ℕ) → k < state.size → IsOneOf (state.contents k) (sector k image)

-- the disk reads so
pub record ReadsAs (state : State) (image : List ℕ) : Type 0 where
  pub size : length image ≡ 512 * state.size
  pub each : (k : ℕ) → k < state.size → sector k image ≡ newest state k

-- is this one of the sectors that a write of these bytes names?
abbrev pub names : ℕ → List ℕ → ℕ → Bool
names at bytes k = nat_le at k && nat_lt k (at + length bytes / 512)

-- after a write
abbrev pub written : State → ℕ → List ℕ → State
written state at bytes = record {
  size = state.size;
  contents = λ k. if names at bytes k then sector (k - at) bytes ∷ state.contents k else state.contents k;
}

-- after a write that failed each named sector is old or new
pub record IsHalfWritten (old : State) (at : ℕ) (bytes : List ℕ) (new : State) : Type 0 where
  pub size : new.size ≡ old.size
  pub each : (k : ℕ) → (new.contents k ≡ old.contents k) ⊎ (IsTrue (names at bytes k) × (new.contents k ≡ sector (k - at) bytes ∷ old.contents k))

-- after a barrier that succeeded
abbrev pub settled : State → State
settled state = record { size = state.size; contents = λ k. take 1 (state.contents k) }

-- each sector has one content
abbrev pub IsQuiet : State → Type 0
IsQuiet state = (k : ℕ) → k < state.size → length (state.contents k) ≡ 1

-- a quiet disk with these bytes
abbrev pub state_of : List ℕ → State
state_of bytes = record { size = length bytes / 512; contents = λ k. sector k bytes ∷ [] }

-- The disk tells what it holds, and that has P. It is the one premise, and the one conclusion, of every clause on contents.
abbrev pub Tells : Option State → (State → Type 0) → Type 0
Tells told P = (state : State) × (told ≡ Some state) × P state

-- the disk tells, is quiet, and reads as this image
pub record Holds (image : List ℕ) (state : State) : Type 0 where
  pub quiet : IsQuiet state
  pub reads : ReadsAs state image
