-- Changed blocks, as pairs of a block's number and its bytes. Of several pairs of one block the newest, which is
-- the last, counts.
use Rattle.std.specs.Prelude.{◌≡◌, ◌<◌, ◌≤◌, ℕ, List, [], ◌∷◌, length, get_or, Option, Some, None, if◌then◌else◌, ◌==◌}

-- the first of the two that is there
abbrev pub or_else : Option (List ℕ) → Option (List ℕ) → Option (List ℕ)
or_else None o = o
or_else (Some x) o = Some x

-- the newest bytes of a block
abbrev pub newest : List (ℕ × List ℕ) → ℕ → Option (List ℕ)
newest [] k = None
newest (p ∷ ps) k = or_else (newest ps k) (if k == p.0 then Some p.1 else None)

-- the map with these pairs written over it
abbrev pub over : List (ℕ × List ℕ) → (ℕ → Option (List ℕ)) → ℕ → Option (List ℕ)
over ps m k = or_else (newest ps k) (m k)

-- the block of the pair at a place, and its bytes
abbrev pub number_at : List (ℕ × List ℕ) → ℕ → ℕ
number_at ps i = (get_or ps i (0, [])).0

abbrev pub bytes_at : List (ℕ × List ℕ) → ℕ → List ℕ
bytes_at ps i = (get_or ps i (0, [])).1

-- the blocks strictly ascend, so each stands there once
abbrev pub Ascends : List (ℕ × List ℕ) → Type 0
Ascends ps = (i j : ℕ) → i < j → j < length ps → number_at ps i < number_at ps j

-- they do between two places
abbrev pub AscendsIn : List (ℕ × List ℕ) → ℕ → ℕ → Type 0
AscendsIn ps from to = (i j : ℕ) → from ≤ i → i < j → j < to → number_at ps i < number_at ps j

-- each pair has a block's bytes
abbrev pub AreOfSize : ℕ → List (ℕ × List ℕ) → Type 0
AreOfSize size ps = (i : ℕ) → i < length ps → length (bytes_at ps i) ≡ size

-- The pairs before the mark are those of an open group, and those behind it are of the call that goes on: of each,
-- every block once, in order.
pub record AreLayered (mark size : ℕ) (ps : List (ℕ × List ℕ)) : Type 0 where
  pub within : mark ≤ length ps
  pub kept : AscendsIn ps 0 mark
  pub own : AscendsIn ps mark (length ps)
  pub sized : AreOfSize size ps

-- between two places, the block stands at this one
pub record IsAt (ps : List (ℕ × List ℕ)) (from to block i : ℕ) : Type 0 where
  pub from_on : from ≤ i
  pub before_to : i < to
  pub is : number_at ps i ≡ block

-- between two places, the block isn't there and would stand at this one
pub record IsGap (ps : List (ℕ × List ℕ)) (from to block i : ℕ) : Type 0 where
  pub from_on : from ≤ i
  pub up_to : i ≤ to
  pub below : (j : ℕ) → from ≤ j → j < i → number_at ps j < block
  pub above : (j : ℕ) → i ≤ j → j < to → block < number_at ps j
