-- What a disk in memory holds, by its bytes and the record of its writes and barriers. The newest stands first. Each has the
-- number of idle calls before it: those that changed nothing, since the one before.
use Rattle.std.specs.Prelude.{◌≡◌, ◌⊎◌, ◌<◌, ◌≤◌, ℕ, suc, ◌+◌, ◌*◌, ◌/◌, ◌%◌, ◌^◌, List, [], ◌∷◌, length, take, drop, Bool, true, nat_le, nat_lt, ◌&&◌, ◌==◌, if◌then◌else◌}
use Rattle.std.specs.List.{list_all}
use Rattle.bfs_base.specs.Images.{sector, overwritten}
use Rattle.bfs_disk.specs.State.{State, IsImage, newest, oldest, written, settled, state_of}
use Rattle.bfs_disk.specs.declared.memory.Call.{Call}
use Rattle.bfs_disk.specs.declared.memory.Call.TheVariants.{Write, Barrier}

-- n bytes from a sector on
abbrev pub part : ℕ → ℕ → List ℕ → List ℕ
part at n bytes = take n (drop (512 * at) bytes)

-- the bytes before a call
abbrev pub before_call : Call → List ℕ → List ℕ
before_call (Write at replaced idle) bytes = overwritten at replaced.items bytes
before_call (Barrier idle) bytes = bytes

-- what a call made of what the disk held, with the bytes that it left
abbrev pub after_call : Call → List ℕ → State → State
after_call (Write at replaced idle) bytes state = written state at (part at (length replaced.items) bytes)
after_call (Barrier idle) bytes state = settled state

-- what the disk holds after these calls, which left these bytes
abbrev pub state_after : List Call → List ℕ → State
state_after [] bytes = state_of bytes
state_after (call ∷ calls) bytes = after_call call bytes (state_after calls (before_call call bytes))

-- the idle calls before a call
abbrev pub idle_before : Call → ℕ
idle_before (Write at replaced idle) = idle
idle_before (Barrier idle) = idle

-- the number of disk calls, of which so many idle ones came last
abbrev pub moments : ℕ → List Call → ℕ
moments idle [] = idle
moments idle (call ∷ calls) = idle + suc (moments (idle_before call) calls)

-- a crash at some moment since t might have left this
abbrev pub LeftSince : ℕ → List Call → List ℕ → ℕ → List ℕ → Type 0
LeftSince idle [] bytes t image = (t ≤ idle) × IsImage (state_of bytes) image
LeftSince idle (call ∷ calls) bytes t image = ((t ≤ moments idle (call ∷ calls)) × IsImage (state_after (call ∷ calls) bytes) image) ⊎ LeftSince (idle_before call) calls (before_call call bytes) t image

-- each number is below 256
abbrev pub are_bytes : List ℕ → Bool
are_bytes bytes = list_all (λ (b : ℕ). nat_lt b 256) bytes

-- a call names whole sectors of the disk, and left bytes
abbrev pub is_inside : Call → List ℕ → Bool
is_inside (Write at replaced idle) bytes = nat_le (512 * at + length replaced.items) (length bytes) && (length replaced.items == 512 * (length replaced.items / 512) && are_bytes bytes)
is_inside (Barrier idle) bytes = true

-- so does each call of the record, and the bytes are whole sectors
abbrev pub is_record : List Call → List ℕ → Bool
is_record [] bytes = length bytes == 512 * (length bytes / 512) && are_bytes bytes
is_record (call ∷ calls) bytes = is_inside call bytes && is_record calls (before_call call bytes)

-- the bytes that the last barrier left, or those at first
abbrev pub kept_bytes : List Call → List ℕ → List ℕ
kept_bytes [] bytes = bytes
kept_bytes (Write at replaced idle ∷ calls) bytes = kept_bytes calls (overwritten at replaced.items bytes)
kept_bytes (Barrier idle ∷ calls) bytes = bytes

-- a crash image: each sector has its newest content where bit k mod 64 of the pick is 1, else its oldest
pub record IsPicked (pick : ℕ) (state : State) (image : List ℕ) : Type 0 where
  pub size : length image ≡ 512 * state.size
  pub each : (k : ℕ) → k < state.size → sector k image ≡ (if pick / 2 ^ (k % 64) % 2 == 1 then newest state k else oldest state k)
