-- When an entry isn't answered for want of room: the image before it has room for its call, or the log has.
use Rattle.std.specs.Prelude.{◌≡◌, ◌≢◌, ◌≤◌, ◌+◌, ◌-◌, ◌*◌, ℕ, List, take, true, Some, slice_get}
use Rattle.bfs_super.specs.Conditions.{ceil}
use Rattle.bfs_tree.specs.declared.reply.Entry.{Entry}
use Rattle.bfs_tree.specs.declared.reply.Reply.TheVariants as replies
use Rattle.bfs_tree.specs.Histories.{Mounted, after}
use Rattle.bfs_sound.specs.Volumes.{Volume}
use Rattle.bfs_sound.specs.Need.{logged_need, need}
use Rattle.bfs_core.specs.Caused.{IsFreeIn, takes_out}
use Rattle.bfs_core.specs.Chains.{Image, IsChain, bare}

-- room for so many blocks: a free run of four times as many, in one allocation group
abbrev pub HasRoomFor : Volume → ℕ → Type 0
HasRoomFor v n = (first : ℕ) × IsFreeIn v (4 * n) first

-- room in the log for so many blocks: with the blocks of the arrays that tell of them, they are at most what it takes
abbrev pub HasLogRoomFor : Volume → ℕ → Type 0
HasLogRoomFor v n = n + ceil n 126 ≤ v.geometry.log.len - 1

-- Where the image before an entry has room for Need blocks of its call, the entry isn't answered for want of space.
abbrev pub RoomIsFound : Type 0
RoomIsFound = (t0 : Mounted) (first : Image) (history : List Entry) (images : ℕ → Image) → IsChain t0 first history images
    → (n : ℕ) (e : Entry) → slice_get history n ≡ Some e
    → HasRoomFor (bare (images n)) (need (bare (images n)) (after t0 (take n history)) e.call)
    → (free needed : ℕ) → e.reply ≢ replies.NoSpace free needed

-- A call that only takes out is never answered for want of space, whatever is free.
abbrev pub TakingWantsNoSpace : Type 0
TakingWantsNoSpace = (t0 : Mounted) (first : Image) (history : List Entry) (images : ℕ → Image) → IsChain t0 first history images
    → (n : ℕ) (e : Entry) → slice_get history n ≡ Some e → takes_out e.call ≡ true
    → (free needed : ℕ) → e.reply ≢ replies.NoSpace free needed

-- Where the log has room for Need blocks of a call, as Need is for the log, the entry isn't answered for want of it.
abbrev pub LogRoomIsFound : Type 0
LogRoomIsFound = (t0 : Mounted) (first : Image) (history : List Entry) (images : ℕ → Image) → IsChain t0 first history images
    → (n : ℕ) (e : Entry) → slice_get history n ≡ Some e
    → HasLogRoomFor (bare (images n)) (logged_need (bare (images n)) (after t0 (take n history)) e.call)
    → (blocks room : ℕ) → e.reply ≢ replies.NoLogRoom blocks room
