-- Legal and After: the histories that a tree may have.
use Rattle.std.specs.Prelude.{◌≡◌, ◌<◌, ◌≤◌, ◌+◌, ◌*◌, ◌<ℤ◌, ◌+ℤ◌, ℕ, ℤ, pos, Some, IsSome, List, [], ◌∷◌, ◌++◌, length, Bool, true, false, IsTrue, ◌==◌, if◌then◌else◌}
use Rattle.std.specs.List.{All, list_any, fold}
use Rattle.std.specs.Int.{int_max}
use Rattle.std.specs.FinMap.{get}
use Rattle.bfs_tree.specs.declared.call.Call.{Call}
use Rattle.bfs_tree.specs.declared.call.Call.TheVariants as calls
use Rattle.bfs_tree.specs.declared.reply.Reply.{Reply}
use Rattle.bfs_tree.specs.declared.reply.Reply.TheVariants as replies
use Rattle.bfs_tree.specs.declared.reply.Entry.{Entry}
use Rattle.bfs_tree.specs.Steps.{Step, next, is_by_disk}
use Rattle.bfs_tree.specs.States.{State, Known}
use Rattle.bfs_tree.specs.Trees.{Tree, Node, IsNode, is_file}

-- what stands at mounting: a tree, and the bytes of its files by (id, place)
pub record Mounted : Type 0 where
  pub tree : Tree
  pub bytes : Known

-- a place of a file, below its size
abbrev pub IsFilePlace : Tree → ℕ → ℕ → Type 0
IsFilePlace tree id place = (node : Node) × IsNode tree id node × IsTrue (is_file node.kind) × (place < node.size)

-- The bytes at mounting are those of the files: each is a byte at a place of a file, and each such place has one.
pub record IsMounted (t0 : Mounted) : Type 0 where
  pub within : (id place byte : ℕ) → get t0.bytes (id, place) ≡ Some byte → (byte < 256) × IsFilePlace t0.tree id place
  pub whole : (id place : ℕ) → IsFilePlace t0.tree id place → IsSome (get t0.bytes (id, place))

-- The stamp that an entry draws: the greater of the one after the last stamp, and the seconds of the clock in the upper 48
-- bits. The last stamp is that of the history's last entry, and 0 at mounting.
abbrev pub drawn : ℤ → ℕ → ℤ
drawn last now = int_max (last +ℤ pos 1) (pos (now * 65536))

abbrev pub last_stamp : List Entry → ℤ
last_stamp history = fold (λ last e. e.stamp) (pos 0) history

-- the state at mounting: nobody holds anything, and every byte of the files is known
abbrev pub start : Mounted → State
start t0 = record { tree = t0.tree; holds = []; known = t0.bytes }

-- the state after a history
abbrev pub state_after : Mounted → List Entry → State
state_after t0 history = fold next (start t0) history

-- After: the tree after a history
abbrev pub after : Mounted → List Entry → Tree
after t0 history = (state_after t0 history).tree

-- the place of the last entry of a session, counted from 1 and on from `at`, or 0
abbrev pub last_place_from : ℕ → ℕ → ℕ → List Entry → ℕ
last_place_from session at found [] = found
last_place_from session at found (e ∷ es) = last_place_from session (at + 1) (if e.session == session then at + 1 else found) es

abbrev pub last_place : ℕ → List Entry → ℕ
last_place session history = last_place_from session 0 0 history

-- a fault of the disk after which the volume has stopped
abbrev pub is_stop : Reply → Bool
is_stop (replies.DiskFault before after stops) = stops
is_stop _ = false

abbrev pub is_stopped : Reply → Bool
is_stopped (replies.Stopped durable faults) = true
is_stopped _ = false

-- every call but a Release: the calls 1 to 18 and Sync
abbrev pub needs_disk : Call → Bool
needs_disk (calls.Release id bytes whole before after) = false
needs_disk _ = true

-- An entry may come after these. It is a Step. Its stamp is above theirs. Session 0 has no entry but one, a Sync that
-- the disk refuses. What is said to be durable reaches to the session's own last entry, and not to this one. After a
-- fault that stops, each call but a Release is answered Stopped.
pub record Follows (t0 : Mounted) (before : List Entry) (entry : Entry) : Type 0 where
  pub step : Step (state_after t0 before) entry (next (state_after t0 before) entry)
  pub later : All (λ e. e.stamp <ℤ entry.stamp) before
  pub service : entry.session ≡ 0 → (entry.call ≡ calls.Sync) × IsTrue (is_by_disk entry.reply) × (last_place 0 before ≡ 0)
  pub durable : (upto : ℕ) → entry.reply ≡ replies.Synced upto → (last_place entry.session before ≤ upto) × (upto < length before + 1)
  pub stopped : IsTrue (list_any (λ e. is_stop e.reply) before) → IsTrue (needs_disk entry.call) → IsTrue (is_stopped entry.reply)

abbrev pub LegalFrom : Mounted → List Entry → List Entry → Type 0
LegalFrom t0 before [] = Unit {0}
LegalFrom t0 before (e ∷ es) = Follows t0 before e × LegalFrom t0 (before ++ e ∷ []) es

-- Legal: each entry may come after those before it
abbrev pub Legal : Mounted → List Entry → Type 0
Legal t0 history = LegalFrom t0 [] history
