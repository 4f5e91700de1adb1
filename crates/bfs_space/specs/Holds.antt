-- The holds that sessions have after a history: what its entries make of them, whatever the tree.
use Rattle.std.specs.Prelude.{◌≡◌, ◌⊎◌, ℕ, List, [], ◌∷◌, ◌++◌, Option, Some, None, Bool, true, false, if◌then◌else◌}
use Rattle.std.specs.List.{fold}
use Rattle.bfs_tree.specs.declared.call.Call.{Call}
use Rattle.bfs_tree.specs.declared.call.Call.TheVariants as calls
use Rattle.bfs_tree.specs.declared.reply.Reply.{Reply}
use Rattle.bfs_tree.specs.declared.reply.Entry.{Entry}
use Rattle.bfs_tree.specs.declared.state.Hold.{Hold}
use Rattle.bfs_tree.specs.Histories.{Mounted, state_after}
use Rattle.bfs_tree.specs.States.{last_hold, without_last}
use Rattle.bfs_tree.specs.Steps.{is_done}

-- the holds in the state after a history
abbrev pub holds_after : Mounted → List Entry → List Hold
holds_after t0 history = (state_after t0 history).holds

-- the holds without the session's last one on the node, where it has one
abbrev pub without_hold : List Hold → ℕ → ℕ → Option Hold → List Hold
without_hold holds session id None = holds
without_hold holds session id (Some hold) = without_last holds session id

-- The holds after a call of a session that is done: a Hold appends one, a Release ends the session's last one on the node, and no other call
-- changes them.
abbrev pub held_since : ℕ → Call → List Hold → List Hold
held_since session (calls.Hold id at count writes) holds = holds ++ record { session = session; id = id; at = at; length = count; write = writes } ∷ []
held_since session (calls.Release id bytes whole before after) holds = without_hold holds session id (last_hold holds session id)
held_since session _ holds = holds

-- and after an entry: a call that isn't done leaves them
abbrev pub held_next : List Hold → Entry → List Hold
held_next holds e = if is_done e.reply then held_since e.session e.call holds else holds

-- the holds that the entries of a history leave, where nobody held anything before them
abbrev pub held_by : List Entry → List Hold
held_by history = fold held_next [] history

-- the call leaves the holds as they are: it is neither Hold nor Release
abbrev pub keeps_holds : Call → Bool
keeps_holds (calls.Hold id at count writes) = false
keeps_holds (calls.Release id bytes whole before after) = false
keeps_holds _ = true

-- an entry of this call with this reply leaves them: the call does, or it isn't done
abbrev pub KeepsHolds : Call → Reply → Type 0
KeepsHolds call reply = (keeps_holds call ≡ true) ⊎ (is_done reply ≡ false)

-- the holds in the state after a history are those that its entries leave, whatever stood at mounting
abbrev pub HeldIsAfter : Type 0
HeldIsAfter = (t0 : Mounted) (history : List Entry) → holds_after t0 history ≡ held_by history

-- an entry that leaves the holds
abbrev pub EntryKeepsHolds : Type 0
EntryKeepsHolds = (history : List Entry) (e : Entry) → KeepsHolds e.call e.reply → held_by (history ++ e ∷ []) ≡ held_by history

-- the holds with one entry more are those before it, as the entry makes them
abbrev pub EntryIsHeld : Type 0
EntryIsHeld = (history : List Entry) (e : Entry) → held_by (history ++ e ∷ []) ≡ held_next (held_by history) e
