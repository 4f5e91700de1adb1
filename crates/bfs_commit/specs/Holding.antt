-- Holds that sessions have on pieces of files, as the plain tree has them: what stands of each, and what entries of other sessions leave of it.
use Rattle.std.specs.Prelude.{◌≡◌, ◌≢◌, ◌≤◌, ◌+◌, ◌++◌, ◌∷◌, [], ℕ, List, Bool, Some, true, IsTrue, slice_get}
use Rattle.bfs_tree.specs.declared.call.Call.TheVariants as calls
use Rattle.bfs_tree.specs.declared.reply.Entry.{Entry}
use Rattle.bfs_tree.specs.declared.state.Hold.{Hold}
use Rattle.bfs_tree.specs.Histories.{Mounted, Follows, Legal, state_after}
use Rattle.bfs_tree.specs.States.{State, last_hold}
use Rattle.bfs_tree.specs.Steps.{is_done}
use Rattle.bfs_tree.specs.Trees.{Node, IsNode, is_file}
use Rattle.bfs_space.specs.Holds.{held_by, holds_after}
use Rattle.bfs_pieces.specs.Pieces.{IsUnknown}

-- the hold is one of these
abbrev pub IsOneOf : Hold → List Hold → Type 0
IsOneOf h holds = (i : ℕ) × (slice_get holds i ≡ Some h)

-- A hold is on a regular file, and its piece ends where the file does or before; where it is for writing, no byte of the piece is known.
pub record IsOnFile (s : State) (h : Hold) : Type 0 where
  pub node : Node
  pub there : IsNode s.tree h.id node
  pub file : IsTrue (is_file node.kind)
  pub within : h.at + h.length ≤ node.size
  pub unknown : h.write ≡ true → IsUnknown s.known h.id h.at h.length

-- so is each hold after a legal history
abbrev pub HoldsAreOnFiles : Type 0
HoldsAreOnFiles = (t0 : Mounted) (history : List Entry) (h : Hold) → Legal t0 history → IsOneOf h (holds_after t0 history) → IsOnFile (state_after t0 history) h

-- beside a hold for writing no other session has one on that file
abbrev pub WritersAreAlone : Type 0
WritersAreAlone = (t0 : Mounted) (history : List Entry) (h g : Hold) → Legal t0 history → IsOneOf h (holds_after t0 history) → IsOneOf g (holds_after t0 history) → g.session ≢ h.session → h.write ≡ true → g.id ≢ h.id

-- no entry that is done gives a file a size while a piece of it is held
abbrev pub HeldKeepSize : Type 0
HeldKeepSize = (t0 : Mounted) (history : List Entry) (e : Entry) (h : Hold) (size : ℕ) → Follows t0 history e → IsOneOf h (holds_after t0 history) → is_done e.reply ≡ true → e.call ≢ calls.SetSize h.id size

-- an entry of another session leaves a hold
abbrev pub OthersStayHeld : Type 0
OthersStayHeld = (history : List Entry) (e : Entry) (h : Hold) → h.session ≢ e.session → IsOneOf h (held_by history) → IsOneOf h (held_by (history ++ e ∷ []))

-- the session's last hold on a file is this one
abbrev pub HasHeld : List Entry → ℕ → ℕ → ℕ → ℕ → Bool → Type 0
HasHeld history session id at count writes = last_hold (held_by history) session id ≡ Some (record { session = session; id = id; at = at; length = count; write = writes })

-- so many bytes of a file from a place on lie in a piece that is held for writing
pub record IsInWriting (history : List Entry) (id at count : ℕ) : Type 0 where
  pub hold : Hold
  pub held : IsOneOf hold (held_by history)
  pub writes : hold.write ≡ true
  pub id_is : hold.id ≡ id
  pub low : hold.at ≤ at
  pub high : at + count ≤ hold.at + hold.length
