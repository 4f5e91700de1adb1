-- Completeness: how entries are answered where the disk doesn't fail.
use Rattle.std.specs.Prelude.{◌≡◌, ◌⊎◌, ℕ, List, take, Some, None, IsTrue, slice_get}
use Rattle.bfs_tree.specs.declared.call.Call.{Call}
use Rattle.bfs_tree.specs.declared.call.Call.TheVariants as calls
use Rattle.bfs_tree.specs.declared.reply.Entry.{Entry}
use Rattle.bfs_tree.specs.Refusals.{own_refusal}
use Rattle.bfs_tree.specs.Steps.{ByTree, changes_tree, is_for_room, next}
use Rattle.bfs_tree.specs.Histories.{Mounted, state_after}

-- a piece that is let go is whole
abbrev pub IsWholePiece : Call → Type 0
IsWholePiece (calls.Release id bytes whole before now) = IsTrue whole
IsWholePiece _ = Unit {0}

-- An entry behind these is answered by the plain tree, refusals by its rules and by holds among them; or where it changes the tree and none of those
-- refuses it, for want of free blocks or of room in the log.
abbrev pub IsAnswered : Mounted → List Entry → Entry → Type 0
IsAnswered t0 before e = ByTree e.session e.stamp e.call e.reply (state_after t0 before) (next (state_after t0 before) e)
    ⊎ ((own_refusal e.call (state_after t0 before) ≡ None) × IsTrue (changes_tree e.call) × IsTrue (is_for_room e.reply))

-- each entry is answered so, and each piece that was let go is whole
abbrev pub AreAnswered : Mounted → List Entry → Type 0
AreAnswered t0 history = (n : ℕ) (e : Entry) → slice_get history n ≡ Some e → IsAnswered t0 (take n history) e × IsWholePiece e.call
