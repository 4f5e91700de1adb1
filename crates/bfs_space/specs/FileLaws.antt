-- What an entry that lets no piece go leaves of the bytes that are known: they stay in their blocks.
use Rattle.std.specs.Prelude.{◌≡◌, ℕ, List, [], ◌∷◌, ◌++◌, Option, Some, false}
use Rattle.std.specs.FinMap.{get}
use Rattle.bfs_tree.specs.declared.call.Call.{Call}
use Rattle.bfs_tree.specs.declared.reply.Entry.{Entry}
use Rattle.bfs_tree.specs.Histories.{Mounted, Follows, after, state_after}
use Rattle.bfs_core.specs.KnownBytes.{HasByte, KeepsFiles}
use Rattle.bfs_core.specs.Spaces.{SpaceView, face, noted}
use Rattle.bfs_replies.specs.Books.{SpaceBooks}
use Rattle.bfs_space.specs.Faces.{HasEntered}
use Rattle.bfs_replies.specs.Files.{lets_go}

-- each byte that is known is what these contents have at its place
abbrev pub AreThere : Mounted → SpaceView → (ℕ → Option (List ℕ)) → (ℕ → List ℕ) → Type 0
AreThere t0 sp m contents = (id place byte : ℕ) → get (state_after t0 sp.history).known (id, place) ≡ Some byte → HasByte (face sp m) (after t0 sp.history) contents id place byte

-- A call that was entered, and lets no piece go, has kept the files.
abbrev pub EnteredKeepsFiles : Type 0
EnteredKeepsFiles = (t0 : Mounted) (old new : SpaceBooks) (m : ℕ → Option (List ℕ)) (session tag now : ℕ) (call : Call) (contents : ℕ → List ℕ)
    → lets_go call ≡ false → HasEntered t0 old new m session tag now call → AreThere t0 old.view m contents → KeepsFiles t0 old.view new.view m contents

-- And so has an entry that is noted, lets no piece go, and leaves the tree.
abbrev pub NoteKeepsFiles : Type 0
NoteKeepsFiles = (t0 : Mounted) (sp : SpaceView) (m : ℕ → Option (List ℕ)) (e : Entry) (contents : ℕ → List ℕ) → Follows t0 sp.history e → lets_go e.call ≡ false
    → after t0 (sp.history ++ e ∷ []) ≡ after t0 sp.history → AreThere t0 sp m contents → KeepsFiles t0 sp (noted sp e) m contents
