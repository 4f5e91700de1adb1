-- What a call leaves of the blocks of files, and of the bytes that are known of them.
use Rattle.std.specs.Prelude.{◌≡◌, ◌⊎◌, ◌++◌, ◌∷◌, [], ℕ, List, Bool, true, false, Some}
use Rattle.std.specs.FinMap.{get}
use Rattle.bfs_tree.specs.declared.call.Call.{Call}
use Rattle.bfs_tree.specs.declared.call.Call.TheVariants as calls
use Rattle.bfs_tree.specs.declared.reply.Entry.{Entry}
use Rattle.bfs_tree.specs.Histories.{Mounted, Follows, IsFilePlace, after, state_after}
use Rattle.bfs_tree.specs.Trees.{Node, Tree, IsNode, is_file}
use Rattle.bfs_sound.specs.Inodes.{stream_blocks}
use Rattle.bfs_sound.specs.Volumes.{Volume}
use Rattle.bfs_hold.specs.Resizing.{Begins}

-- the call gives this file a size
abbrev pub GivesSize : Call → ℕ → Type 0
GivesSize call id = (size : ℕ) × (call ≡ calls.SetSize id size)

-- A file's blocks are those that it had; where the call gives it a size, it has some more behind them, or the first of them.
abbrev pub AreKeptBy : Call → ℕ → List ℕ → List ℕ → Type 0
AreKeptBy call id old new = (new ≡ old) ⊎ (GivesSize call id × (Begins old new ⊎ Begins new old))

-- so it is of each node that was a file in the one volume, and is one in the other
abbrev pub KeepsBlocks : Volume → Volume → Tree → Tree → Call → Type 0
KeepsBlocks v w tree since call = (id : ℕ) (n now : Node) → IsNode tree id n → is_file n.kind ≡ true → IsNode since id now → is_file now.kind ≡ true
    → AreKeptBy call id (stream_blocks v id) (stream_blocks w id)

-- the call lets a piece go, whose bytes are known since
abbrev pub lets_go : Call → Bool
lets_go (calls.Release id bytes whole before now) = true
lets_go _ = false

-- What is known after an entry that lets no piece go was known before it; and the place of a file at which it is known is one still.
abbrev pub KnownStays : Type 0
KnownStays = (t0 : Mounted) (history : List Entry) (e : Entry) (id place byte : ℕ) → Follows t0 history e → lets_go e.call ≡ false
    → get (state_after t0 (history ++ e ∷ [])).known (id, place) ≡ Some byte
    → (get (state_after t0 history).known (id, place) ≡ Some byte) × (IsFilePlace (after t0 history) id place → IsFilePlace (after t0 (history ++ e ∷ [])) id place)
