-- A hold on a piece of a file that was taken, and the blocks that have its bytes.
use Rattle.std.specs.Prelude.{◌≡◌, ◌++◌, ◌∷◌, ◌&&◌, [], ℕ, List, Option, Bool, true, false, not, if◌then◌else◌, length}
use Rattle.std.specs.List.{All}
use Rattle.bfs_tree.specs.declared.reply.Entry.{Entry}
use Rattle.bfs_tree.specs.declared.reply.Reply.{Reply}
use Rattle.bfs_tree.specs.declared.reply.Reply.TheVariants as replies
use Rattle.bfs_tree.specs.Steps.{is_done}
use Rattle.bfs_sound.specs.Inodes.{stream_blocks}
use Rattle.bfs_device.specs.Layouts.{IsData, layout_of}
use Rattle.bfs_replies.specs.Places.{piece_blocks, piece_of}
use Rattle.bfs_core.specs.Spaces.{face}
use Rattle.bfs_replies.specs.Books.{SpaceBooks}

-- one entry came, which says that the call was done
abbrev pub IsTaken : SpaceBooks → SpaceBooks → Type 0
IsTaken old new = (e : Entry) × (new.view.history ≡ old.view.history ++ e ∷ []) × (e.reply ≡ replies.Done)

-- Where a hold was taken, so many places are there, each a block of data.
abbrev pub ArePlaces : SpaceBooks → SpaceBooks → ℕ → ℕ → List ℕ → Type 0
ArePlaces old new at count places = IsTaken old new → (length places ≡ piece_blocks old.view.sup.block_size at count) × All (IsData (layout_of old.view.sup)) places

-- And over what is told they are the blocks that have the bytes of its piece, in their order, in Face as it is since.
abbrev pub HavePiece : SpaceBooks → SpaceBooks → (ℕ → Option (List ℕ)) → ℕ → ℕ → ℕ → List ℕ → Type 0
HavePiece old new m id at count places = IsTaken old new → places ≡ piece_of new.view.sup.block_size at count (stream_blocks (face new.view m) id)

abbrev pub is_just_done : Reply → Bool
is_just_done replies.Done = true
is_just_done _ = false

-- The reply of a hold: one that is done in another way than with Done, which none is over what is told, says that the file's inode is damaged.
abbrev pub plain_of : ℕ → Reply → Reply
plain_of id reply = if is_done reply && not (is_just_done reply) then replies.Damaged id else reply
