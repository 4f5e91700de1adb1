-- A file was given a size.
use Rattle.std.specs.Prelude.{◌≡◌, ◌≤◌, ◌<◌, ◌+◌, ℕ, max, ℤ, pos, List, [], length, Bool, true, false, Option, Some, None}
use Rattle.std.specs.FinMap.{empty}
use Rattle.bfs_super.specs.Conditions.{ceil}
use Rattle.bfs_super.specs.declared.geometry.Geometry.{Geometry}
use Rattle.bfs_bitmap.specs.Runs.{Room}
use Rattle.bfs_inode.specs.Inode.{inode_at, stream_at}
use Rattle.bfs_txn.specs.Told.{with_block}
use Rattle.bfs_stream.specs.Grown.{HasGrownBy}
use Rattle.bfs_stream.specs.Sizes.{Origin, Sizes, array_length}
use Rattle.bfs_stream.specs.Told.{contents}
use Rattle.bfs_stream.specs.Trimmed.{HasTrimmedTo}
use Rattle.bfs_tree.specs.Changes.{changed}
use Rattle.bfs_tree.specs.Refusals.{own_refusal}
use Rattle.bfs_tree.specs.States.{State}
use Rattle.bfs_tree.specs.Steps.{Writes}
use Rattle.bfs_tree.specs.Trees.{Node, Tree, IsNode}
use Rattle.bfs_tree.specs.declared.call.Call.{Call}
use Rattle.bfs_tree.specs.declared.call.Call.TheVariants.{SetSize}
use Rattle.bfs_tree.specs.declared.reply.Reply.{Reply}
use Rattle.bfs_tree.specs.declared.reply.Reply.TheVariants.{Done}
use Rattle.bfs_tree.specs.declared.state.Hold.{Hold}
use Rattle.bfs_sound.specs.Inodes.{stream_blocks}
use Rattle.bfs_sound.specs.Volumes.{sizes}
use Rattle.bfs_shift.specs.Lists.{Lists, Agrees}
use Rattle.bfs_shift.specs.Shifts.{volume_in}
use Rattle.bfs_shift.specs.Stocked.{HasWords}
use Rattle.bfs_moves.specs.Written.{HasBlockWords}
use Rattle.bfs_set_size.specs.Resizing.{IsResizing}

-- the tree once a file has this size, as the plain tree says it
abbrev pub with_size : Tree → ℕ → ℕ → ℤ → Tree
with_size tree id size stamp = (changed 0 stamp (SetSize id size) Done (record { tree = tree; holds = []; known = empty })).tree

-- Of the inode in a block, the size of its stream and the stamps of its last changes are these; all else is what it was.
pub record HasSizeSet (size : ℕ) (stamp : ℤ) (old new : List ℕ) : Type 0 where
  pub inode : inode_at new ≡ record (inode_at old) { last_modified_time = stamp; status_change_time = stamp; stream_bytes = (inode_at new).stream_bytes }
  pub stream : stream_at new ≡ record (stream_at old) { size = pos size }

-- The inode at a block has this size and these stamps, and nothing else has changed.
pub record IsSizeSet (id size : ℕ) (stamp : ℤ) (m : ℕ → Option (List ℕ)) (told : Option (ℕ → Option (List ℕ))) : Type 0 where
  pub bytes : List ℕ
  pub is : told ≡ Some (with_block id bytes m)
  pub set : HasSizeSet size stamp (contents m id) bytes
  pub long : 1024 ≤ length (contents m id)
  pub before : HasWords (contents m id)
  pub after : HasWords bytes

-- An inode's stream was cut to its first blocks, so many, and its block had its words before.
pub record HasCutSince (o : Origin) (v now : Room) (m : ℕ → Option (List ℕ)) (blocks : ℕ) (told : Option (ℕ → Option (List ℕ))) (old new : ℕ → Bool) : Type 0 where
  pub before : HasBlockWords (contents m o.id)
  pub since : HasTrimmedTo o v now m blocks told old new

-- An inode's stream has grown by so many blocks or a few more, and its block had its words before.
pub record HasGrownSince (o : Origin) (v now : Room) (m : ℕ → Option (List ℕ)) (blocks : ℕ) (told : Option (ℕ → Option (List ℕ))) (old new : ℕ → Bool) : Type 0 where
  pub before : HasBlockWords (contents m o.id)
  pub since : HasGrownBy o v now m blocks told old new

-- A file's stream has so many blocks more, or a few more than these; the tree stays.
pub record HasMore (g : Geometry) (v now : Room) (m : ℕ → Option (List ℕ)) (tree : Tree) (lists : Lists) (loose : List ℕ) (id blocks : ℕ) (told : Option (ℕ → Option (List ℕ))) (old new : ℕ → Bool) : Type 0 where
  pub step : IsResizing g v now m tree tree lists loose id true told old new
  pub enough : length (stream_blocks (volume_in g m) id) + blocks ≤ length (stream_blocks (volume_in g step.map) id)
  pub most : length (stream_blocks (volume_in g step.map) id) < length (stream_blocks (volume_in g m) id) + blocks + array_length (sizes g)

-- A file's stream has at least so many blocks, and fewer than an array has more than these, or than it had; where it had as many, it has
-- those that it had. The tree stays.
pub record HasRoomFor (g : Geometry) (v now : Room) (m : ℕ → Option (List ℕ)) (tree : Tree) (lists : Lists) (loose : List ℕ) (id blocks : ℕ) (told : Option (ℕ → Option (List ℕ))) (old new : ℕ → Bool) : Type 0 where
  pub step : IsResizing g v now m tree tree lists loose id true told old new
  pub enough : blocks ≤ length (stream_blocks (volume_in g step.map) id)
  pub most : length (stream_blocks (volume_in g step.map) id) < max (length (stream_blocks (volume_in g m) id)) blocks + array_length (sizes g)
  pub stays : blocks ≤ length (stream_blocks (volume_in g m) id) → length (stream_blocks (volume_in g step.map) id) ≡ length (stream_blocks (volume_in g m) id)

-- A file's stream was cut to so many blocks, or to fewer than an array has more; the tree stays.
pub record HasCutTo (g : Geometry) (v now : Room) (m : ℕ → Option (List ℕ)) (tree : Tree) (lists : Lists) (loose : List ℕ) (id blocks : ℕ) (told : Option (ℕ → Option (List ℕ))) (old new : ℕ → Bool) : Type 0 where
  pub step : IsResizing g v now m tree tree lists loose id false told old new
  pub most : length (stream_blocks (volume_in g step.map) id) < blocks + array_length (sizes g)

-- A file's size was written, with the stamps of its change; its blocks are those that it had.
pub record HasSizeWritten (g : Geometry) (v : Room) (m : ℕ → Option (List ℕ)) (tree : Tree) (lists : Lists) (loose : List ℕ) (id size : ℕ) (stamp : ℤ) (grows : Bool) (told : Option (ℕ → Option (List ℕ))) (old new : ℕ → Bool) : Type 0 where
  pub step : IsResizing g v v m tree (with_size tree id size stamp) lists loose id grows told old new
  pub same : stream_blocks (volume_in g step.map) id ≡ stream_blocks (volume_in g m) id

-- How many blocks a file has since it got another size: where that is smaller, fewer than an array has more than it needs; else fewer than
-- an array has more than it needs or had; and where it had as many as it needs, those that it had.
pub record HasBlocksFor (s : Sizes) (old size before since : ℕ) : Type 0 where
  pub fewer : size < old → since < ceil size s.block_size + array_length s
  pub most : old ≤ size → since < max before (ceil size s.block_size) + array_length s
  pub stays : old ≤ size → ceil size s.block_size ≤ before → since ≡ before

-- A file has another size than the one that it had, and blocks for it; the lists stay.
pub record HasResized (g : Geometry) (v now : Room) (m : ℕ → Option (List ℕ)) (tree : Tree) (lists : Lists) (loose : List ℕ) (id was size : ℕ) (stamp : ℤ) (told : Option (ℕ → Option (List ℕ))) (old new : ℕ → Bool) : Type 0 where
  pub grows : Bool
  pub step : IsResizing g v now m tree (with_size tree id size stamp) lists loose id grows told old new
  pub blocks : HasBlocksFor (sizes g) was size (length (stream_blocks (volume_in g m) id)) (length (stream_blocks (volume_in g step.map) id))

-- what holds of a call that gives a file a size, whatever the volume: the file is a block of the volume, and the size isn't too big
pub record MayBeSized (blocks id size : ℕ) : Type 0 where
  pub inside : id < blocks
  pub few : size ≤ 1073741824

-- the answer and the tree since are those of the plain tree, in every state that has this tree and these holds, which stay
abbrev pub AnswersHeld : ℤ → Call → Reply → List Hold → Tree → Tree → Type 0
AnswersHeld stamp call reply holds tree after = (s : State) → s.tree ≡ tree → s.holds ≡ holds
    → (t : State) × (t.tree ≡ after) × (t.holds ≡ holds) × Writes stamp call reply s t

-- A file was given a size, and so the call is done: its steps have made the volume stand for another tree with the same root, whose lists
-- agree with it, and no block is loose; and the file has blocks for its size.
pub record IsSizedSo (g : Geometry) (v now : Room) (m : ℕ → Option (List ℕ)) (tree : Tree) (holds : List Hold) (stamp : ℤ) (id size : ℕ) (told : Option (ℕ → Option (List ℕ))) (old new : ℕ → Bool) : Type 0 where
  pub after : Tree
  pub lists : Lists
  pub grows : Bool
  pub step : IsResizing g v now m tree after lists [] id grows told old new
  pub blocks : (n : Node) → IsNode tree id n → HasBlocksFor (sizes g) n.size size (length (stream_blocks (volume_in g m) id)) (length (stream_blocks (volume_in g step.map) id))
  pub agrees : Agrees after lists
  pub root : after.root ≡ tree.root
  pub answers : AnswersHeld stamp (SetSize id size) Done holds tree after

-- in some state that has this tree the call has no refusal of its own
abbrev pub IsUnrefused : Tree → Call → Type 0
IsUnrefused tree call = (s : State) × (s.tree ≡ tree) × (own_refusal call s ≡ None)
