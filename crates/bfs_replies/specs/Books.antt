-- A space as its calls see it, and what is true of its parts.
use Rattle.std.specs.Prelude.{◌≡◌, ◌≤◌, ◌<◌, ◌+◌, ◌^◌, ◌==◌, ◌≤ℤ◌, ℕ, ℤ, pos, List, [], ◌∷◌, length, map, min, filter, not, Option, Some, None, is_some, if◌then◌else◌}
use Rattle.std.specs.List.{list_any}
use Rattle.bfs_super.specs.declared.sup.Super.{Super}
use Rattle.bfs_super.specs.Conditions.{IsValid, natural, group_blocks}
use Rattle.bfs_bitmap.specs.Runs.{Room, IsSettled}
use Rattle.bfs_bitmap.specs.Givens.{numbered, is_left}
use Rattle.bfs_bitmap.specs.Tallies.{first_tally, lowered_by}
use Rattle.bfs_txn.specs.Changed.{Ascends, AreOfSize, number_at}
use Rattle.bfs_stream.specs.Sizes.{sizes_of}
use Rattle.bfs_stream.specs.Grown.{IsOfVolume}
use Rattle.bfs_tree.specs.declared.call.Call.{Call}
use Rattle.bfs_tree.specs.declared.reply.Reply.{Reply}
use Rattle.bfs_tree.specs.declared.reply.Reply.TheVariants as replies
use Rattle.bfs_tree.specs.declared.reply.Entry.{Entry}
use Rattle.bfs_tree.specs.Histories.{drawn, is_stop, last_stamp}
use Rattle.bfs_device.specs.declared.journal.Stop.{Stop}
use Rattle.bfs_device.specs.Layouts.{Layout, IsData, layout_of, ring_count}
use Rattle.bfs_core.specs.Spaces.{SpaceView, opened, noted}

-- The space itself; what its bitmap knows beside the bits; the sessions that are promised room for an entry; the stop of the device, once an
-- entry has told it; up to which number it has heard that groups have left the log; and how many nodes there are.
pub record SpaceBooks : Type 0 where
  pub view : SpaceView
  pub room : Room
  pub promised : List ℕ
  pub stop : Option Stop
  pub left : ℕ
  pub nodes : ℕ

-- the bitmap of a volume before any call
abbrev pub first_room : Super → Room
first_room sup = record {
  block_size = sup.block_size;
  blocks = natural sup.num_blocks;
  group_blocks = group_blocks sup;
  given = [];
  last = 0;
  tally = first_tally (min (natural sup.used_blocks) (natural sup.num_blocks));
  tally_kept = first_tally (min (natural sup.used_blocks) (natural sup.num_blocks));
}

-- the bitmap once the open group has a number, and once the groups up to one have left the log
abbrev pub sealed_room : ℕ → Room → Room
sealed_room group v = record v { given = map (numbered group) v.given; last = group }

abbrev pub released_room : ℕ → Room → Room
released_room group v = record v { given = filter (λ g. not (is_left group g)) v.given; tally = lowered_by group v.given v.tally; tally_kept = lowered_by group v.given v.tally_kept }

-- a space that was opened on so many nodes: session 0 is promised one entry
abbrev pub fresh : Super → ℕ → SpaceBooks
fresh sup nodes = record { view = opened sup; room = first_room sup; promised = 0 ∷ []; stop = None; left = 0; nodes = nodes }

-- the promises without those to a session
abbrev pub without : ℕ → List ℕ → List ℕ
without session promised = filter (λ s. not (s == session)) promised

-- The stop that is known after an entry: the first fault of the disk that stops tells it, with the durable number of then.
abbrev pub stopped_at : Reply → ℕ → Option Stop
stopped_at (replies.DiskFault before after stops) durable = if stops then Some (record { durable = durable; faults = after }) else None
stopped_at _ durable = None

abbrev pub stop_after : Option Stop → Reply → ℕ → Option Stop
stop_after (Some stop) reply durable = Some stop
stop_after None reply durable = stopped_at reply durable

-- the stop is known exactly where an entry tells it
abbrev pub KnowsStop : List Entry → Option Stop → Type 0
KnowsStop history stop = list_any (λ e. is_stop e.reply) history ≡ is_some stop

-- nothing is held back: no run is reserved, no entry and no block waits for a seal, and each sealed group has left the log
pub record IsIdle (b : SpaceBooks) : Type 0 where
  pub given : b.room.given ≡ []
  pub empty : b.view.group ≡ []
  pub entries : b.view.sealed ≡ length b.view.history
  pub left : b.view.sealed ≤ b.left

-- the entry that is noted: it draws its stamp from the clock and the last stamp
abbrev pub entry_noted : SpaceBooks → ℕ → ℕ → ℕ → Call → Reply → Entry
entry_noted b session tag now call reply = record { session = session; tag = tag; stamp = drawn (last_stamp b.view.history) now; call = call; reply = reply }

-- The books with an entry noted, which ends the session's promise.
abbrev pub with_note : SpaceBooks → ℕ → Entry → ℕ → SpaceBooks
with_note b session entry durable = record b { view = noted b.view entry; promised = without session b.promised; stop = stop_after b.stop entry.reply durable }

-- the changed blocks may be sealed as a group: each once, in order, a block of data with a block's bytes, and they fit the log
pub record MayBeSealed (l : Layout) (size : ℕ) (pairs : List (ℕ × List ℕ)) : Type 0 where
  pub ascends : Ascends pairs
  pub sized : AreOfSize size pairs
  pub places : (i : ℕ) → i < length pairs → IsData l (number_at pairs i)
  pub room : ring_count pairs < l.len

-- What is true of a space's parts: the superblock is valid and its log empty; the bitmap is of that volume, and has nothing of a
-- call that goes on; groups cover a prefix of so many entries; and the open group may be sealed.
pub record HasParts (sup : Super) (v : Room) (pairs : List (ℕ × List ℕ)) (sealed entries : ℕ) : Type 0 where
  pub valid : IsValid sup
  pub emptied : sup.log_start ≡ sup.log_end
  pub volume : IsOfVolume (sizes_of sup) v
  pub settled : IsSettled v
  pub covered : sealed ≤ entries
  pub closed : v.last ≤ sealed
  pub group : MayBeSealed (layout_of sup) sup.block_size pairs

-- The last stamp of a history of so many entries. Seconds are below 2^40, so that a stamp is at most 2^56 and one more for each
-- entry.
pub record IsLastStamp (history : List Entry) (last : ℤ) : Type 0 where
  pub last_is : last ≡ last_stamp history
  pub low : pos 0 ≤ℤ last
  pub high : last ≤ℤ pos (2 ^ 56 + length history)
