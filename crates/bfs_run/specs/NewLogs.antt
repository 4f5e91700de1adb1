-- When a log as long as a new volume's has room for a call.
use Rattle.std.specs.Prelude.{◌≡◌, ◌≢◌, ◌≤◌, ◌<◌, ℕ, List, length, take, Some, slice_get}
use Rattle.std.specs.List.{AllByRecursion}
use Rattle.std.specs.FinMap.{entries}
use Rattle.bfs_super.specs.Geometry.{log_length}
use Rattle.bfs_tree.specs.declared.call.Call.{Call}
use Rattle.bfs_tree.specs.declared.call.Call.TheVariants as calls
use Rattle.bfs_tree.specs.declared.reply.Entry.{Entry}
use Rattle.bfs_tree.specs.declared.reply.Reply.TheVariants as replies
use Rattle.bfs_tree.specs.Histories.{Mounted, after}
use Rattle.bfs_tree.specs.Listings.{listed}
use Rattle.bfs_tree.specs.Names.{target_of}
use Rattle.bfs_tree.specs.Refusals.{replaced}
use Rattle.bfs_tree.specs.Trees.{Node, Tree, child}
use Rattle.bfs_sound.specs.Volumes.{Volume}
use Rattle.bfs_sound.specs.Need.{cost_of, growth, moves}
use Rattle.bfs_core.specs.Chains.{Image, IsChain, bare}

-- A Rename moves at most 4 attributes out of small data, an IndexMake lists at most 64 pairs, and a file gains at most 40,960 blocks. A target
-- and an attribute have no more bytes than they may have at most.
abbrev pub IsModestCall : Volume → Tree → Call → Type 0
IsModestCall v tree (calls.Make dir name kind mode) = length (target_of kind) ≤ 1024
IsModestCall v tree (calls.Rename dir name to_dir to_name) = (e : ℕ × Node) → child tree dir name ≡ Some e → length (moves v e.0 to_name) ≤ 4
IsModestCall v tree (calls.SetSize id size) = growth v id size ≤ 40960
IsModestCall v tree (calls.AttrWrite id name kind bytes) = length bytes ≤ 65536
IsModestCall v tree (calls.IndexMake name kind) = length (listed tree name kind) ≤ 64
IsModestCall v tree _ = Unit {0}

-- Besides, each tree that the call puts a row in or takes one from has at most 4 levels, and there are at most 8 indices.
pub record IsModest (v : Volume) (tree : Tree) (call : Call) : Type 0 where
  pub levels : AllByRecursion (λ levels. levels ≤ 4) (cost_of v tree call).rows
  pub indices : length (entries tree.indices) ≤ 8
  pub asks : IsModestCall v tree call

-- the call is a Rename that replaces a node
abbrev pub Replaces : Tree → Call → Type 0
Replaces tree (calls.Rename dir name to_dir to_name) = (e : ℕ × Node) × (other : ℕ × Node) × (child tree dir name ≡ Some e) × (replaced e.0 (child tree to_dir to_name) ≡ Some other)
Replaces tree _ = ⊥

-- the log has the length that a new volume of as many blocks has
abbrev pub HasNewLog : Volume → Type 0
HasNewLog v = v.geometry.log.len ≡ log_length v.geometry.blocks

-- Where the log has that length, an entry of a modest call isn't answered for want of room in it, unless the call is a Rename that replaces a
-- node on a volume of at most 20,480 blocks.
abbrev pub NewLogIsLong : Type 0
NewLogIsLong = (t0 : Mounted) (first : Image) (history : List Entry) (images : ℕ → Image) → IsChain t0 first history images
    → (n : ℕ) (e : Entry) → slice_get history n ≡ Some e → HasNewLog (bare (images n)) → IsModest (bare (images n)) (after t0 (take n history)) e.call
    → (Replaces (after t0 (take n history)) e.call → 20480 < (bare (images n)).geometry.blocks)
    → (blocks room : ℕ) → e.reply ≢ replies.NoLogRoom blocks room
