-- How many nodes a tree has, and what a call makes of that number.
use Rattle.std.specs.Prelude.{ℕ, ◌+◌, ◌-◌, length, Bool, true, false, not, ◌&&◌, ◌==◌, is_some}
use Rattle.std.specs.Str.{bytes_eq}
use Rattle.std.specs.FinMap.{entries}
use Rattle.bfs_tree.specs.declared.call.Call.{Call}
use Rattle.bfs_tree.specs.declared.call.Call.TheVariants as calls
use Rattle.bfs_tree.specs.declared.reply.Reply.{Reply}
use Rattle.bfs_tree.specs.declared.reply.Reply.TheVariants as replies
use Rattle.bfs_tree.specs.Trees.{Tree, child}

-- how many nodes a tree has
abbrev pub nodes_of : Tree → ℕ
nodes_of tree = length (entries tree.nodes)

-- there is a node at the place that a Rename gives
abbrev pub has_place : Tree → Call → Bool
has_place tree (calls.Rename dir name to_dir to_name) = is_some (child tree to_dir to_name)
has_place tree _ = false

-- a Rename that stays where it was
abbrev pub stays_there : Call → Bool
stays_there (calls.Rename dir name to_dir to_name) = (dir == to_dir) && bytes_eq name to_name
stays_there _ = false

-- a call that is done takes the place of another node
abbrev pub replaces : Tree → Call → Bool
replaces tree call = has_place tree call && not (stays_there call)

-- so many nodes are there after a call, of so many before it
abbrev pub counted : ℕ → Call → Reply → Bool → ℕ
counted n (calls.Make dir name kind mode) (replies.Made id) replaced = n + 1
counted n (calls.Remove dir name) replies.Done replaced = n - 1
counted n (calls.Rename dir name to_dir to_name) replies.Done true = n - 1
counted n call reply replaced = n
