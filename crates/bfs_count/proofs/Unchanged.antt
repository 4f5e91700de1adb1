-- Where a call leaves the number of nodes.
use Rattle.std.proofs.Common.{◌≡◌, ℕ, Bool, true, false, refl}
use Rattle.bfs_tree.specs.declared.call.Call.{Call}
use Rattle.bfs_tree.specs.declared.call.Call.TheVariants as calls
use Rattle.bfs_tree.specs.declared.reply.Reply.{Reply}
use Rattle.bfs_tree.specs.declared.reply.Reply.TheVariants as replies
use Rattle.bfs_tree.specs.Steps.{is_done, changes_tree}
use Rattle.bfs_count.specs.Counts.{counted}

-- a call that is refused does
pub counted_same : (n : ℕ) (call : Call) (reply : Reply) (replaced : Bool) → is_done reply ≡ false → counted n call reply replaced ≡ n
counted_same n (calls.Make dir name kind mode) (replies.Made id) replaced h = cc
counted_same n (calls.Remove dir name) replies.Done replaced h = cc
counted_same n (calls.Rename dir name to_dir to_name) replies.Done true h = cc
counted_same n _ _ _ h = refl

-- a call that doesn't change the tree does, with any reply: a Sync and a Release are among them
pub reads_same : (n : ℕ) (call : Call) (reply : Reply) (replaced : Bool) → changes_tree call ≡ false → counted n call reply replaced ≡ n
reads_same n (calls.Make dir name kind mode) reply replaced h = cc
reads_same n (calls.Remove dir name) reply replaced h = cc
reads_same n (calls.Rename dir name to_dir to_name) reply replaced h = cc
reads_same n _ _ _ h = refl

-- a Hold does, to read or to write
pub hold_same : (n id at count : ℕ) (writes : Bool) (reply : Reply) (replaced : Bool) → counted n (calls.Hold id at count writes) reply replaced ≡ n
hold_same n id at count writes reply replaced = refl
