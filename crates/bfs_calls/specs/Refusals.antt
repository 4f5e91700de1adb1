-- When a node may be made.
use Rattle.std.specs.Prelude.{◌≡◌, ◌≤◌, ◌<◌, ℕ, List, length, Option, Some, None, Bool, true, false}
use Rattle.bfs_tree.specs.declared.call.MakeKind.{MakeKind}
use Rattle.bfs_tree.specs.declared.reply.Reply.{Reply}
use Rattle.bfs_tree.specs.declared.reply.Reply.TheVariants as replies
use Rattle.bfs_tree.specs.Names.{is_bad_name, is_bad_target, target_of}

-- a name is taken where a look-up of it finds something
abbrev pub taken_by : Reply → Option Reply
taken_by replies.NotFound = None
taken_by _ = Some replies.Exists

-- a reply that the tree alone gives: not for want of room, not by the disk, and not for damage
abbrev pub is_own : Reply → Bool
is_own (replies.NoSpace free needed) = false
is_own (replies.NoLogRoom blocks room) = false
is_own (replies.DiskFault before after stops) = false
is_own (replies.Stopped durable faults) = false
is_own (replies.Damaged block) = false
is_own _ = true

-- what holds of a call that makes a node, whatever the volume: its directory is a block of the volume, and neither name nor target is bad
pub record MayBeMade (blocks dir : ℕ) (name : List ℕ) (kind : MakeKind) : Type 0 where
  pub inside : dir < blocks
  pub good_name : is_bad_name name ≡ false
  pub good_target : is_bad_target kind ≡ false
  pub short_target : length (target_of kind) ≤ 1024
