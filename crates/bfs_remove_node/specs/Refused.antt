-- What replies say of a call that removes a node.
use Rattle.std.specs.Prelude.{length, nat_lt, Option, Some, None, Bool, false}
use Rattle.bfs_tree.specs.declared.reply.Reply.{Reply}
use Rattle.bfs_tree.specs.declared.reply.Reply.TheVariants as replies
use Rattle.bfs_remove_node.specs.declared.child.Child.{Child}

-- the node that a look-up has found, if it has
abbrev pub found_in : Reply → Option Child
found_in (replies.Found id kind) = Some (record { id = id; kind = kind })
found_in _ = None

-- the refusal where a look-up has found none: what it was asked in is no directory, or the directory or the name isn't there
abbrev pub refused_by : Reply → Reply
refused_by replies.NotDir = replies.NotDir
refused_by _ = replies.NotFound

-- a listing has a name
abbrev pub has_names : Reply → Bool
has_names (replies.Names names) = nat_lt 0 (length names)
has_names _ = false
