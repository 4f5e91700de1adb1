-- What replies say of a call that removes an attribute.
use Rattle.std.specs.Prelude.{Option, Some, None}
use Rattle.bfs_tree.specs.declared.reply.Reply.{Reply}
use Rattle.bfs_tree.specs.declared.reply.Reply.TheVariants as replies

-- the refusal where a read of the attribute has answered that there is no such node, or that it has no such attribute
abbrev pub refused_by : Reply → Option Reply
refused_by replies.NotFound = Some replies.NotFound
refused_by replies.NoAttr = Some replies.NoAttr
refused_by _ = None
