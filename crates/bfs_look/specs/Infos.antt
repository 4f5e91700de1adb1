-- What the bytes of an inode say of a node's record.
use Rattle.std.specs.Prelude.{ℕ, List, length, take, drop, Bool, ◌/◌, ◌%◌, ◌==◌, if◌then◌else◌}
use Rattle.std.specs.List.{before_first}
use Rattle.bfs_bytes.specs.Fields.{unsigned_at, signed32_at, signed64_at}
use Rattle.bfs_inode.specs.Inode.{stream_at}
use Rattle.bfs_super.specs.Conditions.{natural}
use Rattle.bfs_tree.specs.declared.call.Kind.{Kind}
use Rattle.bfs_tree.specs.declared.call.Kind.TheVariants.{File, Dir, Link}
use Rattle.bfs_tree.specs.declared.reply.Info.{Info}

-- not flagged as a long link
abbrev pub is_short_in : List ℕ → Bool
is_short_in block = unsigned_at 4 block 24 / 64 % 2 == 0

-- the target of a short link: the bytes before the first zero of the 144
abbrev pub short_target : List ℕ → List ℕ
short_target block = before_first (λ b. b == 0) (take 144 (drop 72 block))

-- the size of a node of this kind: that of a file's stream, 0 for a directory, and the length of a link's target
abbrev pub content_size : List ℕ → Kind → ℕ
content_size block File = natural (stream_at block).size
content_size block Dir = 0
content_size block Link = if is_short_in block then length (short_target block) else natural (stream_at block).size

-- the record of a node of this kind, name and parent
abbrev pub info_in : List ℕ → Kind → List ℕ → ℕ → Info
info_in block kind name parent = record { kind = kind; name = name; parent = parent; mode = unsigned_at 4 block 20 % 4096; uid = signed32_at block 12; gid = signed32_at block 16; created = signed64_at block 28; modified = signed64_at block 36; changed = signed64_at block 216; size = content_size block kind }
