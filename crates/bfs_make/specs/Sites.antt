-- A volume that inodes stand on.
use Rattle.std.specs.Prelude.{ℕ}
use Rattle.bfs_stream.specs.Sizes.{Origin, sizes_of}
use Rattle.bfs_make.specs.declared.site.Site.{Site}

-- the stream of an inode
abbrev pub stream_in : Site → ℕ → Origin
stream_in s id = record { id = id; sizes = sizes_of s.sup }
