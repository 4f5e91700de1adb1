-- The inodes that are given up with an attribute, by the rows of the attribute directory.
use Rattle.std.specs.Prelude.{ℕ, List, [], ◌∷◌, length, ◌==◌, if◌then◌else◌, Option, Some, None}
use Rattle.std.specs.Str.{bytes_eq}
use Rattle.bfs_attr.specs.declared.directory.InodeRow.{InodeRow}

-- the inode that the first row of this name names
abbrev pub inode_named : List InodeRow → List ℕ → Option ℕ
inode_named [] name = None
inode_named (row ∷ rows) name = if bytes_eq name row.name then Some row.id else inode_named rows name

-- that inode, if there is one; and before it that of the directory, where no other row is there
abbrev pub left_by : ℕ → List InodeRow → Option ℕ → List ℕ
left_by directory rows None = []
left_by directory rows (Some id) = if length rows == 1 then directory ∷ id ∷ [] else id ∷ []
