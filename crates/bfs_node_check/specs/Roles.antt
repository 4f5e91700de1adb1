-- The place of an inode by the way that leads to it, and what its mode has to be.
use Rattle.std.specs.Prelude.{◌≡◌, ◌/◌, ◌%◌, ℕ, Option, Some, None, Bool, true, false}
use Rattle.bfs_tree.specs.declared.call.Kind.{Kind}
use Rattle.bfs_tree.specs.declared.call.Kind.TheVariants.{Dir}
use Rattle.bfs_sound.specs.Inodes.{HasBit, kind_bits}
use Rattle.bfs_finding.specs.Ways.{Way, to_system, to_root, to_child, to_directory, to_attribute, to_indices, to_index}
use Rattle.bfs_node_check.specs.declared.role.Role.{Role}
use Rattle.bfs_node_check.specs.declared.role.Role.TheVariants as roles

-- the system is no inode
abbrev pub role_of : Way → Option Role
role_of to_system = None
role_of to_root = Some roles.Root
role_of (to_child d name) = Some roles.Child
role_of (to_directory id) = Some roles.AttributeDirectory
role_of (to_attribute id name) = Some roles.Attribute
role_of to_indices = Some roles.Index
role_of (to_index name) = Some roles.Index

-- the root and the children of directories are nodes
abbrev pub is_node : Role → Bool
is_node roles.Root = true
is_node roles.Child = true
is_node roles.AttributeDirectory = false
is_node roles.Attribute = false
is_node roles.Index = false

-- The root is a directory, and a child of one of the three kinds. An attribute directory, an attribute, and the index directory or an
-- index have their bits.
abbrev pub IsGoodMode : Role → ℕ → Type 0
IsGoodMode roles.Root mode = mode / 4096 % 16 ≡ kind_bits Dir
IsGoodMode roles.Child mode = (kind : Kind) × (mode / 4096 % 16 ≡ kind_bits kind)
IsGoodMode roles.AttributeDirectory mode = HasBit mode 27
IsGoodMode roles.Attribute mode = HasBit mode 28
IsGoodMode roles.Index mode = HasBit mode 29
