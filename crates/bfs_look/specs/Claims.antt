-- What the bytes of a block say of a node whose inode they would be.
use Rattle.std.specs.Prelude.{◌≡◌, ℕ, List, Option, Some, None, ◌/◌, ◌%◌, ◌==◌, if◌then◌else◌}
use Rattle.std.specs.Option.{option_and_then}
use Rattle.bfs_bytes.specs.Fields.{unsigned_at}
use Rattle.bfs_smalldata.specs.Items.{Item, items_of}
use Rattle.bfs_smalldata.specs.Edits.{named}
use Rattle.bfs_tree.specs.declared.call.Kind.{Kind}
use Rattle.bfs_tree.specs.declared.call.Kind.TheVariants.{File, Dir, Link}
use Rattle.bfs_tree.specs.Trees.{Node}
use Rattle.bfs_sound.specs.Attributes.{own_name, is_name_item}
use Rattle.bfs_look.specs.declared.claim.Claim.{Claim}
use Rattle.bfs_look.specs.declared.claim.OwnName.{OwnName}
use Rattle.bfs_look.specs.declared.claim.OwnName.TheVariants as own
use Rattle.bfs_look.specs.declared.claim.Claimed.{Claimed}
use Rattle.bfs_look.specs.declared.claim.Claimed.TheVariants as claimed

-- the kind that has these four bits of a mode, if there is one
abbrev pub kind_of : ℕ → Option Kind
kind_of bits = if bits == 8 then Some File else if bits == 4 then Some Dir else if bits == 10 then Some Link else None

-- the kind by the mode in the bytes of an inode
abbrev pub kind_in : List ℕ → Option Kind
kind_in block = kind_of (unsigned_at 4 block 20 / 4096 % 16)

-- the bytes of the item, where it is the one with a node's own name
abbrev pub name_in : Item → Option (List ℕ)
name_in item = if is_name_item item then Some item.bytes else None

-- a node's own name among the items of an area of small data
abbrev pub own_name_in : List ℕ → Option (List ℕ)
own_name_in area = option_and_then name_in (option_and_then (named own_name) (items_of area))

-- what was read of an area is a node's own name there, or that there is none; or there was no memory for it
abbrev pub IsOwnName : List ℕ → OwnName → Type 0
IsOwnName area (own.Is name) = own_name_in area ≡ Some name
IsOwnName area own.Missing = own_name_in area ≡ None
IsOwnName area own.NoMemory = Unit {0}

-- these bytes were copied; or there was no memory for them
abbrev pub IsCopied : List ℕ → OwnName → Type 0
IsCopied bytes (own.Is name) = name ≡ bytes
IsCopied bytes own.Missing = ⊥
IsCopied bytes own.NoMemory = Unit {0}

-- what was read is a node's kind, parent and name
pub record IsClaimOf (n : Node) (claim : Claim) : Type 0 where
  pub kind : claim.kind ≡ n.kind
  pub parent : claim.parent ≡ n.parent
  pub name : claim.name ≡ n.name

-- a node's inode says this of it; or there was no memory for it
abbrev pub IsClaimed : Node → Claimed → Type 0
IsClaimed n (claimed.Says claim) = IsClaimOf n claim
IsClaimed n claimed.Nothing = ⊥
IsClaimed n claimed.NoMemory = Unit {0}
