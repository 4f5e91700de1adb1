-- When what is said to be wrong with a tree in a stream, its header among it, is true of the stream's bytes.
use Rattle.std.specs.Prelude.{◌≡◌, ◌≢◌, ◌⊎◌, ℕ, pos, List, length}
use Rattle.bfs_base.specs.declared.kind.KeyKind.{KeyKind}
use Rattle.bfs_node.specs.Header.{code_of, HasMagic, HasSize}
use Rattle.bfs_pages.specs.Trees.{header_in}
use Rattle.bfs_finding.specs.declared.finding.PagePart.{PagePart}
use Rattle.bfs_finding.specs.declared.finding.PagePart.TheVariants as parts
use Rattle.bfs_finding.specs.TreeFaults.{IsPageFault, IsLinkFault, IsOrderFault}
use Rattle.bfs_walk.specs.declared.fault.TreeWrong.{TreeWrong}
use Rattle.bfs_walk.specs.declared.fault.TreeWrong.TheVariants.{Page, Link, Order}
use Rattle.bfs_walk.specs.declared.fault.WalkFault.{WalkFault}
use Rattle.bfs_walk.specs.declared.fault.WalkFault.TheVariants as walk

-- The header is wrong: its magic number is another one; the size of its pages isn't 1,024; it tells another size of the stream; or its kind
-- of keys is another one.
pub data IsTopFault (kind : KeyKind) (bytes : List ℕ) (part : PagePart) : Type 0 where
  no_magic : ¬ HasMagic (header_in bytes) → part ≡ parts.Magic → IsTopFault kind bytes part
  no_size : ¬ HasSize (header_in bytes) → part ≡ parts.Size → IsTopFault kind bytes part
  other_size : (header_in bytes).maximum_size ≢ pos (length bytes) → part ≡ parts.Size → IsTopFault kind bytes part
  other_kind : (header_in bytes).data_type ≢ code_of kind → part ≡ parts.Kind → IsTopFault kind bytes part

-- it is one of the findings on a tree in these bytes, or on its header
abbrev pub IsAmissIn : KeyKind → List ℕ → TreeWrong → Type 0
IsAmissIn kind bytes (Page page part) = IsPageFault kind bytes page part ⊎ ((page ≡ 0) × IsTopFault kind bytes part)
IsAmissIn kind bytes (Link page found wanted) = IsLinkFault kind bytes page found wanted
IsAmissIn kind bytes (Order page index) = IsOrderFault kind bytes page index

-- what is said to be wrong is true; the other faults say nothing of the tree
abbrev pub IsAmiss : {F : Type 0} → KeyKind → List ℕ → WalkFault F → Type 0
IsAmiss kind bytes (walk.Wrong wrong) = IsAmissIn kind bytes wrong
IsAmiss kind bytes (walk.Pages fault) = Unit {0}
IsAmiss kind bytes walk.NoMemory = Unit {0}
