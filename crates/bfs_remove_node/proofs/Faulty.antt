-- The faults of taking a row, as those of the call.
use Rattle.std.proofs.Common.{◌≡◌, ℕ, ℤ, List, Some, None, sym, ◌∙◌}
use Rattle.bfs_base.specs.declared.kind.KeyKind.TheVariants.{Text}
use Rattle.bfs_node.specs.Page.{Row}
use Rattle.bfs_node.specs.declared.fault.TreeFault.{TreeFault}
use Rattle.bfs_node.specs.declared.fault.TreeFault.TheVariants as tree
use Rattle.bfs_pages.specs.Maps.{assoc}
use Rattle.bfs_pages.specs.Order.{Key}
use Rattle.bfs_stream.specs.declared.fault.GrowFault.{GrowFault}
use Rattle.bfs_maps.specs.Refused.{IsUndone, IsTakeFault}
use Rattle.bfs_calls.specs.Faults.{take_fault}

pub take_undone : (rows : List Row) (name : Key) (value : ℤ) (directory : ℕ) (f : TreeFault GrowFault) → assoc Text rows name ≡ Some value → IsTakeFault Text rows name f → IsUndone (take_fault directory f)
take_undone rows name value directory tree.Exists there bad = bad
take_undone rows name value directory tree.Absent there none = let bad : Some value ≡ None = sym there ∙ none in absurd cc
take_undone rows name value directory (tree.Damaged page sort) there bad = bad
take_undone rows name value directory (tree.Pages f) there why = why
take_undone rows name value directory tree.NoMemory there why = tt
