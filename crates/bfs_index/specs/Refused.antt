-- Why a call on an index is refused.
use Rattle.std.specs.Prelude.{◌≡◌, ℕ, ℤ, List, Option, Some, IfSome}
use Rattle.bfs_base.specs.declared.kind.KeyKind.{KeyKind}
use Rattle.bfs_bitmap.specs.Runs.{Room}
use Rattle.bfs_node.specs.Page.{rows_of}
use Rattle.bfs_node.specs.declared.fault.PageKind.{PageKind}
use Rattle.bfs_node.specs.declared.fault.PageKind.TheVariants.{Header, Interior, Leaf, Fragment, Duplicates}
use Rattle.bfs_node.specs.declared.fault.TreeFault.{TreeFault}
use Rattle.bfs_node.specs.declared.fault.TreeFault.TheVariants.{Exists, Absent, Damaged, Pages, NoMemory}
use Rattle.bfs_txn.specs.Faults.{Counts}
use Rattle.bfs_pages.specs.Maps.{assoc}
use Rattle.bfs_pages.specs.Order.{Key}
use Rattle.bfs_pages.specs.Trees.{page_in}
use Rattle.bfs_pages.specs.Ways.{KeysAscend}
use Rattle.bfs_stream.specs.Faults.{IsGrowCause}
use Rattle.bfs_stream.specs.Sizes.{Origin}
use Rattle.bfs_stream.specs.declared.fault.GrowFault.{GrowFault}
use Rattle.bfs_stream_pages.specs.Causes.{HasFailed}
use Rattle.bfs_values.specs.Kinds.{IsWanted}

-- a leaf has a row of this key, among rows whose keys ascend
abbrev pub HasRowOf : KeyKind → List ℕ → ℕ → Key → Type 0
HasRowOf kind bytes leaf key = KeysAscend kind (rows_of (page_in bytes leaf)) × ((value : ℤ) × (assoc kind (rows_of (page_in bytes leaf)) key ≡ Some value))

-- The page at this byte is of this kind, as a reader of pairs wants it. A leaf that has been found to have a key has it still.
abbrev pub IsPairPage : KeyKind → Key → List ℕ → ℕ → PageKind → Type 0
IsPairPage kind key bytes at Header = IsWanted kind bytes at Header
IsPairPage kind key bytes at Interior = IsWanted kind bytes at Interior
IsPairPage kind key bytes at Leaf = IsWanted kind bytes at Leaf × HasRowOf kind bytes at key
IsPairPage kind key bytes at Fragment = IsWanted kind bytes at Fragment
IsPairPage kind key bytes at Duplicates = IsWanted kind bytes at Duplicates

-- a page isn't as it has to be, a call of the pages failed, or there is no room for a number
abbrev pub IsUnpaired : {F : Type 0} → KeyKind → Key → Option (List ℕ) → (F → Type 0) → TreeFault F → Type 0
IsUnpaired kind key told cause Exists = ⊥
IsUnpaired kind key told cause Absent = ⊥
IsUnpaired kind key told cause (Damaged page sort) = IfSome told (λ bytes. ¬ IsPairPage kind key bytes page sort)
IsUnpaired kind key told cause (Pages fault) = cause fault
IsUnpaired kind key told cause NoMemory = Unit {0}

-- A pair wasn't added to an index: a block could not be had, or a page added, for a reason; or there is no room for a number. No
-- page is damaged.
abbrev pub IsPairFault : Origin → Room → (ℕ → Option (List ℕ)) → TreeFault GrowFault → Type 0
IsPairFault o v m Exists = ⊥
IsPairFault o v m Absent = ⊥
IsPairFault o v m (Damaged page sort) = ⊥
IsPairFault o v m (Pages fault) = HasFailed o v m fault
IsPairFault o v m NoMemory = Unit {0}

-- the causes of a fault in what lies below, of a call that adds: that a key is there, or that it isn't, is never answered
abbrev pub HasPairCause : Counts → Counts → TreeFault GrowFault → Type 0
HasPairCause old new Exists = ⊥
HasPairCause old new Absent = ⊥
HasPairCause old new (Damaged page sort) = Unit {0}
HasPairCause old new (Pages fault) = IsGrowCause 1 old new fault
HasPairCause old new NoMemory = Unit {0}
