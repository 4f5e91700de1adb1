-- When what is said to be wrong with a tree is true of its bytes.
use Rattle.std.specs.Prelude.{ℕ, List, Bool, true, false}
use Rattle.bfs_base.specs.declared.kind.KeyKind.{KeyKind}
use Rattle.bfs_finding.specs.Walks.{inners_in, leaves_in}
use Rattle.bfs_finding.specs.TreeFaults.{IsPageFault, IsLinkFault, IsOrderFault}
use Rattle.bfs_walk.specs.declared.fault.TreeWrong.{TreeWrong}
use Rattle.bfs_walk.specs.declared.fault.WalkFault.{WalkFault}
use Rattle.bfs_walk.specs.declared.fault.WalkFault.TheVariants as walk
use Rattle.bfs_walk.specs.declared.fault.TreeWrong.TheVariants.{Page, Link, Order}

-- it is one of the findings on a tree in these bytes
abbrev pub IsWrongTree : KeyKind → List ℕ → TreeWrong → Type 0
IsWrongTree kind bytes (Page page part) = IsPageFault kind bytes page part
IsWrongTree kind bytes (Link page found wanted) = IsLinkFault kind bytes page found wanted
IsWrongTree kind bytes (Order page index) = IsOrderFault kind bytes page index

-- the leaves of the tree in these bytes, or its interior pages
abbrev pub pages_at : KeyKind → List ℕ → Bool → List ℕ
pages_at kind bytes true = leaves_in kind bytes
pages_at kind bytes false = inners_in kind bytes

-- what is said to be wrong is true; the other faults say nothing of the tree
abbrev pub IsWrong : {F : Type 0} → KeyKind → List ℕ → WalkFault F → Type 0
IsWrong kind bytes (walk.Wrong wrong) = IsWrongTree kind bytes wrong
IsWrong kind bytes (walk.Pages fault) = Unit {0}
IsWrong kind bytes walk.NoMemory = Unit {0}

-- a call of the pages that failed has its cause
abbrev pub IsWalkCause : {F : Type 0} → (F → Type 0) → WalkFault F → Type 0
IsWalkCause cause (walk.Wrong wrong) = Unit {0}
IsWalkCause cause (walk.Pages fault) = cause fault
IsWalkCause cause walk.NoMemory = Unit {0}
