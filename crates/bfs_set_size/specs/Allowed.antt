-- How many blocks a call may change and take that gives a file a size.
use Rattle.std.specs.Prelude.{◌≡◌, ◌≤◌, ◌+◌, ℕ}
use Rattle.bfs_tree.specs.declared.call.Call.TheVariants.{SetSize}
use Rattle.bfs_tree.specs.Trees.{Tree}
use Rattle.bfs_sound.specs.Need.{cost_of, logged_need, need}
use Rattle.bfs_sound.specs.Volumes.{Volume}
use Rattle.bfs_calls.specs.Allowances.{allowance}
use Rattle.bfs_set_size.specs.declared.allowance.SizeAllowance.{SizeAllowance}

-- Of the blocks that the log holds as many may be changed as the call is allowed; and the data blocks that the file gains may be taken beside.
pub record IsSizeAllowance (v : Volume) (tree : Tree) (id size : ℕ) (a : SizeAllowance) : Type 0 where
  pub logged : a.logged ≡ allowance v tree (SetSize id size)
  pub taken : a.taken ≡ a.logged + (cost_of v tree (SetSize id size)).file

-- no more than the format's bounds on a call's blocks: on those that the log holds, and on all
pub record IsWithinNeed (v : Volume) (tree : Tree) (id size : ℕ) (a : SizeAllowance) : Type 0 where
  pub logged : a.logged ≤ logged_need v tree (SetSize id size)
  pub taken : a.taken ≤ need v tree (SetSize id size)
