-- A page of a stream that wasn't met.
use Rattle.std.specs.Prelude.{◌≡◌, ℕ, pos, negsuc}
use Rattle.bfs_pages.specs.Trees.{held}
use Rattle.bfs_walk.specs.declared.fault.TreeWrong.{TreeWrong}
use Rattle.bfs_walk.specs.declared.fault.TreeWrong.TheVariants.{Link}

-- a page of a stream with so many bytes is said to be met nowhere, and it wasn't met; `seen` says how often a page was
pub record IsUnmet (size : ℕ) (seen : ℕ → ℕ) (wrong : TreeWrong) : Type 0 where
  pub page : ℕ
  pub is : wrong ≡ Link page (negsuc 0) (pos page)
  pub there : held size page ≡ 1
  pub none : seen page ≡ 0
