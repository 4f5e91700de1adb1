-- Rows of two directories that may be one.
use Rattle.std.proofs.Common.{ℕ, List, Bool, true, false, cond}
use Rattle.std.specs.Prelude.{◌==◌}
use Rattle.bfs_base.specs.declared.kind.KeyKind.TheVariants.{Text}
use Rattle.bfs_pages.specs.Maps.{without}
use Rattle.bfs_maps.specs.NumberTrees.{AreNumbers}
use Rattle.bfs_maps.proofs.Plain.{numbers_without}
use Rattle.bfs_shift.specs.Lists.{Lists}
use Rattle.bfs_rename.specs.Rows.{row_taken}

-- once a row is taken, the rows are plain numbers still
pub numbers_left : (lists : Lists) (dir : ℕ) (name : List ℕ) (k : ℕ) → AreNumbers (lists.rows dir) → AreNumbers (lists.rows k) → AreNumbers ((row_taken lists dir name).rows k)
numbers_left lists dir name k own other = by_test (k == dir)
  where
    by_test : (b : Bool) → AreNumbers (cond b (without Text (lists.rows dir) name) (lists.rows k))
    by_test true = numbers_without Text (lists.rows dir) name own
    by_test false = other
