-- Which groups have left the log.
use Rattle.std.specs.Prelude.{◌≡◌, ◌≤◌, ◌<◌, ℕ, List, length, false, slice_index_or}
use Rattle.bfs_bitmap.specs.declared.given.Given.{Given}
use Rattle.bfs_bitmap.specs.Givens.{is_left}
use Rattle.bfs_bitmap.specs.Runs.{none_given}

-- The group of none of the runs has left the log by this number, and each group that is still to be closed has a higher one.
pub record HasNoneLeft (left last : ℕ) (given : List Given) : Type 0 where
  pub low : left ≤ last
  pub none : (i : ℕ) → i < length given → is_left left (slice_index_or given i none_given) ≡ false
