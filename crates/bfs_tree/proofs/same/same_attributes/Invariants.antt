use Rattle.std.proofs.Common.{◌≡◌, ◌<◌, ℕ}
use Rattle.std.specs.Prelude.{slice_index_or}
use Rattle.bfs_tree.proofs.same.same_attributes.Given as goal

-- the elements before the place are the same
abbrev pub invariant-loop-i : goal.invariant-loop-i
invariant-loop-i l = (k : ℕ) (d : _) → k < l.i → slice_index_or l.rows k d ≡ slice_index_or l.others k d
