use Rattle.std.proofs.Common.{◌≡◌, drop}
use Rattle.std.specs.FinMap.{find}
use Rattle.bfs_base.specs.Keys.{text_cmp}
use Rattle.bfs_index_walk.specs.Indices.{kinds_of}
use Rattle.bfs_indices_check.proofs.built_in.has_index.Given as goal

abbrev pub invariant-loop-i : goal.invariant-loop-i
invariant-loop-i l = find text_cmp l.name (kinds_of l.found) ≡ find text_cmp l.name (kinds_of (drop l.i l.found))
