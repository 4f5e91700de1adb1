-- Keys with their numbers, written out as pairs.
use Rattle.std.specs.Prelude.{ℕ, List, map}
use Rattle.std.specs.List.{flat_map}
use Rattle.bfs_range.specs.declared.ranged.RangedRow.{RangedRow}

-- each key with each of its numbers, in order
abbrev pub pairs_by : List RangedRow → List (List ℕ × ℕ)
pairs_by rows = flat_map (λ (a : RangedRow). map (λ n. (a.key, n)) a.numbers) rows
