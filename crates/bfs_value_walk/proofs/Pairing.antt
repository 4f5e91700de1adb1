-- The pairs of what was read are those of the rows.
use Rattle.std.proofs.Common.{◌≡◌, ◌++◌, ℕ, List, [], ◌∷◌, map, refl, ap, ◌∙◌}
use Rattle.std.specs.List.{flat_map}
use Rattle.bfs_base.specs.declared.kind.KeyKind.{KeyKind}
use Rattle.bfs_node.specs.Page.{Row}
use Rattle.bfs_values.specs.Reached.{AreWritten, pairs_of}
use Rattle.bfs_values.specs.Rows.{rows_in}
use Rattle.bfs_values.specs.Values.{values_in}
use Rattle.bfs_range.specs.declared.ranged.RangedRow.{RangedRow}
use Rattle.bfs_range.specs.Answers.{answer_of}
use Rattle.bfs_value_walk.specs.Taken.{IsWholeWith}
use Rattle.bfs_value_walk.specs.Written.{pairs_by}

answered : (b : List ℕ) (rows : List Row) → pairs_by (answer_of b rows) ≡ flat_map (pairs_of b) rows
answered b [] = refl
answered b (r ∷ rows) = ap (λ (l : List (List ℕ × ℕ)). map (λ n. (r.0, n)) (values_in b r.1) ++ l) (answered b rows)

pub written : (kind : KeyKind) (b : List ℕ) (taken : List RangedRow) → IsWholeWith kind b taken → AreWritten b (rows_in kind b) (pairs_by taken)
written kind b taken w = record { are = ap pairs_by w.1 ∙ answered b (rows_in kind b) }
