-- The rows of a whole tree in a range.
use Rattle.std.proofs.Common.{◌≡◌, ℕ, List, [], ◌∷◌, Bool, true, false, cond, Option, ◌&&◌, subst}
use Rattle.std.specs.Prelude.{Result, MatchResult}
use Rattle.bfs_base.specs.declared.kind.KeyKind.{KeyKind}
use Rattle.bfs_node.specs.Page.{Row}
use Rattle.bfs_pages.specs.Order.{Key}
use Rattle.bfs_range.specs.Answers.{answer_of}
use Rattle.bfs_range.specs.Ranges.{is_from, is_upto, rows_between}
use Rattle.bfs_range.specs.declared.ranged.RangedRow.{RangedRow}
use Rattle.bfs_values.specs.Reached.{AllMean}

mean_between : (kind : KeyKind) (b : List ℕ) (low high : Option Key) (rows : List Row) → AllMean b rows → AllMean b (rows_between kind low high rows)
mean_between kind b low high [] all = tt
mean_between kind b low high (r ∷ rs) all = by_test (is_from kind low r.0 && is_upto kind high r.0) (mean_between kind b low high rs all.1)
  where
    by_test : (t : Bool) → AllMean b (rows_between kind low high rs) → AllMean b (cond t (r ∷ rows_between kind low high rs) (rows_between kind low high rs))
    by_test true rest = (all.0, rest)
    by_test false rest = rest

-- the answer of a range over a whole tree, by the rows of its bytes
pub ranged_whole : {F : Type 0} (kind : KeyKind) (b : List ℕ) (low high : Option Key) (rows other : List Row) (r : Result (List RangedRow) F) (Q : F → Type 0) → rows ≡ other → AllMean b other
    → (AllMean b (rows_between kind low high rows) → MatchResult r (λ found. found ≡ answer_of b (rows_between kind low high rows)) Q)
    → MatchResult r (λ found. found ≡ answer_of b (rows_between kind low high other)) Q
ranged_whole kind b low high rows other r Q same all f =
    subst (λ (l : List Row). AllMean b (rows_between kind low high l) → MatchResult r (λ found. found ≡ answer_of b (rows_between kind low high l)) Q) same f (mean_between kind b low high other all)
