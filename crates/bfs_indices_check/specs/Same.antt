-- The rows of an index, given one after the other, held against the pairs that are wanted.
use Rattle.std.proofs.Common.{◌≡◌, ℕ, List, [], Bool, true, take, ap, arith}
use Rattle.std.specs.List.{flat_map}
use Rattle.bfs_range.specs.declared.ranged.RangedRow.{RangedRow}
use Rattle.bfs_index_check.specs.Compared.{Pair, row_pairs, AreMet}

-- as long as no pair was another one, the pairs of these rows are the first that are wanted, so many
abbrev pub AreSame : List Pair → ℕ → Bool → List RangedRow → Type 0
AreSame wanted at same rows = same ≡ true → AreMet wanted at (flat_map row_pairs rows)

-- before the first row none was met
pub none_met : (wanted : List Pair) (at : ℕ) → at ≡ 0 → AreMet wanted at []
none_met wanted at begin = record { few = omega (arith, begin); are = ap (λ (n : ℕ). take n wanted) begin }
