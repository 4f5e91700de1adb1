-- The pairs of rows that were given one after the other are the first of those that are wanted.
use Rattle.std.proofs.Common.{◌≡◌, ◌<◌, ◌∙◌, ℕ, zero, suc, List, [], ◌∷◌, ◌++◌, length, drop, get_or, refl, sym, ap, subst, arith, append-nil}
use Rattle.std.specs.List.{flat_map}
use Rattle.std.proofs.lemmas.List.Concat.{flat_map-append}
use Rattle.bfs_range.specs.declared.ranged.RangedRow.{RangedRow}
use Rattle.bfs_index.specs.declared.found.Pair as kept
use Rattle.bfs_index_check.specs.Compared.{Pair, pair_of, pairs_of, row_pairs, AreMet, IsNext}
use Rattle.bfs_index_check.proofs.Prefixes.{met_all}

-- the pair at a place is the next one
pub next_at : (ws : List kept.Pair) (at : ℕ) (p : kept.Pair) → at < length ws → p ≡ get_or ws at p → IsNext (drop at (pairs_of ws)) (pair_of p)
next_at [] at p inside is = absurd (omega (arith, inside))
next_at (w ∷ ws) zero p inside is = (pairs_of ws, ap (λ (x : kept.Pair). pair_of x ∷ pairs_of ws) (sym is))
next_at (w ∷ ws) (suc at) p inside is = next_at ws at p (omega (arith, inside)) is

-- a row was met behind others
pub row_behind : (wanted : List Pair) (to : ℕ) (rows : List RangedRow) (x : RangedRow) → AreMet wanted to (flat_map row_pairs rows ++ row_pairs x) → AreMet wanted to (flat_map row_pairs (rows ++ x ∷ []))
row_behind wanted to rows x are =
    subst (AreMet wanted to) (ap (λ (ps : List Pair). flat_map row_pairs rows ++ ps) (sym (append-nil (row_pairs x))) ∙ sym (flat_map-append row_pairs rows (x ∷ []))) are

long : (ws : List kept.Pair) → length (pairs_of ws) ≡ length ws
long [] = refl
long (w ∷ ws) = ap suc (long ws)

-- all were met
pub all_met : (ws : List kept.Pair) (at : ℕ) (rows : List RangedRow) → at ≡ length ws → AreMet (pairs_of ws) at (flat_map row_pairs rows) → pairs_of ws ≡ flat_map row_pairs rows
all_met ws at rows is are = met_all (pairs_of ws) (flat_map row_pairs rows) at are (let l = long ws in omega (arith, is, l))
