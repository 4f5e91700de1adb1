-- The rows of a page that is divided, and of the page above it.
use Rattle.std.proofs.Common.{◌≡◌, ◌≤◌, ◌<◌, ◌+◌, ◌*◌, ℕ, ℤ, zero, suc, List, [], ◌∷◌, ◌++◌, length, take, drop, insert, set, refl, ap, arith}
use Rattle.bfs_node.specs.Page.{Row, HasLayout, rows_of, row_in, key_of, count_at}
use Rattle.bfs_node.proofs.PageLayout.{length-rows_of, row_in-rows_of, length-key, end-within}
use Rattle.bfs_pages.specs.Order.{Key}
use Rattle.bfs_insert.specs.Divided.{weight, bound_rows, bound_last}
use Rattle.bfs_pages.specs.Ways.{link_at}

pub rows-some : (p : List ℕ) → HasLayout p → 10 * length (rows_of p) ≤ 1024
rows-some p l = omega (arith, l.bounds, length-rows_of p)

pub key-small : (p : List ℕ) (i : ℕ) → HasLayout p → i < length (rows_of p) → length (key_of (row_in (rows_of p) i)) ≤ 1024
key-small p i l h =
    let n : i < count_at p = omega (arith, length-rows_of p, h) in
    omega (arith, ap (λ (r : Row). length (key_of r)) (row_in-rows_of p i n), length-key p l i n, end-within p l i n, l.bounds)

pub weight-next : (rows : List Row) (i : ℕ) → i < length rows → weight (take (suc i) rows) ≡ weight (take i rows) + (length (key_of (row_in rows i)) + 10)
weight-next [] i h = absurd (omega (arith, h))
weight-next (r ∷ rs) zero h = omega arith
weight-next (r ∷ rs) (suc i) h = omega (arith, weight-next rs i (omega (arith, h)))

pub bound-inner : (rows : List Row) (last : ℤ) (i : ℕ) (bound : Key) (right : ℤ) → i < length rows
    → set (insert rows i (bound, link_at rows last i)) (suc i) (key_of (row_in (insert rows i (bound, link_at rows last i)) (suc i)), right) ≡ bound_rows rows last i bound right
bound-inner [] last i bound right h = absurd (omega (arith, h))
bound-inner (r ∷ rs) last zero bound right h = refl
bound-inner (r ∷ rs) last (suc i) bound right h = ap (λ l. r ∷ l) (bound-inner rs last i bound right (omega (arith, h)))

pub bound-inner_last : (rows : List Row) (last : ℤ) (i : ℕ) (right : ℤ) → i < length rows → bound_last rows last i right ≡ last
bound-inner_last [] last i right h = absurd (omega (arith, h))
bound-inner_last (r ∷ rs) last zero right h = refl
bound-inner_last (r ∷ rs) last (suc i) right h = bound-inner_last rs last i right (omega (arith, h))

pub bound-end : (rows : List Row) (last : ℤ) (i : ℕ) (bound : Key) (right : ℤ) → i ≡ length rows → insert rows i (bound, link_at rows last i) ≡ bound_rows rows last i bound right
bound-end [] last zero bound right h = refl
bound-end [] last (suc i) bound right h = absurd (omega (arith, h))
bound-end (r ∷ rs) last zero bound right h = absurd (omega (arith, h))
bound-end (r ∷ rs) last (suc i) bound right h = ap (λ l. r ∷ l) (bound-end rs last i bound right (omega (arith, h)))

pub bound-end_last : (rows : List Row) (last : ℤ) (i : ℕ) (right : ℤ) → i ≡ length rows → bound_last rows last i right ≡ right
bound-end_last [] last i right h = refl
bound-end_last (r ∷ rs) last zero right h = absurd (omega (arith, h))
bound-end_last (r ∷ rs) last (suc i) right h = bound-end_last rs last i right (omega (arith, h))

pub take-removed : (rows : List Row) (i : ℕ) → i < length rows → take i (take (suc i) rows) ++ drop (suc i) (take (suc i) rows) ≡ take i rows
take-removed [] i h = absurd (omega (arith, h))
take-removed (r ∷ rs) zero h = refl
take-removed (r ∷ rs) (suc i) h = ap (λ l. r ∷ l) (take-removed rs i (omega (arith, h)))
