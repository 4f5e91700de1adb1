-- The rows of an interior page without a child.
use Rattle.std.proofs.Common.{◌≡◌, ◌≤◌, ◌<◌, ◌-◌, ℕ, ℤ, zero, suc, List, [], ◌∷◌, length, remove, cond, refl, ap, sym, ◌∙◌, arith}
use Rattle.bfs_base.specs.declared.kind.KeyKind.{KeyKind}
use Rattle.bfs_node.specs.Page.{Row, row_in, value_of, key_of, HasKeys, IsKeyLength}
use Rattle.bfs_pages.specs.Order.{Key}
use Rattle.bfs_pages.specs.Trees.{place_of, children_in}
use Rattle.bfs_pages.specs.Ways.{FirstAt}
use Rattle.bfs_remove.specs.Cuts.{keys_without, last_without}
use Rattle.bfs_remove.specs.Removed.{rows_less, last_less}

pub less-in : (rows : List Row) (last : ℤ) (i : ℕ) → i < length rows → (remove rows i ≡ rows_less rows i) × (last_less rows last i ≡ last)
less-in [] last i h = absurd (omega (arith, h))
less-in (r ∷ []) last zero h = (refl, refl)
less-in (r ∷ []) last (suc i) h = absurd (omega (arith, h))
less-in (r ∷ (s ∷ rs)) last zero h = (refl, refl)
less-in (r ∷ (s ∷ rs)) last (suc i) h = let ih = less-in (s ∷ rs) last i (omega (arith, h)) in (ap (λ l. r ∷ l) ih.0, ih.1)

pub less-end : (rows : List Row) (last : ℤ) (i : ℕ) → 1 ≤ length rows → length rows ≤ i → (remove rows (length rows - 1) ≡ rows_less rows i) × (value_of (row_in rows (length rows - 1)) ≡ last_less rows last i)
less-end [] last i some h = absurd (omega (arith, some))
less-end (r ∷ []) last zero some h = absurd (omega (arith, h))
less-end (r ∷ []) last (suc i) some h = (ap (remove (r ∷ [])) one, ap (λ n. value_of (row_in (r ∷ []) n)) one)
  where
    one : length (r ∷ []) - 1 ≡ 0
    one = omega arith
less-end (r ∷ (s ∷ rs)) last zero some h = absurd (omega (arith, h))
less-end (r ∷ (s ∷ rs)) last (suc i) some h =
    let ih = less-end (s ∷ rs) last i (omega arith) (omega (arith, h)) in
    (ap (remove (r ∷ (s ∷ rs))) more ∙ ap (λ l. r ∷ l) ih.0, ap (λ n. value_of (row_in (r ∷ (s ∷ rs)) n)) more ∙ ih.1)
  where
    more : length (r ∷ (s ∷ rs)) - 1 ≡ suc (length (s ∷ rs) - 1)
    more = omega arith

pub less-none : (rows : List Row) (last : ℤ) (i : ℕ) → length rows ≡ 0 → (rows_less rows i ≡ rows) × (last_less rows last i ≡ last)
less-none [] last i h = (refl, refl)
less-none (r ∷ rs) last i h = absurd (omega (arith, h))

-- what the page says since
pub less-keys : (kind : KeyKind) (rows : List Row) (last : ℤ) (k : Key) (i : ℕ) → FirstAt kind rows k i
    → (children_in (rows_less rows i) ≡ keys_without kind (children_in rows) k) × (place_of (last_less rows last i) ≡ last_without kind (children_in rows) (place_of last) k)
less-keys kind [] last k i f = (refl, refl)
less-keys kind (r ∷ []) last k zero f = (refl, sym (ap (λ c. cond c (place_of last) (place_of r.1)) f))
less-keys kind (r ∷ []) last k (suc i) f = (refl, sym (ap (λ c. cond c (place_of last) (place_of r.1)) f.0))
less-keys kind (r ∷ (s ∷ rs)) last k zero f = (
  sym (ap (λ c. cond c (children_in (s ∷ rs)) ((r.0, place_of r.1) ∷ keys_without kind (children_in (s ∷ rs)) k)) f),
  sym (ap (λ c. cond c (place_of last) (last_without kind (children_in (s ∷ rs)) (place_of last) k)) f),
)
less-keys kind (r ∷ (s ∷ rs)) last k (suc i) f =
    let ih = less-keys kind (s ∷ rs) last k i f.1 in (
      ap (λ l. (r.0, place_of r.1) ∷ l) ih.0 ∙ sym (ap (λ c. cond c (children_in (s ∷ rs)) ((r.0, place_of r.1) ∷ keys_without kind (children_in (s ∷ rs)) k)) f.0),
      ih.1 ∙ sym (ap (λ c. cond c (place_of last) (last_without kind (children_in (s ∷ rs)) (place_of last) k)) f.0),
    )

-- the rows that are left are some of those before
pub less-all : (kind : KeyKind) (rows : List Row) (i : ℕ) → HasKeys kind rows → HasKeys kind (rows_less rows i)
less-all kind [] i h = h
less-all kind (r ∷ []) i h = λ j l. absurd (omega (arith, l))
less-all kind (r ∷ (s ∷ rs)) zero h = λ j l. h (suc j) (omega (arith, l))
less-all kind (r ∷ (s ∷ rs)) (suc i) h = at (less-all kind (s ∷ rs) i (λ j l. h (suc j) (omega (arith, l))))
  where
    at : HasKeys kind (rows_less (s ∷ rs) i) → (j : ℕ) → j < length (r ∷ rows_less (s ∷ rs) i) → IsKeyLength kind (length (key_of (row_in (r ∷ rows_less (s ∷ rs) i) j)))
    at ih zero l = h zero (omega arith)
    at ih (suc j) l = ih j (omega (arith, l))

pub less-last : (P : ℤ → Type 0) (rows : List Row) (last : ℤ) (i : ℕ) → ((j : ℕ) → j < length rows → P (value_of (row_in rows j))) → P last → P (last_less rows last i)
less-last P [] last i a l = l
less-last P (r ∷ []) last zero a l = l
less-last P (r ∷ []) last (suc i) a l = a zero (omega arith)
less-last P (r ∷ (s ∷ rs)) last zero a l = l
less-last P (r ∷ (s ∷ rs)) last (suc i) a l = less-last P (s ∷ rs) last i (λ j h. a (suc j) (omega (arith, h))) l
