-- Rows whose keys ascend: where a key is, what is picked there, what is put there.
use Rattle.std.proofs.Common.{◌≡◌, ◌≤◌, ◌<◌, ◌+◌, ℕ, ℤ, zero, suc, List, [], ◌∷◌, length, insert, Some, None, Ok, Err, Bool, true, false, cond, nat_le, refl, ap, sym, ◌∙◌, subst, arith}
use Rattle.std.specs.List.{AllByRecursion}
use Rattle.std.specs.Ordering.{is_lt}
use Rattle.std.specs.declared.cmp.Ordering.TheVariants.{Less}
use Rattle.bfs_node.specs.Keys.{key_cmp}
use Rattle.bfs_node.specs.BaseKeyKind.{KeyKind}
use Rattle.bfs_node.specs.Page.{Row, row_in, value_of}
use Rattle.bfs_node.specs.Search.{key_at, IsPlace, Ascends as IndexAscends}
use Rattle.bfs_pages.specs.Order.{Key, comes_before, at_most, same_keys}
use Rattle.bfs_pages.specs.Maps.{assoc, put}
use Rattle.bfs_pages.specs.Trees.{place_of, children_in}
use Rattle.bfs_pages.specs.Ways.{KeysAscend, KeysRise, FirstAt, pick_of, link_at}
use Rattle.bfs_pages.proofs.KeyOrder.{less-is, less_is_most, most_not, most_itself, same_itself, greater_not_same, less_not_same}

none-before : (i : ℕ) → i < 0 → ⊥
none-before i h = omega (arith, h)

-- each of the rows behind the first
all-at : (P : Key → Type 0) (rows : List Row) (j : ℕ) → AllByRecursion (λ s. P s.0) rows → j < length rows → P (key_at rows j)
all-at P [] j a h = absurd (omega (arith, h))
all-at P (r ∷ rs) zero a h = a.0
all-at P (r ∷ rs) (suc j) a h = all-at P rs j a.1 (omega (arith, h))

pub ascend-at : (kind : KeyKind) (rows : List Row) (i j : ℕ) → KeysAscend kind rows → i < j → j < length rows → comes_before kind (key_at rows i) (key_at rows j) ≡ true
ascend-at kind [] i j a l h = absurd (omega (arith, h))
ascend-at kind (r ∷ rs) i zero a l h = absurd (omega (arith, l))
ascend-at kind (r ∷ rs) zero (suc j) a l h = all-at (λ k. comes_before kind r.0 k ≡ true) rs j a.0 (omega (arith, h))
ascend-at kind (r ∷ rs) (suc i) (suc j) a l h = ascend-at kind rs i j a.1 (omega (arith, l)) (omega (arith, h))

is_less : (kind : KeyKind) (a b : Key) → comes_before kind a b ≡ true → key_cmp kind a b ≡ Less
is_less kind a b e = less-of e
  where
    less-of : is_lt (key_cmp kind a b) ≡ true → key_cmp kind a b ≡ Less
    less-of e = less-is (key_cmp kind a b) e

pub by-index : (kind : KeyKind) (rows : List Row) → KeysAscend kind rows → IndexAscends kind rows
by-index kind rows a i h = is_less kind (key_at rows i) (key_at rows (i + 1)) (ascend-at kind rows i (i + 1) a (omega arith) h)

-- keys that ascend rise
pub ascend-rise : (kind : KeyKind) (rows : List Row) → KeysAscend kind rows → KeysRise kind rows
ascend-rise kind [] a = tt
ascend-rise kind (r ∷ rs) a = (each rs a.0, ascend-rise kind rs a.1)
  where
    each : (xs : List Row) → AllByRecursion (λ s. comes_before kind r.0 s.0 ≡ true) xs → AllByRecursion (λ s. at_most kind r.0 s.0 ≡ true) xs
    each [] b = tt
    each (x ∷ xs) b = (less_is_most kind r.0 x.0 b.0, each xs b.1)

pub rise-at : (kind : KeyKind) (rows : List Row) (i j : ℕ) → KeysRise kind rows → i ≤ j → j < length rows → at_most kind (key_at rows i) (key_at rows j) ≡ true
rise-at kind [] i j a l h = absurd (omega (arith, h))
rise-at kind (r ∷ rs) zero zero a l h = most_itself kind r.0
rise-at kind (r ∷ rs) (suc i) zero a l h = absurd (omega (arith, l))
rise-at kind (r ∷ rs) zero (suc j) a l h = all-at (λ k. at_most kind r.0 k ≡ true) rs j a.0 (omega (arith, h))
rise-at kind (r ∷ rs) (suc i) (suc j) a l h = rise-at kind rs i j a.1 (omega (arith, l)) (omega (arith, h))

-- the place is the first, by the tests of the keys
pub first-from : (kind : KeyKind) (rows : List Row) (k : Key) (i : ℕ) → i ≤ length rows → ((j : ℕ) → j < i → comes_before kind (key_at rows j) k ≡ true) → (i < length rows → at_most kind k (key_at rows i) ≡ true) → FirstAt kind rows k i
first-from kind [] k i l b m = omega (arith, l)
first-from kind (r ∷ rs) k zero l b m = m (omega arith)
first-from kind (r ∷ rs) k (suc i) l b m =
    (most_not kind k r.0 (b zero (omega arith)), first-from kind rs k i (omega (arith, l)) (λ j h. b (suc j) (omega (arith, h))) (λ h. m (omega (arith, h))))

-- what is picked
pub pick-first : (kind : KeyKind) (rows : List Row) (last : ℤ) (k : Key) (i : ℕ) → FirstAt kind rows k i → pick_of kind (children_in rows) (place_of last) k ≡ place_of (link_at rows last i)
pick-first kind [] last k i f = refl
pick-first kind (r ∷ rs) last k zero f = ap (λ c. cond c (place_of r.1) (pick_of kind (children_in rs) (place_of last) k)) f
pick-first kind (r ∷ rs) last k (suc i) f = ap (λ c. cond c (place_of r.1) (pick_of kind (children_in rs) (place_of last) k)) f.0 ∙ pick-first kind rs last k i f.1

pub link-in : (rows : List Row) (last : ℤ) (i : ℕ) → i < length rows → link_at rows last i ≡ value_of (row_in rows i)
link-in [] last i h = absurd (omega (arith, h))
link-in (r ∷ rs) last zero h = refl
link-in (r ∷ rs) last (suc i) h = link-in rs last i (omega (arith, h))

pub link-end : (rows : List Row) (last : ℤ) (i : ℕ) → length rows ≤ i → link_at rows last i ≡ last
link-end [] last i h = refl
link-end (r ∷ rs) last zero h = absurd (omega (arith, h))
link-end (r ∷ rs) last (suc i) h = link-end rs last i (omega (arith, h))

-- the value at a key
pub assoc-found : (kind : KeyKind) (rows : List Row) (k : Key) (i : ℕ) → KeysAscend kind rows → IsPlace kind rows k (Ok i) → assoc kind rows k ≡ Some (value_of (row_in rows i))
assoc-found kind [] k i a p = absurd (omega (arith, p.0))
assoc-found kind (r ∷ rs) k zero a p = ap (λ c. cond c (Some r.1) (assoc kind rs k)) (subst (λ z. same_keys kind k z ≡ true) (sym p.1) (same_itself kind k))
assoc-found kind (r ∷ rs) k (suc i) a p =
    ap (λ c. cond c (Some r.1) (assoc kind rs k)) (greater_not_same kind k r.0 (subst (λ z. comes_before kind r.0 z ≡ true) p.1 (ascend-at kind (r ∷ rs) 0 (suc i) a (omega arith) p.0)))
    ∙ assoc-found kind rs k i a.1 (omega (arith, p.0), p.1)

assoc-none : (kind : KeyKind) (rows : List Row) (k : Key) → ((j : ℕ) → j < length rows → same_keys kind k (key_at rows j) ≡ false) → assoc kind rows k ≡ None
assoc-none kind [] k h = refl
assoc-none kind (r ∷ rs) k h = ap (λ c. cond c (Some r.1) (assoc kind rs k)) (h zero (omega arith)) ∙ assoc-none kind rs k (λ j l. h (suc j) (omega (arith, l)))

pub assoc-missed : (kind : KeyKind) (rows : List Row) (k : Key) (i : ℕ) → IsPlace kind rows k (Err i) → assoc kind rows k ≡ None
assoc-missed kind rows k i p = assoc-none kind rows k (λ j l. by_test j l (nat_le i j) refl)
  where
    le_yes : (a b : ℕ) → nat_le a b ≡ true → a ≤ b
    le_yes a b e = grind (arith, e)

    le_no : (a b : ℕ) → nat_le a b ≡ false → b < a
    le_no a b e = grind (arith, e)

    by_test : (j : ℕ) → j < length rows → (c : Bool) → nat_le i j ≡ c → same_keys kind k (key_at rows j) ≡ false
    by_test j l true e = less_not_same kind k (key_at rows j) (ap is_lt (p.2 j (le_yes i j e) l))
    by_test j l false e = greater_not_same kind k (key_at rows j) (ap is_lt (p.1 j (le_no i j e)))

-- what is put
pub put-first : (kind : KeyKind) (rows : List Row) (k : Key) (v : ℤ) (i : ℕ) → FirstAt kind rows k i → put kind rows k v ≡ insert rows i (k, v)
put-first kind [] k v zero f = refl
put-first kind [] k v (suc i) f = absurd (omega (arith, f))
put-first kind (r ∷ rs) k v zero f = ap (λ c. cond c ((k, v) ∷ r ∷ rs) (r ∷ put kind rs k v)) f
put-first kind (r ∷ rs) k v (suc i) f = ap (λ c. cond c ((k, v) ∷ r ∷ rs) (r ∷ put kind rs k v)) f.0 ∙ ap (λ l. r ∷ l) (put-first kind rs k v i f.1)

pub link-is : (P : ℤ → Type 0) (rows : List Row) (last : ℤ) (i : ℕ) → ((j : ℕ) → j < length rows → P (value_of (row_in rows j))) → P last → P (link_at rows last i)
link-is P [] last i a l = l
link-is P (r ∷ rs) last zero a l = a zero (omega arith)
link-is P (r ∷ rs) last (suc i) a l = link-is P rs last i (λ j h. a (suc j) (omega (arith, h))) l
