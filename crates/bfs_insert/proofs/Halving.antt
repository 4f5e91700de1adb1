-- The halves of a full page, and the page above them.
use Rattle.std.proofs.Common.{◌≡◌, ◌≤◌, ◌<◌, ◌+◌, ◌*◌, ℕ, ℤ, pos, zero, suc, List, [], ◌∷◌, ◌++◌, length, take, drop, Bool, true, false, cond, nat_le, refl, ap, ap₂, sym, ◌∙◌, subst, arith, length-append, length-drop}
use Rattle.std.proofs.lemmas.List.{get_or-drop}
use Rattle.std.proofs.Math.Seq.{split_at, drop-cons}
use Rattle.bfs_base.specs.declared.kind.KeyKind.{KeyKind}
use Rattle.bfs_base.specs.declared.kind.KeyKind.TheVariants.{Text, I32, U32, I64, U64, F32, F64}
use Rattle.bfs_node.specs.Page.{Row, HasKeys, HasRoom, IsKeyLength, rows_of, row_in, key_of, value_of, keys_of, links_of, taken_by}
use Rattle.bfs_node.specs.Search.{key_at}
use Rattle.bfs_node.proofs.AllRows.{all-part}
use Rattle.bfs_insert.specs.Growth.{key_total}
use Rattle.bfs_insert.specs.Divided.{weight, bound_rows, bound_last, IsRoomy, IsLeafSplit, IsInteriorSplit, IsBetween}
use Rattle.bfs_pages.specs.Order.{Key, at_most}
use Rattle.bfs_pages.specs.Trees.{place_of, children_in}
use Rattle.bfs_pages.specs.Ways.{KeysRise, FirstAt, keys_split, last_split}
use Rattle.bfs_pages.proofs.KeyOrder.{most_most}
use Rattle.bfs_pages.proofs.Says.{place-pos}
use Rattle.bfs_pages.proofs.Sorted.{rise-at}
use Rattle.bfs_insert.proofs.Dividing.{weight-next}

-- how much of a page its rows take
pub keys-total : (rows : List Row) → length (keys_of rows) ≡ key_total rows
keys-total [] = refl
keys-total (r ∷ rs) = omega (arith, length-append r.0 (keys_of rs), keys-total rs)

pub weight-total : (rows : List Row) → weight rows ≡ key_total rows + 10 * length rows
weight-total [] = refl
weight-total (r ∷ rs) = omega (arith, weight-total rs)

pub taken-most : (rows : List Row) → taken_by (length rows) (key_total rows) ≤ 35 + weight rows
taken-most rows = omega (arith, weight-total rows)

pub taken-least : (rows : List Row) → 28 + weight rows ≤ taken_by (length rows) (key_total rows)
taken-least rows = omega (arith, weight-total rows)

pub weight-split : (n : ℕ) (rows : List Row) → weight rows ≡ weight (take n rows) + weight (drop n rows)
weight-split zero rows = omega arith
weight-split (suc n) [] = refl
weight-split (suc n) (r ∷ rs) = omega (arith, weight-split n rs)

pub take-all_weight : (n : ℕ) (rows : List Row) → length rows ≤ n → weight (take n rows) ≡ weight rows
take-all_weight n [] h = take-nothing n
  where
    take-nothing : (n : ℕ) → weight (take n []) ≡ 0
    take-nothing zero = refl
    take-nothing (suc n) = refl
take-all_weight zero (r ∷ rs) h = absurd (omega (arith, h))
take-all_weight (suc n) (r ∷ rs) h = omega (arith, take-all_weight n rs (omega (arith, h)))

-- a row fits into a page that isn't full
pub room-for : (rows : List Row) (key : Key) → taken_by (length rows) (length (keys_of rows)) + 272 ≤ 1024 → length key ≤ 255 → HasRoom rows key
room-for rows key h l = omega (arith, h, l)

pub key-most : (kind : KeyKind) (n : ℕ) → IsKeyLength kind n → n ≤ 255
key-most Text n h = omega (arith, h.1)
key-most I32 n h = omega (arith, h.1)
key-most U32 n h = omega (arith, h.1)
key-most I64 n h = omega (arith, h.1)
key-most U64 n h = omega (arith, h.1)
key-most F32 n h = omega (arith, h.1)
key-most F64 n h = omega (arith, h.1)

-- a full page is divided inside: there is a row behind the middle one
pub middle-inside : (rows : List Row) (i : ℕ) → 1024 < taken_by (length rows) (length (keys_of rows)) + 272 → weight (take i rows) < 400 → i < length rows
middle-inside rows i full before = by_test (nat_le (length rows) i) refl
  where
    le_yes : (a b : ℕ) → nat_le a b ≡ true → a ≤ b
    le_yes a b e = grind (arith, e)

    le_no : (a b : ℕ) → nat_le a b ≡ false → b < a
    le_no a b e = grind (arith, e)

    by_test : (c : Bool) → nat_le (length rows) i ≡ c → i < length rows
    by_test true e = absurd (omega (arith, before, take-all_weight i rows (le_yes (length rows) i e), taken-most rows, keys-total rows, full))
    by_test false e = le_no (length rows) i e

pub middle-before : (rows : List Row) (i : ℕ) → 1024 < taken_by (length rows) (length (keys_of rows)) + 272 → weight (take (suc i) rows) < 665 → suc i < length rows
middle-before rows i full before = by_test (nat_le (length rows) (suc i)) refl
  where
    le_yes : (a b : ℕ) → nat_le a b ≡ true → a ≤ b
    le_yes a b e = grind (arith, e)

    le_no : (a b : ℕ) → nat_le a b ≡ false → b < a
    le_no a b e = grind (arith, e)

    by_test : (c : Bool) → nat_le (length rows) (suc i) ≡ c → suc i < length rows
    by_test true e = absurd (omega (arith, before, take-all_weight (suc i) rows (le_yes (length rows) (suc i) e), taken-most rows, keys-total rows, full))
    by_test false e = le_no (length rows) (suc i) e

-- the rows fall apart at the middle
pub take-more : (rows : List Row) (i : ℕ) → i < length rows → take (suc i) rows ≡ take i rows ++ (row_in rows i ∷ [])
take-more [] i h = absurd (omega (arith, h))
take-more (r ∷ rs) zero h = refl
take-more (r ∷ rs) (suc i) h = ap (λ l. r ∷ l) (take-more rs i (omega (arith, h)))

-- where the first row not less than a key is, tells of each row whether the key is at most its key
pub first-most : (kind : KeyKind) (rows : List Row) (k : Key) (p i : ℕ) → KeysRise kind rows → FirstAt kind rows k p → i < length rows → at_most kind k (key_at rows i) ≡ nat_le p i
first-most kind [] k p i a f h = absurd (omega (arith, h))
first-most kind (r ∷ rs) k zero zero a f h = f ∙ sym (le_true 0 0 (omega arith))
  where
    le_true : (m n : ℕ) → m ≤ n → nat_le m n ≡ true
    le_true m n h = grind (arith, h)
first-most kind (r ∷ rs) k zero (suc i) a f h = most_most kind k r.0 (key_at rs i) f (rise-at kind (r ∷ rs) 0 (suc i) a (omega arith) h) ∙ sym (le_true 0 (suc i) (omega arith))
  where
    le_true : (m n : ℕ) → m ≤ n → nat_le m n ≡ true
    le_true m n h = grind (arith, h)
first-most kind (r ∷ rs) k (suc p) zero a f h = f.0 ∙ sym (le_false (suc p) 0 (omega arith))
  where
    le_false : (m n : ℕ) → n < m → nat_le m n ≡ false
    le_false m n h = grind (arith, h)
first-most kind (r ∷ rs) k (suc p) (suc i) a f h = first-most kind rs k p i a.1 f.1 (omega (arith, h)) ∙ same p i
  where
    same : (m n : ℕ) → nat_le m n ≡ nat_le (suc m) (suc n)
    same m n = grind arith

-- the page above has the key between, by the way of a key
pub split-keys : (kind : KeyKind) (rows : List Row) (last : ℤ) (k : Key) (p : ℕ) (bound : Key) (right : ℤ) → FirstAt kind rows k p
    → (children_in (bound_rows rows last p bound right) ≡ keys_split kind (children_in rows) (place_of last) k bound (place_of right))
    × (place_of (bound_last rows last p right) ≡ last_split kind (children_in rows) (place_of last) k (place_of right))
split-keys kind [] last k p bound right f = (refl, refl)
split-keys kind (r ∷ rs) last k zero bound right f = (
  ap (λ c. cond c ((bound, place_of r.1) ∷ (r.0, place_of right) ∷ children_in rs) ((r.0, place_of r.1) ∷ keys_split kind (children_in rs) (place_of last) k bound (place_of right))) (sym f),
  ap (λ c. cond c (place_of last) (last_split kind (children_in rs) (place_of last) k (place_of right))) (sym f),
)
split-keys kind (r ∷ rs) last k (suc p) bound right f =
    let i = split-keys kind rs last k p bound right f.1 in (
      ap (λ l. (r.0, place_of r.1) ∷ l) i.0 ∙ ap (λ c. cond c ((bound, place_of r.1) ∷ (r.0, place_of right) ∷ children_in rs) ((r.0, place_of r.1) ∷ keys_split kind (children_in rs) (place_of last) k bound (place_of right))) (sym f.0),
      i.1 ∙ ap (λ c. cond c (place_of last) (last_split kind (children_in rs) (place_of last) k (place_of right))) (sym f.0),
    )

-- the keys of the parts have lengths of their kind
pub keys-front : (kind : KeyKind) (rows : List Row) (n : ℕ) → HasKeys kind rows → HasKeys kind (take n rows)
keys-front kind rows n h = all-part (λ r. IsKeyLength kind (length (key_of r))) rows 0 n h

pub keys-back : (kind : KeyKind) (rows : List Row) (n : ℕ) → HasKeys kind rows → HasKeys kind (drop n rows)
keys-back kind rows n h j l = subst (λ (r : Row). IsKeyLength kind (length (key_of r))) (sym (drop-at n rows j)) (h (n + j) (omega (arith, l, length-drop n rows)))
  where
    drop-at : (n : ℕ) (rows : List Row) (j : ℕ) → row_in (drop n rows) j ≡ row_in rows (n + j)
    drop-at n rows j = get_or-drop n rows j ([], pos 0)

pub keys-bound : (kind : KeyKind) (rows : List Row) (last : ℤ) (p : ℕ) (bound : Key) (right : ℤ) → HasKeys kind rows → IsKeyLength kind (length bound) → HasKeys kind (bound_rows rows last p bound right)
keys-bound kind [] last p bound right h b zero l = b
keys-bound kind [] last p bound right h b (suc j) l = absurd (omega (arith, l))
keys-bound kind (r ∷ rs) last zero bound right h b zero l = b
keys-bound kind (r ∷ rs) last zero bound right h b (suc zero) l = h 0 (omega arith)
keys-bound kind (r ∷ rs) last zero bound right h b (suc (suc j)) l = h (suc j) (omega (arith, l))
keys-bound kind (r ∷ rs) last (suc p) bound right h b zero l = h 0 (omega arith)
keys-bound kind (r ∷ rs) last (suc p) bound right h b (suc j) l = keys-bound kind rs last p bound right (λ i m. h (suc i) (omega (arith, m))) b j (omega (arith, l))

pub roomy-rows : (page : List ℕ) (rows : List Row) → rows_of page ≡ rows → weight rows < 710 → IsRoomy page
roomy-rows page rows e w = subst (λ (l : List Row). taken_by (length l) (length (keys_of l)) + 272 ≤ 1024) (sym e) (omega (arith, keys-total rows, taken-most rows, w))

pub first-half : (rows : List Row) (m : ℕ) → m < length rows → length (key_of (row_in rows m)) ≤ 255 → weight (take m rows) < 400 → weight (take (suc m) rows) < 665
first-half rows m h k w = omega (arith, weight-next rows m h, k, w)

pub second-half : (rows : List Row) (m : ℕ) → taken_by (length rows) (length (keys_of rows)) ≤ 1024 → 400 ≤ weight (take (suc m) rows) → weight (drop (suc m) rows) < 710
second-half rows m t w = omega (arith, weight-split (suc m) rows, keys-total rows, taken-least rows, t, w)

pub leaf-split : (rows left right : List Row) (m : ℕ) (sep : Key) → suc m < length rows → sep ≡ key_of (row_in rows m) → left ≡ take (suc m) rows → right ≡ drop (suc m) rows → IsLeafSplit rows left right sep
leaf-split rows left right m sep h e l r = record {
  front = take m rows;
  value = value_of (row_in rows m);
  next = row_in rows (suc m);
  back = drop (suc (suc m)) rows;
  rows_are = split_at rows m ([], pos 0) (omega (arith, h)) ∙ ap₂ (λ (s : Key) (d : List Row). take m rows ++ ((s, value_of (row_in rows m)) ∷ d)) (sym e) behind;
  left_are = l ∙ take-more rows m (omega (arith, h)) ∙ ap (λ (s : Key). take m rows ++ ((s, value_of (row_in rows m)) ∷ [])) (sym e);
  right_are = r ∙ behind;
}
  where
    behind : drop (suc m) rows ≡ row_in rows (suc m) ∷ drop (suc (suc m)) rows
    behind = drop-cons rows (suc m) ([], pos 0) h

pub between : (kind : KeyKind) (above new : List ℕ) (rows : List Row) (p f m right : ℕ) (k sep : Key) → FirstAt kind (rows_of above) k p → FirstAt kind rows k f → KeysRise kind rows → m < length rows → sep ≡ key_of (row_in rows m) → 1 ≤ right
    → rows_of new ≡ bound_rows (rows_of above) (links_of above).overflow p sep (pos right) → (links_of new).overflow ≡ bound_last (rows_of above) (links_of above).overflow p (pos right)
    → IsBetween kind above new right k sep (nat_le f m)
between kind above new rows p f m right k sep fa fr up h e some is_rows is_last = record {
  keys = ap children_in is_rows ∙ s.0 ∙ ap (λ (n : ℕ). keys_split kind (children_in (rows_of above)) (place_of (links_of above).overflow) k sep n) (place-pos right some);
  last = ap place_of is_last ∙ s.1 ∙ ap (λ (n : ℕ). last_split kind (children_in (rows_of above)) (place_of (links_of above).overflow) k n) (place-pos right some);
  way = ap (λ (z : Key). at_most kind k z) e ∙ first-most kind rows k f m up fr h;
}
  where
    s : (children_in (bound_rows (rows_of above) (links_of above).overflow p sep (pos right)) ≡ keys_split kind (children_in (rows_of above)) (place_of (links_of above).overflow) k sep (place_of (pos right)))
        × (place_of (bound_last (rows_of above) (links_of above).overflow p (pos right)) ≡ last_split kind (children_in (rows_of above)) (place_of (links_of above).overflow) k (place_of (pos right)))
    s = split-keys kind (rows_of above) (links_of above).overflow k p sep (pos right) fa

pub interior-split : (rows left right : List Row) (m : ℕ) (sep : Key) (value : ℤ) → m < length rows → sep ≡ key_of (row_in rows m) → value ≡ value_of (row_in rows m) → left ≡ take m rows → right ≡ drop (suc m) rows → IsInteriorSplit rows left right sep value
interior-split rows left right m sep value h e v l r = record {
  rows_are = split_at rows m ([], pos 0) h ∙ ap₂ (λ (s : Key) (w : ℤ). take m rows ++ ((s, w) ∷ drop (suc m) rows)) (sym e) (sym v) ∙ ap₂ (λ (f b : List Row). f ++ ((sep, value) ∷ b)) (sym l) (sym r);
}
