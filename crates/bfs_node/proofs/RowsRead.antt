-- Rows that are read.
use Rattle.std.proofs.Common.{◌≡◌, ◌<◌, ◌≤◌, ◌+◌, ◌-◌, ◌*◌, ◌^◌, ℕ, ℤ, pos, List, [], ◌∷◌, ◌++◌, length, take, drop, get_or, refl, ap, sym, ◌∙◌, subst, arith, length-append, append_assoc, length-take, length-drop, take-take, drop-drop, append-nil, suc, zero}
use Rattle.std.proofs.lemmas.List.{drop_more, take_more, take-append-drop, drop-take, get_or-drop}
use Rattle.std.proofs.Math.Seq.{take-append_seam, drop-append_seam}
use Rattle.bfs_bytes.specs.Fields.{unsigned_at, signed64_at}
use Rattle.bfs_bytes.proofs.Lengths.{length-unsigned_bytes, length-signed64_bytes}
use Rattle.bfs_node.specs.Page.{Row, keys_of, base_of, count_at, key_bytes_at, base_at, end_at, start_at, row_at, rows_from, rows_of}
use Rattle.bfs_node.specs.Written.{part, two, eight, ends_of, values_of, Written, Holds}
use Rattle.bfs_node.proofs.Numbers.{number_two, number_eight}

take-front : (n : ℕ) (xs ys : List ℕ) → length xs ≡ n → take n (xs ++ ys) ≡ xs
take-front n xs ys e = subst (λ k. take k (xs ++ ys) ≡ xs) e (take-append_seam xs ys)

drop-front : (n : ℕ) (xs ys : List ℕ) → length xs ≡ n → drop n (xs ++ ys) ≡ ys
drop-front n xs ys e = subst (λ k. drop k (xs ++ ys) ≡ ys) e (drop-append_seam xs ys)

-- a piece of a part
pub part-of_part : (p front mid back : List ℕ) (at n a k to : ℕ) → part p at n ≡ front ++ (mid ++ back) → length front ≡ a → length mid ≡ k → a + k ≤ n → to ≡ at + a → part p to k ≡ mid
part-of_part p front mid back at n a k to e fa mk le is =
    let cut : n ≡ a + (n - a) = omega arith in
    let inner : drop a (take n (drop at p)) ≡ take (n - a) (drop a (drop at p)) = ap (λ t. drop a (take t (drop at p))) cut ∙ drop-take a (n - a) (drop at p) in
    ap (λ t. take k (drop t p)) is ∙ ap (λ l. take k l) (sym (drop-drop a at p))
    ∙ sym (take-take k (n - a) (drop a (drop at p)) (omega arith)) ∙ ap (λ l. take k l) (sym inner)
    ∙ ap (λ l. take k (drop a l)) e ∙ ap (λ l. take k l) (drop-front a front (mid ++ back) fa) ∙ take-front k mid back mk

pub keys_of-append : (xs ys : List Row) → keys_of (xs ++ ys) ≡ keys_of xs ++ keys_of ys
keys_of-append [] ys = refl
keys_of-append (x ∷ xs) ys = ap (λ l. x.0 ++ l) (keys_of-append xs ys) ∙ sym (append_assoc x.0 (keys_of xs) (keys_of ys))

values_of-append : (xs ys : List Row) → values_of (xs ++ ys) ≡ values_of xs ++ values_of ys
values_of-append [] ys = refl
values_of-append (x ∷ xs) ys = ap (λ l. eight x.1 ++ l) (values_of-append xs ys) ∙ sym (append_assoc (eight x.1) (values_of xs) (values_of ys))

ends_of-append : (s : ℕ) (xs ys : List Row) → ends_of s (xs ++ ys) ≡ ends_of s xs ++ ends_of (s + length (keys_of xs)) ys
ends_of-append s [] ys = let e : s ≡ s + 0 = omega arith in ap (λ t. ends_of t ys) e
ends_of-append s (x ∷ xs) ys =
    let e : s + length x.0 + length (keys_of xs) ≡ s + length (x.0 ++ keys_of xs) = omega (arith, length-append x.0 (keys_of xs)) in
    ap (λ l. two (s + length x.0) ++ l) (ends_of-append (s + length x.0) xs ys ∙ ap (λ t. ends_of (s + length x.0) xs ++ ends_of t ys) e)
    ∙ sym (append_assoc (two (s + length x.0)) (ends_of (s + length x.0) xs) (ends_of (s + length (x.0 ++ keys_of xs)) ys))

length-ends : (s : ℕ) (xs : List Row) → length (ends_of s xs) ≡ 2 * length xs
length-ends s [] = refl
length-ends s (x ∷ xs) = omega (arith, length-unsigned_bytes 2 (s + length x.0), length-append (two (s + length x.0)) (ends_of (s + length x.0) xs), length-ends (s + length x.0) xs)

length-values : (xs : List Row) → length (values_of xs) ≡ 8 * length xs
length-values [] = refl
length-values (x ∷ xs) = omega (arith, length-signed64_bytes x.1, length-append (eight x.1) (values_of xs), length-values xs)

split_at : (rows : List Row) (m : ℕ) → m < length rows → rows ≡ take m rows ++ (get_or rows m ([], pos 0) ∷ drop (m + 1) rows)
split_at rows m h = sym (take-append-drop m rows) ∙ ap (λ l. take m rows ++ l) (drop_more rows m ([], pos 0) h)

pub keys-next : (rows : List Row) (m : ℕ) → m < length rows → length (keys_of (take (m + 1) rows)) ≡ length (keys_of (take m rows)) + length (get_or rows m ([], pos 0)).0
keys-next rows m h =
    ap (λ l. length (keys_of l)) (take_more rows m ([], pos 0) h) ∙ ap length (keys_of-append (take m rows) (get_or rows m ([], pos 0) ∷ []))
    ∙ length-append (keys_of (take m rows)) ((get_or rows m ([], pos 0)).0 ++ []) ∙ ap (λ l. length (keys_of (take m rows)) + length l) (append-nil (get_or rows m ([], pos 0)).0)

pub keys-le : (rows : List Row) (m : ℕ) → length (keys_of (take m rows)) ≤ length (keys_of rows)
keys-le rows m =
    let e : length (keys_of rows) ≡ length (keys_of (take m rows)) + length (keys_of (drop m rows)) =
    ap (λ l. length (keys_of l)) (sym (take-append-drop m rows)) ∙ ap length (keys_of-append (take m rows) (drop m rows)) ∙ length-append (keys_of (take m rows)) (keys_of (drop m rows)) in
    omega (arith, e)

pub key-at : (p : List ℕ) (rows : List Row) (m : ℕ) → Holds p rows → m < length rows → part p (28 + length (keys_of (take m rows))) (length (get_or rows m ([], pos 0)).0) ≡ (get_or rows m ([], pos 0)).0
key-at p rows m page h =
    part-of_part p (keys_of (take m rows)) (get_or rows m ([], pos 0)).0 (keys_of (drop (m + 1) rows)) 28 (length (keys_of rows)) (length (keys_of (take m rows))) (length (get_or rows m ([], pos 0)).0)
    (28 + length (keys_of (take m rows)))
    (page.written.keys ∙ ap keys_of (split_at rows m h) ∙ keys_of-append (take m rows) (get_or rows m ([], pos 0) ∷ drop (m + 1) rows)) refl refl
    (omega (arith, keys-next rows m h, keys-le rows (m + 1))) refl

pub end-at : (p : List ℕ) (rows : List Row) (m : ℕ) → Holds p rows → m < length rows → unsigned_at 2 p (base_of (length (keys_of rows)) + 2 * m) ≡ length (keys_of (take (m + 1) rows))
end-at p rows m page h =
    let d : List Row = drop (m + 1) rows in
    let is : part p (base_of (length (keys_of rows)) + 2 * m) 2 ≡ two (0 + length (keys_of (take m rows)) + length (get_or rows m ([], pos 0)).0) =
    part-of_part p (ends_of 0 (take m rows)) (two (0 + length (keys_of (take m rows)) + length (get_or rows m ([], pos 0)).0))
    (ends_of (0 + length (keys_of (take m rows)) + length (get_or rows m ([], pos 0)).0) (drop (m + 1) rows)) (base_of (length (keys_of rows))) (2 * length rows) (2 * m) 2 (base_of (length (keys_of rows)) + 2 * m)
    (page.written.ends ∙ ap (λ l. ends_of 0 l) (split_at rows m h) ∙ ends_of-append 0 (take m rows) (get_or rows m ([], pos 0) ∷ drop (m + 1) rows))
    (length-ends 0 (take m rows) ∙ omega (arith, length-take m rows)) (length-unsigned_bytes 2 (0 + length (keys_of (take m rows)) + length (get_or rows m ([], pos 0)).0)) (omega arith) refl in
    let num : 0 + length (keys_of (take m rows)) + length (get_or rows m ([], pos 0)).0 ≡ length (keys_of (take (m + 1) rows)) = omega (arith, keys-next rows m h) in
    let low : length (keys_of (take (m + 1) rows)) < 2 ^ 16 = omega (arith, keys-le rows (m + 1), page.fits) in
    number_two p (base_of (length (keys_of rows)) + 2 * m) (length (keys_of (take (m + 1) rows))) (is ∙ ap two num) low

pub value-at : (p : List ℕ) (rows : List Row) (m : ℕ) → Holds p rows → m < length rows → signed64_at p (base_of (length (keys_of rows)) + 2 * length rows + 8 * m) ≡ (get_or rows m ([], pos 0)).1
value-at p rows m page h =
    let is : part p (base_of (length (keys_of rows)) + 2 * length rows + 8 * m) 8 ≡ eight (get_or rows m ([], pos 0)).1 =
    part-of_part p (values_of (take m rows)) (eight (get_or rows m ([], pos 0)).1) (values_of (drop (m + 1) rows)) (base_of (length (keys_of rows)) + 2 * length rows) (8 * length rows) (8 * m) 8
    (base_of (length (keys_of rows)) + 2 * length rows + 8 * m)
    (page.written.values_are ∙ ap values_of (split_at rows m h) ∙ values_of-append (take m rows) (get_or rows m ([], pos 0) ∷ drop (m + 1) rows))
    (length-values (take m rows) ∙ omega (arith, length-take m rows)) (length-signed64_bytes (get_or rows m ([], pos 0)).1) (omega arith) refl in
    number_eight p (base_of (length (keys_of rows)) + 2 * length rows + 8 * m) (get_or rows m ([], pos 0)).1 is (page.small m h)

pub count-is : (p : List ℕ) (rows : List Row) → Holds p rows → count_at p ≡ length rows
count-is p rows page =
    let low : length rows < 2 ^ 16 = omega (arith, page.fits) in
    number_two p 24 (length rows) page.count low

pub key_bytes-is : (p : List ℕ) (rows : List Row) → Holds p rows → key_bytes_at p ≡ length (keys_of rows)
key_bytes-is p rows page =
    let low : length (keys_of rows) < 2 ^ 16 = omega (arith, page.fits) in
    number_two p 26 (length (keys_of rows)) page.key_bytes low

pub end-read : (p : List ℕ) (rows : List Row) (base m start end : ℕ) → Holds p rows → base ≡ base_of (length (keys_of rows)) → m < length rows → start ≡ length (keys_of (take m rows))
    → end ≡ unsigned_at 2 p (base + 2 * m) → end ≡ start + length (get_or rows m ([], pos 0)).0
end-read p rows base m start end page b h s e =
    e ∙ ap (λ b. unsigned_at 2 p (b + 2 * m)) b ∙ end-at p rows m page h ∙ keys-next rows m h ∙ ap (λ n. n + length (get_or rows m ([], pos 0)).0) (sym s)

pub end-within : (p : List ℕ) (rows : List Row) (m start end : ℕ) → Holds p rows → m < length rows → start ≡ length (keys_of (take m rows))
    → end ≡ start + length (get_or rows m ([], pos 0)).0 → 28 + end ≤ 1024
end-within p rows m start end page h s e = omega (arith, keys-next rows m h, keys-le rows (m + 1), page.fits)

pub keys-le_more : (rows : List Row) (m n : ℕ) → m ≤ n → length (keys_of (take m rows)) ≤ length (keys_of (take n rows))
keys-le_more rows m n h =
    ap_le (ap (λ l. length (keys_of l)) (take-take m n rows h)) (keys-le (take n rows) m)
  where
    ap_le : {a b c : ℕ} → a ≡ b → a ≤ c → b ≤ c
    ap_le {a} {b} {c} e l = omega arith

-- a row more of those that are copied
pub copied-more : (all rows : List Row) (from m : ℕ) → from ≤ m → m < length all
    → (rows ++ take (m - from) (drop from all)) ++ ((get_or all m ([], pos 0)).0, (get_or all m ([], pos 0)).1) ∷ [] ≡ rows ++ take (m + 1 - from) (drop from all)
copied-more all rows from m h l =
    let one : m + 1 - from ≡ (m - from) + 1 = omega arith in
    let at : from + (m - from) ≡ m = omega arith in
    let lt : m - from < length (drop from all) = omega (arith, length-drop from all) in
    append_assoc rows (take (m - from) (drop from all)) (get_or all m ([], pos 0) ∷ [])
    ∙ ap (λ k. rows ++ (take (m - from) (drop from all) ++ (get_or all k ([], pos 0) ∷ []))) (sym at)
    ∙ ap (λ x. rows ++ (take (m - from) (drop from all) ++ (x ∷ []))) (sym (get_or-drop from all (m - from) ([], pos 0)))
    ∙ ap (λ l. rows ++ l) (sym (take_more (drop from all) (m - from) ([], pos 0) lt)) ∙ ap (λ k. rows ++ take k (drop from all)) (sym one)

pub copied-length : (all rows : List Row) (from m first : ℕ) → from ≤ m → m < length all → length rows ≡ first → length (rows ++ take (m - from) (drop from all)) ≡ first + (m - from)
copied-length all rows from m first h l e = omega (arith, length-append rows (take (m - from) (drop from all)), length-take (m - from) (drop from all), length-drop from all)

take-split : (all : List Row) (from m : ℕ) → from ≤ m → take m all ≡ take from all ++ take (m - from) (drop from all)
take-split all zero m h = let e : m ≡ m - 0 = omega arith in ap (λ k. take k all) e
take-split [] (suc from) zero h = absurd (omega arith)
take-split [] (suc from) (suc m) h = take_nil (suc m) ∙ sym (take_nil (suc m - suc from))
  where
    take_nil : (k : ℕ) → take {A = Row} k [] ≡ []
    take_nil zero = refl
    take_nil (suc k) = refl
take-split (x ∷ xs) (suc from) zero h = absurd (omega arith)
take-split (x ∷ xs) (suc from) (suc m) h =
    let e : m - from ≡ suc m - suc from = omega arith in
    ap (λ l. x ∷ l) (take-split xs from m (omega arith)) ∙ ap (λ k. x ∷ take from xs ++ take k (drop from xs)) e

pub copied-keys : (all rows : List Row) (from m start s e end : ℕ) → from ≤ m → start ≡ length (keys_of (take from all)) → s ≡ length (keys_of (take m all)) → e + start ≡ end + s
    → length (keys_of rows) ≡ end → length (keys_of (rows ++ take (m - from) (drop from all))) ≡ e
copied-keys all rows from m start s e end h a b f g =
    let new : length (keys_of (rows ++ take (m - from) (drop from all))) ≡ length (keys_of rows) + length (keys_of (take (m - from) (drop from all))) =
    ap length (keys_of-append rows (take (m - from) (drop from all))) ∙ length-append (keys_of rows) (keys_of (take (m - from) (drop from all))) in
    let old : length (keys_of (take m all)) ≡ length (keys_of (take from all)) + length (keys_of (take (m - from) (drop from all))) =
    ap (λ l. length (keys_of l)) (take-split all from m h) ∙ ap length (keys_of-append (take from all) (take (m - from) (drop from all))) ∙ length-append (keys_of (take from all)) (keys_of (take (m - from) (drop from all))) in
    omega (arith, new, old)

-- where the key of a row starts
pub start-at : (p : List ℕ) (rows : List Row) (j : ℕ) → Holds p rows → j ≤ length rows → start_at p j ≡ length (keys_of (take j rows))
start-at p rows zero page h = refl
start-at p rows (suc j) page h =
    let base : base_at p ≡ base_of (length (keys_of rows)) = ap base_of (key_bytes-is p rows page) in
    let next : j + 1 ≡ suc j = omega arith in
    ap (λ b. unsigned_at 2 p (b + 2 * j)) base ∙ end-at p rows j page (omega arith) ∙ ap (λ k. length (keys_of (take k rows))) next

pub end-at_row : (p : List ℕ) (rows : List Row) (j : ℕ) → Holds p rows → j < length rows → end_at p j ≡ length (keys_of (take (j + 1) rows))
end-at_row p rows j page h = ap (λ b. unsigned_at 2 p (b + 2 * j)) (ap base_of (key_bytes-is p rows page)) ∙ end-at p rows j page h

-- the row that is read is the row
row-at : (p : List ℕ) (rows : List Row) (j : ℕ) → Holds p rows → j < length rows → row_at p j ≡ get_or rows j ([], pos 0)
row-at p rows j page h =
    let start : start_at p j ≡ length (keys_of (take j rows)) = start-at p rows j page (omega arith) in
    let end : end_at p j ≡ length (keys_of (take (j + 1) rows)) = end-at_row p rows j page h in
    let len : end_at p j - start_at p j ≡ length (get_or rows j ([], pos 0)).0 = omega (arith, start, end, keys-next rows j h) in
    let key : part p (28 + start_at p j) (end_at p j - start_at p j) ≡ (get_or rows j ([], pos 0)).0 =
    ap (λ k. part p (28 + start_at p j) k) len ∙ ap (λ k. part p (28 + k) (length (get_or rows j ([], pos 0)).0)) start ∙ key-at p rows j page h in
    let value : signed64_at p (base_at p + 2 * count_at p + 8 * j) ≡ (get_or rows j ([], pos 0)).1 =
    ap (λ b. signed64_at p (b + 2 * count_at p + 8 * j)) (ap base_of (key_bytes-is p rows page))
    ∙ ap (λ n. signed64_at p (base_of (length (keys_of rows)) + 2 * n + 8 * j)) (count-is p rows page)
    ∙ value-at p rows j page h in
    λ t. (key t, value t)

-- the rows that are read are the rows
read-all : (p : List ℕ) (rows : List Row) (n j : ℕ) → Holds p rows → j + n ≡ length rows → rows_from p j n ≡ drop j rows
read-all p rows zero j page e = sym (drop_past rows j (omega arith))
  where
    drop_past : (xs : List Row) (j : ℕ) → length xs ≤ j → drop j xs ≡ []
    drop_past [] zero h = refl
    drop_past [] (suc j) h = refl
    drop_past (x ∷ xs) zero h = absurd (omega arith)
    drop_past (x ∷ xs) (suc j) h = drop_past xs j (omega arith)
read-all p rows (suc n) j page e =
    let lt : j < length rows = omega arith in
    let first : row_at p j ≡ get_or rows j ([], pos 0) = row-at p rows j page lt in
    let rest : rows_from p (j + 1) n ≡ drop (j + 1) rows = read-all p rows n (j + 1) page (omega arith) in
    (λ t. first t ∷ rest t) ∙ sym (drop_more rows j ([], pos 0) lt)

pub rows_of-is : (p : List ℕ) (rows : List Row) → Holds p rows → rows_of p ≡ rows
unfolding rows_of
rows_of-is p rows page = ap (rows_from p 0) (count-is p rows page) ∙ read-all p rows (length rows) 0 page (omega arith)

-- a part of the head
pub head-part : (p q : List ℕ) (at : ℕ) → part p 0 28 ≡ part q 0 28 → at + 2 ≤ 28 → part p at 2 ≡ part q at 2
head-part p q at e h = sym (inner p) ∙ ap (λ l. take 2 (drop at l)) e ∙ inner q
  where
    inner : (x : List ℕ) → take 2 (drop at (take 28 x)) ≡ take 2 (drop at x)
    inner x =
        let cut : 28 ≡ at + (28 - at) = omega arith in
        ap (λ t. take 2 (drop at (take t x))) cut ∙ ap (λ l. take 2 l) (drop-take at (28 - at) x) ∙ take-take 2 (28 - at) (drop at x) (omega arith)

pub nothing-written : (p : List ℕ) (base values : ℕ) → Written p base values []
nothing-written p base values = record { keys = refl; ends = refl; values_are = refl }

pub key_pushed : (rows : List Row) (k : List ℕ) (v : ℤ) → length (keys_of (rows ++ (k, v) ∷ [])) ≡ length (keys_of rows) + length k
key_pushed rows k v = ap length (keys_of-append rows ((k, v) ∷ [])) ∙ length-append (keys_of rows) (k ++ []) ∙ ap (λ l. length (keys_of rows) + length l) (append-nil k)

pub is-page : (p : List ℕ) (rows : List Row) → Holds p rows → Holds p (rows_of p)
is-page p rows page = subst (λ (r : List Row). Holds p r) (sym (rows_of-is p rows page)) page
