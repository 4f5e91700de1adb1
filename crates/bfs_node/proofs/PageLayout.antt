-- A page whose rows can be read holds the rows that are read, and a page that holds rows can be read.
use Rattle.std.proofs.Common.{◌≡◌, ◌<◌, ◌≤◌, ◌+◌, ◌-◌, ◌*◌, ℕ, pos, zero, suc, List, [], ◌++◌, length, take, drop, get_or, refl, ap, ap₂, sym, ◌∙◌, subst, arith, take-take, drop-drop, FitsSigned}
use Rattle.std.specs.Int.{w64}
use Rattle.std.proofs.lemmas.List.{take-append-drop, drop-take, take_all}
use Rattle.bfs_base.specs.Images.{IsBytes}
use Rattle.bfs_base.specs.declared.kind.KeyKind.{KeyKind}
use Rattle.bfs_bytes.proofs.Again.{bytes_taken, bytes_dropped}
use Rattle.bfs_bytes.specs.Fields.{signed64_at}
use Rattle.bfs_node.specs.Page.{Row, key_of, value_of, row_in, keys_of, base_of, count_at, key_bytes_at, base_at, end_at, start_at, row_at, rows_from, rows_of, HasLayout, HasKeys, HasEnd, IsKeyLength, IsPage}
use Rattle.bfs_node.specs.Written.{part, two, eight, ends_of, values_of, Holds}
use Rattle.bfs_node.proofs.Numbers.{two_again, eight_again, value_fits}
use Rattle.bfs_node.proofs.Parts.{length-part}
use Rattle.bfs_node.proofs.RowsRead.{count-is, key_bytes-is, start-at, end-at_row, keys-next}

part-split : (p : List ℕ) (a x y : ℕ) → part p a (x + y) ≡ part p a x ++ part p (a + x) y
part-split p a x y =
    sym (take-append-drop x (take (x + y) (drop a p)))
    ∙ ap₂ (λ l r. l ++ r) (take-take x (x + y) (drop a p) (omega arith)) (drop-take x y (drop a p) ∙ ap (λ l. take y l) (drop-drop x a p))

pub start-next : (p : List ℕ) (j : ℕ) → start_at p (j + 1) ≡ end_at p j
start-next p j = let e : j + 1 ≡ suc j = omega arith in ap (start_at p) e

pub get_or-rows_from : (p : List ℕ) (j n i : ℕ) (other : Row) → i < n → get_or (rows_from p j n) i other ≡ row_at p (j + i)
get_or-rows_from p j zero i other h = absurd (omega arith)
get_or-rows_from p j (suc n) zero other h = let e : j ≡ j + 0 = omega arith in ap (row_at p) e
get_or-rows_from p j (suc n) (suc i) other h = let e : j + 1 + i ≡ j + suc i = omega arith in get_or-rows_from p (j + 1) n i other (omega arith) ∙ ap (row_at p) e

pub length-rows_from : (p : List ℕ) (j n : ℕ) → length (rows_from p j n) ≡ n
length-rows_from p j zero = refl
length-rows_from p j (suc n) = let rest = length-rows_from p (j + 1) n in omega (arith, rest)

pub length-rows_of : (p : List ℕ) → length (rows_of p) ≡ count_at p
unfolding rows_of
length-rows_of p = length-rows_from p 0 (count_at p)

pub row_in-rows_of : (p : List ℕ) (i : ℕ) → i < count_at p → row_in (rows_of p) i ≡ row_at p i
unfolding rows_of
row_in-rows_of p i h = let e : 0 + i ≡ i = omega arith in get_or-rows_from p 0 (count_at p) i ([], pos 0) h ∙ ap (row_at p) e

module _ (p : List ℕ) (layout : HasLayout p) where
  -- the starts ascend
  ascends : (j m k : ℕ) → k ≡ j + m → k ≤ count_at p → start_at p j ≤ start_at p k
  ascends j zero k e h = let same : k ≡ j = omega arith in omega (arith, ap (start_at p) same)
  ascends j (suc m) k e h =
      let next : k ≡ suc (j + m) = omega arith in
      let here : start_at p (j + m) ≤ end_at p (j + m) = layout.ascend (j + m) (omega arith) in
      omega (arith, ascends j m (j + m) refl (omega arith), here, ap (start_at p) next)

  pub end-within : (j : ℕ) → j < count_at p → end_at p j ≤ key_bytes_at p
  end-within j h =
      let more : start_at p (suc j) ≤ start_at p (count_at p) = ascends (suc j) (count_at p - suc j) (count_at p) (omega arith) (omega arith) in
      omega (arith, more, layout.last)

  -- how long the key of a row is
  pub length-key : (j : ℕ) → j < count_at p → length (key_of (row_at p j)) ≡ end_at p j - start_at p j
  length-key j h = length-part p (28 + start_at p j) (end_at p j - start_at p j) (omega (arith, layout.size, layout.bounds, end-within j h, layout.ascend j h))

  keys-read : (j n k : ℕ) → k ≡ j + n → k ≤ count_at p → keys_of (rows_from p j n) ≡ part p (28 + start_at p j) (start_at p k - start_at p j)
  keys-read j zero k e h =
      let same : k ≡ j = omega arith in
      let none : start_at p k - start_at p j ≡ 0 = omega (arith, ap (start_at p) same) in
      ap (part p (28 + start_at p j)) (sym none)
  keys-read j (suc n) k e h =
      let next : start_at p (j + 1) ≡ end_at p j = start-next p j in
      let here : start_at p j ≤ end_at p j = layout.ascend j (omega arith) in
      let more : start_at p (j + 1) ≤ start_at p k = ascends (j + 1) n k (omega arith) h in
      let at : 28 + end_at p j ≡ 28 + start_at p j + (end_at p j - start_at p j) = omega arith in
      let sum : (end_at p j - start_at p j) + (start_at p k - end_at p j) ≡ start_at p k - start_at p j = omega (arith, here, more, next) in
      ap (λ l. part p (28 + start_at p j) (end_at p j - start_at p j) ++ l)
      (keys-read (j + 1) n k (omega arith) h ∙ ap (λ s. part p (28 + s) (start_at p k - s)) next ∙ ap (λ s. part p s (start_at p k - end_at p j)) at)
      ∙ sym (part-split p (28 + start_at p j) (end_at p j - start_at p j) (start_at p k - end_at p j)) ∙ ap (part p (28 + start_at p j)) sum

  module _ (small : IsBytes p) where
    ends-read : (j n : ℕ) → j + n ≤ count_at p → ends_of (start_at p j) (rows_from p j n) ≡ part p (base_at p + 2 * j) (2 * n)
    ends-read j zero h = refl
    ends-read j (suc n) h =
        let len : length (key_of (row_at p j)) ≡ end_at p j - start_at p j = length-key j (omega arith) in
        let here : start_at p j ≤ end_at p j = layout.ascend j (omega arith) in
        let e : start_at p j + length (key_of (row_at p j)) ≡ end_at p j = omega (arith, len, here) in
        let first : two (end_at p j) ≡ part p (base_at p + 2 * j) 2 = two_again p small (base_at p + 2 * j) (omega (arith, layout.size, layout.bounds)) in
        let place : base_at p + 2 * (j + 1) ≡ base_at p + 2 * j + 2 = omega arith in
        let more : 2 + 2 * n ≡ 2 * suc n = omega arith in
        ap (λ k. two k ++ ends_of k (rows_from p (j + 1) n)) e
        ∙ ap (λ k. two (end_at p j) ++ ends_of k (rows_from p (j + 1) n)) (sym (start-next p j))
        ∙ ap₂ (λ l r. l ++ r) first (ends-read (j + 1) n (omega arith) ∙ ap (λ k. part p k (2 * n)) place)
        ∙ sym (part-split p (base_at p + 2 * j) 2 (2 * n)) ∙ ap (part p (base_at p + 2 * j)) more

    values-read : (j n : ℕ) → j + n ≤ count_at p → values_of (rows_from p j n) ≡ part p (base_at p + 2 * count_at p + 8 * j) (8 * n)
    values-read j zero h = refl
    values-read j (suc n) h =
        let at : ℕ = base_at p + 2 * count_at p + 8 * j in
        let first : eight (signed64_at p (base_at p + 2 * count_at p + 8 * j)) ≡ part p (base_at p + 2 * count_at p + 8 * j) 8 = eight_again p small (base_at p + 2 * count_at p + 8 * j) (omega (arith, layout.size, layout.bounds)) in
        let place : base_at p + 2 * count_at p + 8 * (j + 1) ≡ base_at p + 2 * count_at p + 8 * j + 8 = omega arith in
        let more : 8 + 8 * n ≡ 8 * suc n = omega arith in
        ap₂ (λ l r. l ++ r) first (values-read (j + 1) n (omega arith) ∙ ap (λ k. part p k (8 * n)) place)
        ∙ sym (part-split p (base_at p + 2 * count_at p + 8 * j) 8 (8 * n)) ∙ ap (part p (base_at p + 2 * count_at p + 8 * j)) more

    numbers-read : (j n i : ℕ) → i < n → FitsSigned w64 (value_of (row_in (rows_from p j n) i))
    numbers-read j zero i h = absurd (omega arith)
    numbers-read j (suc n) zero h = value_fits p small (base_at p + 2 * count_at p + 8 * j)
    numbers-read j (suc n) (suc i) h = numbers-read (j + 1) n i (omega arith)

    -- a page holds its rows
    pub holds-rows : Holds p (rows_of p)
    unfolding rows_of
    holds-rows =
        let n : length (rows_from p 0 (count_at p)) ≡ count_at p = length-rows_from p 0 (count_at p) in
        let all : start_at p (count_at p) - 0 ≡ key_bytes_at p = omega (arith, layout.last) in
        let keys : keys_of (rows_from p 0 (count_at p)) ≡ part p 28 (key_bytes_at p) = keys-read 0 (count_at p) (count_at p) (omega arith) (omega arith) ∙ ap (part p 28) all in
        let k : length (keys_of (rows_from p 0 (count_at p))) ≡ key_bytes_at p = ap length keys ∙ length-part p 28 (key_bytes_at p) (omega (arith, layout.size, layout.bounds)) in
        let base : base_of (length (keys_of (rows_from p 0 (count_at p)))) ≡ base_at p = ap base_of k in
        let z1 : base_at p + 2 * 0 ≡ base_at p = omega arith in
        let z2 : base_at p + 2 * count_at p + 8 * 0 ≡ base_at p + 2 * count_at p = omega arith in
        record {
          size = layout.size;
          count = sym (two_again p small 24 (omega (arith, layout.size))) ∙ ap two (sym n);
          key_bytes = sym (two_again p small 26 (omega (arith, layout.size))) ∙ ap two (sym k);
          small = λ m h. numbers-read 0 (count_at p) m (omega (arith, h, n));
          fits = omega (arith, base, n, layout.bounds);
          written = record {
            keys = ap (part p 28) k ∙ sym keys;
            ends = ap₂ (λ b m. part p b (2 * m)) base n ∙ ap (λ b. part p b (2 * count_at p)) (sym z1) ∙ sym (ends-read 0 (count_at p) (omega arith));
            values_are = ap₂ (λ b m. part p (b + 2 * m) (8 * m)) base n ∙ ap (λ b. part p b (8 * count_at p)) (sym z2) ∙ sym (values-read 0 (count_at p) (omega arith));
          };
        }

-- a page that holds rows can be read
pub layout-of : (p : List ℕ) (rows : List Row) → Holds p rows → HasLayout p
layout-of p rows page =
    let n : count_at p ≡ length rows = count-is p rows page in
    let k : key_bytes_at p ≡ length (keys_of rows) = key_bytes-is p rows page in
    record {
      size = page.size;
      bounds = omega (arith, ap base_of k, n, page.fits);
      ascend = λ j h.
          let lt : j < length rows = omega (arith, h, n) in
          omega (arith, start-at p rows j page (omega arith), end-at_row p rows j page lt, keys-next rows j lt);
      last =
          ap (start_at p) n ∙ start-at p rows (length rows) page (omega arith)
          ∙ ap (λ l. length (keys_of l)) (take_all (length rows) rows (omega arith)) ∙ sym k;
    }

-- where each end is right, each key has a length of its kind
pub keys-of_ends : (kind : KeyKind) (p : List ℕ) → HasLayout p → ((j : ℕ) → j < count_at p → HasEnd kind p j) → HasKeys kind (rows_of p)
keys-of_ends kind p layout ends j h =
    let lt : j < count_at p = omega (arith, h, length-rows_of p) in
    let len : end_at p j - start_at p j ≡ length (key_of (row_in (rows_of p) j)) = sym (ap (λ (r : Row). length (key_of r)) (row_in-rows_of p j lt) ∙ length-key p layout j lt) in
    subst (IsKeyLength kind) len (ends j lt).1

-- in a page each end is right
pub ends-of_keys : (kind : KeyKind) (p : List ℕ) → IsPage kind p → (j : ℕ) → j < count_at p → HasEnd kind p j
ends-of_keys kind p page j lt =
    let len : length (key_of (row_in (rows_of p) j)) ≡ end_at p j - start_at p j = ap (λ (r : Row). length (key_of r)) (row_in-rows_of p j lt) ∙ length-key p page.layout j lt in
    (page.layout.ascend j lt, subst (IsKeyLength kind) len (page.keys j (omega (arith, lt, length-rows_of p))))

-- a key is bytes
pub bytes_of_key : (p : List ℕ) → IsBytes p → (i : ℕ) → i < length (rows_of p) → IsBytes (key_of (row_in (rows_of p) i))
bytes_of_key p small i h =
    let lt : i < count_at p = omega (arith, h, length-rows_of p) in
    subst IsBytes (sym (ap key_of (row_in-rows_of p i lt)))
    (bytes_taken (end_at p i - start_at p i) (drop (28 + start_at p i) p) (bytes_dropped (28 + start_at p i) p small))
