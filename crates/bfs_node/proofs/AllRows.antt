-- What holds of each row of a list holds of each row of its parts, and of rows joined.
use Rattle.std.proofs.Common.{ℤ, ◌≡◌, ◌<◌, ◌≤◌, ◌+◌, ◌-◌, ℕ, pos, zero, suc, List, [], ◌∷◌, ◌++◌, length, take, drop, insert, remove, ap, sym, ◌∙◌, subst, arith, length-append, length-take, length-drop, set}
use Rattle.std.proofs.lemmas.List.{take-append-drop, get_or-drop, get_or-take}
use Rattle.std.proofs.Math.Seq.{take-add}
use Rattle.bfs_base.specs.Keys.{IsKey}
use Rattle.bfs_base.specs.declared.kind.KeyKind.{KeyKind}
use Rattle.bfs_base.specs.declared.kind.KeyKind.TheVariants.{Text, I32, U32, I64, U64, F32, F64}
use Rattle.bfs_node.specs.Page.{HasKeys, Row, key_of, row_in, keys_of, IsKeyLength}
use Rattle.bfs_node.proofs.RowsRead.{keys_of-append, keys-next}

module _ (P : Row → Type 0) where
  abbrev AllRows : List Row → Type 0
  AllRows rows = (m : ℕ) → m < length rows → P (row_in rows m)

  all-append : (xs ys : List Row) → AllRows xs → AllRows ys → AllRows (xs ++ ys)
  all-append [] ys a b m h = b m h
  all-append (x ∷ xs) ys a b zero h = a 0 (omega arith)
  all-append (x ∷ xs) ys a b (suc m) h = all-append xs ys (λ k z. a (suc k) (omega arith)) b m (omega arith)

  all-take : (n : ℕ) (xs : List Row) → AllRows xs → AllRows (take n xs)
  all-take n xs a m h =
      let lt : m < n = omega (arith, length-take n xs) in
      subst P (sym (get_or-take n xs m ([], pos 0) lt)) (a m (omega (arith, length-take n xs)))

  all-drop : (n : ℕ) (xs : List Row) → AllRows xs → AllRows (drop n xs)
  all-drop n xs a m h = subst P (sym (get_or-drop n xs m ([], pos 0))) (a (n + m) (omega (arith, length-drop n xs)))

  all-one : (x : Row) → P x → AllRows (x ∷ [])
  all-one x p zero h = p
  all-one x p (suc m) h = absurd (omega arith)

  pub all-insert : (xs : List Row) (i : ℕ) (x : Row) → AllRows xs → P x → AllRows (insert xs i x)
  all-insert xs i x a p = all-append (take i xs) (x ∷ drop i xs) (all-take i xs a) (all-append (x ∷ []) (drop i xs) (all-one x p) (all-drop i xs a))

  pub all-remove : (xs : List Row) (i : ℕ) → AllRows xs → AllRows (remove xs i)
  all-remove xs i a = all-append (take i xs) (drop (suc i) xs) (all-take i xs a) (all-drop (suc i) xs a)

  pub all-part : (xs : List Row) (from n : ℕ) → AllRows xs → AllRows (take n (drop from xs))
  all-part xs from n a = all-take n (drop from xs) (all-drop from xs a)

-- where a row keeps its key
pub keys-set : (kind : KeyKind) (rows : List Row) (i : ℕ) (v : ℤ) → HasKeys kind rows → HasKeys kind (set rows i (key_of (row_in rows i), v))
keys-set kind [] i v a m h = absurd (omega arith)
keys-set kind (x ∷ rows) zero v a zero h = a 0 (omega arith)
keys-set kind (x ∷ rows) zero v a (suc m) h = a (suc m) (omega arith)
keys-set kind (x ∷ rows) (suc i) v a zero h = a 0 (omega arith)
keys-set kind (x ∷ rows) (suc i) v a (suc m) h = keys-set kind rows i v (λ k z. a (suc k) (omega arith)) m (omega arith)

-- a key has a length of its kind
pub key-length : (kind : KeyKind) (key : List ℕ) → IsKey kind key → IsKeyLength kind (length key)
key-length Text key h = h
key-length I32 key h = (omega arith, omega arith)
key-length U32 key h = (omega arith, omega arith)
key-length I64 key h = (omega arith, omega arith)
key-length U64 key h = (omega arith, omega arith)
key-length F32 key h = absurd h
key-length F64 key h = absurd h

pub key-of_length : (kind : KeyKind) (key : List ℕ) → IsKeyLength kind (length key) → IsKey kind key
key-of_length Text key h = h
key-of_length I32 key h = omega (arith, h.0, h.1)
key-of_length U32 key h = omega (arith, h.0, h.1)
key-of_length I64 key h = omega (arith, h.0, h.1)
key-of_length U64 key h = omega (arith, h.0, h.1)
key-of_length F32 key h = absurd (omega (arith, h.0, h.1))
key-of_length F64 key h = absurd (omega (arith, h.0, h.1))

-- how many rows, and how many bytes of keys
pub length-inserted : (all : List Row) (i : ℕ) (x : Row) → i ≤ length all → length (insert all i x) ≡ length all + 1
length-inserted all i x h = omega (arith, length-append (take i all) (x ∷ drop i all), length-take i all, length-drop i all)

pub length-removed : (all : List Row) (i : ℕ) → i < length all → length (remove all i) + 1 ≡ length all
length-removed all i h = omega (arith, length-append (take i all) (drop (suc i) all), length-take i all, length-drop (suc i) all)

split : (all : List Row) (i : ℕ) → length (keys_of all) ≡ length (keys_of (take i all)) + length (keys_of (drop i all))
split all i =
    ap (λ l. length (keys_of l)) (sym (take-append-drop i all)) ∙ ap length (keys_of-append (take i all) (drop i all)) ∙ length-append (keys_of (take i all)) (keys_of (drop i all))

pub keys-inserted : (all : List Row) (i : ℕ) (x : Row) → length (keys_of (insert all i x)) ≡ length (keys_of all) + length (key_of x)
keys-inserted all i x =
    let new : length (keys_of (insert all i x)) ≡ length (keys_of (take i all)) + (length (key_of x) + length (keys_of (drop i all))) =
    ap length (keys_of-append (take i all) (x ∷ drop i all)) ∙ length-append (keys_of (take i all)) (key_of x ++ keys_of (drop i all))
    ∙ ap (λ k. length (keys_of (take i all)) + k) (length-append (key_of x) (keys_of (drop i all))) in
    omega (arith, new, split all i)

pub keys-removed : (all : List Row) (i : ℕ) → i < length all → length (keys_of (remove all i)) + length (key_of (row_in all i)) ≡ length (keys_of all)
keys-removed all i h =
    let next : i + 1 ≡ suc i = omega arith in
    let new : length (keys_of (remove all i)) ≡ length (keys_of (take i all)) + length (keys_of (drop (suc i) all)) =
    ap length (keys_of-append (take i all) (drop (suc i) all)) ∙ length-append (keys_of (take i all)) (keys_of (drop (suc i) all)) in
    let up : length (keys_of (take (suc i) all)) ≡ length (keys_of (take i all)) + length (key_of (row_in all i)) =
    ap (λ k. length (keys_of (take k all))) (sym next) ∙ keys-next all i h in
    omega (arith, new, up, split all (suc i))

pub keys-part : (all : List Row) (from to : ℕ) → from ≤ to → to ≤ length all
    → length (keys_of (take (to - from) (drop from all))) + length (keys_of (take from all)) ≡ length (keys_of (take to all))
keys-part all from to h l =
    let e : to ≡ from + (to - from) = omega arith in
    sym (ap (λ k. length (keys_of (take k all))) e ∙ ap (λ (r : List Row). length (keys_of r)) (take-add from (to - from) all)
    ∙ ap length (keys_of-append (take from all) (take (to - from) (drop from all))) ∙ length-append (keys_of (take from all)) (keys_of (take (to - from) (drop from all))) ∙ omega arith)
