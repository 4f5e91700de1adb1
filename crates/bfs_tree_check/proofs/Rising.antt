-- What is met ascends, one further.
use Rattle.std.proofs.Common.{◌≡◌, ◌≢◌, ◌<◌, ◌+◌, ◌⊎◌, inl, inr, ℕ, suc, List, [], ◌∷◌, ◌++◌, length, drop, take, get_or, Bool, true, false, cond, refl, sym, ap, ◌∙◌, subst, arith}
use mathlib.Core.Bool.{not}
use Rattle.std.specs.List.{AllByRecursion}
use Rattle.std.proofs.lemmas.Bool.{ne_eqb, eq-eqb}
use Rattle.bfs_base.specs.declared.kind.KeyKind.{KeyKind}
use Rattle.bfs_base.specs.declared.kind.KeyKind.TheVariants.{Text, I32, U32, I64, U64, F32, F64}
use Rattle.bfs_base.specs.Keys.{IsTreeKind}
use Rattle.bfs_node.specs.Page.{Row, IsKeyLength}
use Rattle.bfs_node.specs.Search.{IsSought}
use Rattle.bfs_pages.specs.Order.{Key, comes_before, at_most}
use Rattle.bfs_pages.specs.Shapes.{Entry, a_row, a_bound, key_in, IsAbove, Precedes, AscendAll}
use Rattle.bfs_pages.proofs.KeyOrder.{less_less, less_most, most_less, most_most, less_is_most}
use Rattle.std.proofs.lemmas.List.{take_more, drop_more, take-append-drop, length-take-le}
use Rattle.bfs_pages.proofs.Splice.{ascends-append, Precede}
use Rattle.bfs_finding.specs.Owners.{In}
use Rattle.bfs_finding.specs.Walks.{Met, rows_met}
use Rattle.bfs_walk.specs.Walked.{entries_alone}
use Rattle.bfs_tree_check.specs.Ordered.{follows, IsUpTo}

pub sought_of : (kind : KeyKind) (k : List ℕ) → IsTreeKind kind → IsKeyLength kind (length k) → IsSought kind k
sought_of Text k t h = tt
sought_of I32 k t h = let a = h.0 in let b = h.1 in omega (arith, a, b)
sought_of U32 k t h = let a = h.0 in let b = h.1 in omega (arith, a, b)
sought_of I64 k t h = let a = h.0 in let b = h.1 in omega (arith, a, b)
sought_of U64 k t h = let a = h.0 in let b = h.1 in omega (arith, a, b)
sought_of F32 k t h = absurd t
sought_of F64 k t h = absurd t

-- the row or the bound with a key
abbrev pub entry_is : Bool → Key → Entry → Type 0
entry_is true key (a_row k v) = k ≡ key
entry_is true key (a_bound k) = ⊥
entry_is false key (a_row k v) = ⊥
entry_is false key (a_bound k) = k ≡ key

key_is : (row : Bool) (key : Key) (e : Entry) → entry_is row key e → key_in e ≡ key
key_is true key (a_row k v) i = i
key_is true key (a_bound k) i = absurd i
key_is false key (a_row k v) i = absurd i
key_is false key (a_bound k) i = i

-- the test on keys says what comes behind what
above_if : (kind : KeyKind) (last key : Key) (row : Bool) (e : Entry) → entry_is row key e → cond row (comes_before kind last key) (at_most kind last key) ≡ true → IsAbove kind last e
above_if kind last key true (a_row k v) is h = ap (comes_before kind last) is ∙ h
above_if kind last key true (a_bound k) is h = absurd is
above_if kind last key false (a_row k v) is h = absurd is
above_if kind last key false (a_bound k) is h = ap (at_most kind last) is ∙ h

if_above : (kind : KeyKind) (last key : Key) (row : Bool) (e : Entry) → entry_is row key e → IsAbove kind last e → cond row (comes_before kind last key) (at_most kind last key) ≡ true
if_above kind last key true (a_row k v) is h = sym (ap (comes_before kind last) is) ∙ h
if_above kind last key true (a_bound k) is h = absurd is
if_above kind last key false (a_row k v) is h = absurd is
if_above kind last key false (a_bound k) is h = sym (ap (at_most kind last) is) ∙ h

-- what is above a key that is above another one
above_most : (kind : KeyKind) (x : Key) (m e : Entry) → IsAbove kind x m → IsAbove kind (key_in m) e → IsAbove kind x e
above_most kind x (a_row k v) (a_row l w) h g = less_less kind x k l h g
above_most kind x (a_row k v) (a_bound b) h g = less_is_most kind x b (less_most kind x k b h g)
above_most kind x (a_bound k) (a_row l w) h g = most_less kind x k l h g
above_most kind x (a_bound k) (a_bound b) h g = most_most kind x k b h g

alone_append : (xs ys : List Met) → entries_alone (xs ++ ys) ≡ entries_alone xs ++ entries_alone ys
alone_append [] ys = refl
alone_append (x ∷ xs) ys = ap (λ l. x.2 ∷ l) (alone_append xs ys)

-- all up to the last one precede what may follow that
all_precede : (kind : KeyKind) (xs : List Entry) (m e : Entry) → AscendAll kind (xs ++ m ∷ []) → IsAbove kind (key_in m) e → Precede kind (xs ++ m ∷ []) (e ∷ [])
all_precede kind [] m e a h = ((h, tt), tt)
all_precede kind (x ∷ xs) m e a h = ((above_most kind (key_in x) m e (last_of xs a.0) h, tt), all_precede kind xs m e a.1 h)
  where
    last_of : (ys : List Entry) → AllByRecursion (λ f. Precedes kind x f) (ys ++ m ∷ []) → IsAbove kind (key_in x) m
    last_of [] p = p.0
    last_of (y ∷ ys) p = last_of ys p.1

in_end : (xs : List Met) (m : Met) → In m (xs ++ m ∷ [])
in_end [] m = inl refl
in_end (x ∷ xs) m = inr (in_end xs m)

test_at : (kind : KeyKind) (last key : Key) (row : Bool) → length last ≢ 0 → follows kind last key row ≡ cond row (comes_before kind last key) (at_most kind last key)
test_at kind last key row some = ap (λ c. cond c true (cond row (comes_before kind last key) (at_most kind last key))) (ne_eqb (length last) 0 some)

pub test_none : (kind : KeyKind) (last key : Key) (row : Bool) → length last ≡ 0 → follows kind last key row ≡ true
test_none kind last key row none = ap (λ c. cond c true (cond row (comes_before kind last key) (at_most kind last key))) (eq-eqb (length last) 0 none)

pub test_row : (kind : KeyKind) (last key : Key) (row : Bool) → length last ≢ 0 → row ≡ true → follows kind last key row ≡ comes_before kind last key
test_row kind last key row some is = test_at kind last key row some ∙ ap (λ c. cond c (comes_before kind last key) (at_most kind last key)) is

pub test_bound : (kind : KeyKind) (last key : Key) (row : Bool) → length last ≢ 0 → row ≡ false → follows kind last key row ≡ at_most kind last key
test_bound kind last key row some is = test_at kind last key row some ∙ ap (λ c. cond c (comes_before kind last key) (at_most kind last key)) is

pub not_is : (c : Bool) → not c ≡ cond c false true
not_is true = refl
not_is false = refl

-- what may follow is met
pub up_next : (kind : KeyKind) (front : List Met) (last key : Key) (row : Bool) (m : Met) → entry_is row key m.2 → length key ≢ 0 → IsUpTo kind front last → follows kind last key row ≡ true → IsUpTo kind (front ++ m ∷ []) key
up_next kind front last key row m is some up may = by_end up.end
  where
    by_end : ((front ≡ []) × (length last ≡ 0)) ⊎ ((length last ≢ 0) × (before : List Met) × (q : Met) × (front ≡ before ++ q ∷ []) × (key_in q.2 ≡ last)) → IsUpTo kind (front ++ m ∷ []) key
    by_end (inl e) = record { ascend = subst (λ (l : List Met). AscendAll kind (entries_alone (l ++ m ∷ []))) (sym e.0) (tt, tt); end = inr (some, front, m, refl, key_is row key m.2 is) }
    by_end (inr e) =
        let above : IsAbove kind (key_in e.2.2) m.2 = subst (λ k. IsAbove kind k m.2) (sym e.4) (above_if kind last key row m.2 is (sym (test_at kind last key row e.0) ∙ may)) in
        let split : entries_alone front ≡ entries_alone e.1 ++ e.2.2 ∷ [] = ap entries_alone e.3 ∙ alone_append e.1 (e.2 ∷ []) in
        let all = all_precede kind (entries_alone e.1) e.2.2 m.2 (subst (AscendAll kind) split up.ascend) above in
        record {
          ascend = subst (AscendAll kind) (sym (alone_append front (m ∷ []))) (ascends-append kind (entries_alone front) (m.2 ∷ []) up.ascend (tt, tt) (subst (λ l. Precede kind l (m.2 ∷ [])) (sym split) all));
          end = inr (some, front, m, refl, key_is row key m.2 is);
        }

-- what may not follow breaks the order
pub broken_at : (kind : KeyKind) (front : List Met) (last key : Key) (row : Bool) (m : Met) → entry_is row key m.2 → IsUpTo kind front last → follows kind last key row ≡ false → (other : Met) × In other front × ¬ Precedes kind other.2 m.2
broken_at kind front last key row m is up may = by_end up.end
  where
    apart : true ≡ false → ⊥
    apart e = cc

    by_end : ((front ≡ []) × (length last ≡ 0)) ⊎ ((length last ≢ 0) × (before : List Met) × (q : Met) × (front ≡ before ++ q ∷ []) × (key_in q.2 ≡ last)) → (other : Met) × In other front × ¬ Precedes kind other.2 m.2
    by_end (inl e) = absurd (apart (sym (test_none kind last key row e.1) ∙ may))
    by_end (inr e) = (
      e.2,
      subst (λ l. In e.2 l) (sym e.3) (in_end e.1 e.2),
      λ p. apart (sym (if_above kind last key row m.2 is (subst (λ k. IsAbove kind k m.2) e.4 p)) ∙ sym (test_at kind last key row e.0) ∙ may),
    )

pub key_some : (kind : KeyKind) (n : ℕ) → IsTreeKind kind → IsKeyLength kind n → n ≢ 0
key_some Text n t h e = let a = h.0 in omega (arith, a, e)
key_some I32 n t h e = let a = h.0 in omega (arith, a, e)
key_some U32 n t h e = let a = h.0 in omega (arith, a, e)
key_some I64 n t h e = let a = h.0 in omega (arith, a, e)
key_some U64 n t h e = let a = h.0 in omega (arith, a, e)
key_some F32 n t h e = absurd t
key_some F64 n t h e = absurd t

rows_split : (at j : ℕ) (xs ys : List Row) → rows_met at j (xs ++ ys) ≡ rows_met at j xs ++ rows_met at (j + length xs) ys
rows_split at j [] ys = ap (λ n. rows_met at n ys) (let e : j ≡ j + 0 = omega arith in e)
rows_split at j (x ∷ xs) ys =
    ap (λ l. (at, j, a_row x.0 x.1) ∷ l) (rows_split at (j + 1) xs ys ∙ ap (λ n. rows_met at (j + 1) xs ++ rows_met at n ys) (let e : j + 1 + length xs ≡ j + suc (length xs) = omega arith in e))

module _ (at i : ℕ) (rows : List Row) (d : Row) (inside : i < length rows) where
  -- the rows before one, that row, and those behind it
  pub rows_apart : rows_met at 0 rows ≡ rows_met at 0 (take i rows) ++ ((at, i, a_row (get_or rows i d).0 (get_or rows i d).1) ∷ rows_met at (i + 1) (drop (i + 1) rows))
  rows_apart =
      ap (rows_met at 0) (sym (take-append-drop i rows) ∙ ap (λ l. take i rows ++ l) (drop_more rows i d inside))
      ∙ rows_split at 0 (take i rows) (get_or rows i d ∷ drop (i + 1) rows)
      ∙ ap (λ n. rows_met at 0 (take i rows) ++ rows_met at n (get_or rows i d ∷ drop (i + 1) rows)) (let e = length-take-le i rows (omega (arith, inside)) in omega (arith, e))

  pub rows_more : rows_met at 0 (take (i + 1) rows) ≡ rows_met at 0 (take i rows) ++ (at, i, a_row (get_or rows i d).0 (get_or rows i d).1) ∷ []
  rows_more =
      ap (rows_met at 0) (take_more rows i d inside)
      ∙ rows_split at 0 (take i rows) (get_or rows i d ∷ [])
      ∙ ap (λ n. rows_met at 0 (take i rows) ++ rows_met at n (get_or rows i d ∷ [])) (let e = length-take-le i rows (omega (arith, inside)) in omega (arith, e))
