-- The lists of indices: what stands in them, that they ascend, that no other list does both, and how they move.
use Rattle.std.proofs.Common.{◌≡◌, ◌≢◌, ◌⊎◌, inl, inr, ℕ, ℤ, zero, suc, List, [], ◌∷◌, Option, Some, None, Bool, true, false, cond, T, refl, ap, sym, ◌∙◌, subst, arith}
use Rattle.std.specs.Prelude.{◌↔◌, not, ◌==◌, if◌then◌else◌, codes}
use Rattle.std.specs.List.{Contains, AllByRecursion, filter, cons_option, fold}
use Rattle.std.specs.List.Sorted.{IsStrictlySortedBy}
use Rattle.std.specs.Option.{option_map, option_and_then}
use Rattle.std.specs.Str.{bytes_eq}
use Rattle.std.specs.declared.cmp.Ordering.{Ordering}
use Rattle.std.specs.declared.cmp.Ordering.TheVariants.{Less, Equal, Greater}
use Rattle.std.specs.Ordering.{nat_cmp, eq_by_cmp, ordering_then, ordering_reverse, is_lt}
use Rattle.std.specs.Cmp.{IsTotalOrder, nat_cmp_total, int_cmp_total, on_total, then_total}
use Rattle.std.specs.Cmp.Lexicographic.{nat_list_cmp_total}
use Rattle.std.specs.FinMap.{get, insert, remove, entries, entries_sorted, get-insert, get-remove, nat_cmp-IsAntisymmetric}
use Rattle.std.specs.FinMap as finite
use Rattle.std.specs.FinMap.Entries.{below_all}
use Rattle.bfs_bytes.specs.Fields.{unsigned_bytes, signed64_bytes}
use Rattle.bfs_base.specs.Keys.{key_cmp, number_of}
use Rattle.bfs_base.specs.declared.kind.KeyKind.{KeyKind}
use Rattle.bfs_base.specs.declared.kind.KeyKind.TheVariants.{Text, I32, U32, I64, U64, F32, F64}
use Rattle.bfs_tree.specs.Orders.{placed}
use Rattle.bfs_tree.specs.Trees.{Tree, Node, Nodes, is_file}
use Rattle.bfs_tree.specs.Listings.{key_in, key_at, key_of_attribute, pair_cmp, pairs_in, listed, without_id, relisted}
use Rattle.bfs_tree.proofs.Members.{In, below-in, entry-of, node-of, head-true, tail-true, true-is}

-- ---- elements of a list

contains-in : {A : Type 0} (xs : List A) (x : A) → Contains xs x → In x xs
contains-in [] x (k, h, e) = absurd (omega (arith, h))
contains-in (y ∷ ys) x (zero, h, e) = inl (sym e)
contains-in (y ∷ ys) x (suc k, h, e) = inr (contains-in ys x (k, omega (arith, h), e))

in-contains : {A : Type 0} (xs : List A) (x : A) → In x xs → Contains xs x
in-contains [] x h = absurd h
in-contains (y ∷ ys) x (inl e) = (zero, omega arith, sym e)
in-contains (y ∷ ys) x (inr h) = let later = in-contains ys x h in let short = later.1 in (suc later.0, omega (arith, short), later.2)

all-of : {A : Type 0} (P : A → Type 0) (xs : List A) → ((y : A) → In y xs → P y) → AllByRecursion P xs
all-of P [] h = tt
all-of P (x ∷ xs) h = (h x (inl refl), all-of P xs (λ y i. h y (inr i)))

of-all : {A : Type 0} (P : A → Type 0) (xs : List A) (y : A) → AllByRecursion P xs → In y xs → P y
of-all P [] y h i = absurd i
of-all P (x ∷ xs) y h (inl e) = subst P (sym e) h.0
of-all P (x ∷ xs) y h (inr i) = of-all P xs y h.1 i

-- what a filter leaves
filter-in : {A : Type 0} (p : A → Bool) (xs : List A) (y : A) → In y (filter p xs) → In y xs × (p y ≡ true)
filter-in p [] y h = absurd h
filter-in p (x ∷ xs) y h =
    elim (p x) as (λ b. p x ≡ b → In y (cond b (x ∷ filter p xs) (filter p xs)) → In y (x ∷ xs) × (p y ≡ true)) [
      | true ↦ λ passes h. elim h as (λ _. In y (x ∷ xs) × (p y ≡ true)) [
        | inl e ↦ (inl e, ap p e ∙ passes)
        | inr i ↦ let later = filter-in p xs y i in (inr later.0, later.1)
      ]
      | false ↦ λ _ h. let later = filter-in p xs y h in (inr later.0, later.1)
    ] refl h

in-filter : {A : Type 0} (p : A → Bool) (xs : List A) (y : A) → In y xs → p y ≡ true → In y (filter p xs)
in-filter p [] y h passes = absurd h
in-filter p (x ∷ xs) y h passes =
    elim (p x) as (λ b. p x ≡ b → In y (cond b (x ∷ filter p xs) (filter p xs))) [
      | true ↦ λ _. elim h as (λ _. In y (x ∷ filter p xs)) [ inl e ↦ inl e | inr i ↦ inr (in-filter p xs y i passes) ]
      | false ↦ λ fails. elim h as (λ _. In y (filter p xs)) [ inl e ↦ let this : p y ≡ false = ap p e ∙ fails in cc | inr i ↦ in-filter p xs y i passes ]
    ] refl

-- ---- lists that ascend by a total order

module _ {A : Type 0} (R : A → A → Ordering) (o : IsTotalOrder R) where
  not-itself : (x : A) → R x x ≡ Less → ⊥
  not-itself x e = let turned : R x x ≡ Greater = o.antisymm x x ∙ ap ordering_reverse e in cc

  not-both : (x y : A) → R x y ≡ Less → R y x ≡ Less → ⊥
  not-both x y a b = let turned : R x y ≡ Greater = o.antisymm x y ∙ ap ordering_reverse b in cc

  turned : (x y : A) → R x y ≡ Greater → R y x ≡ Less
  turned x y e = o.antisymm y x ∙ ap ordering_reverse e

  -- two lists that ascend and have the same elements are one
  pub same-list : (xs ys : List A) → IsStrictlySortedBy R xs → IsStrictlySortedBy R ys → ((z : A) → In z xs → In z ys) → ((z : A) → In z ys → In z xs) → xs ≡ ys
  unfolding IsStrictlySortedBy
  same-list [] [] sx sy f g = refl
  same-list [] (y ∷ ys) sx sy f g = absurd (g y (inl refl))
  same-list (x ∷ xs) [] sx sy f g = absurd (f x (inl refl))
  same-list (x ∷ xs) (y ∷ ys) sx sy f g =
      let head : x ≡ y = elim (f x (inl refl)) as (λ _. x ≡ y) [
        | inl e ↦ e
        | inr i ↦ elim (g y (inl refl)) as (λ _. x ≡ y) [
          | inl e ↦ sym e
          | inr j ↦ absurd (not-both x y (of-all (λ z. R x z ≡ Less) xs y sx.0 j) (of-all (λ z. R y z ≡ Less) ys x sy.0 i))
        ]
      ] in
      let rest : xs ≡ ys = same-list xs ys sx.1 sy.1
      (λ z i. elim (f z (inr i)) as (λ _. In z ys) [ inl e ↦ absurd (not-itself x (subst (λ w. R x w ≡ Less) (e ∙ sym head) (of-all (λ w. R x w ≡ Less) xs z sx.0 i))) | inr j ↦ j ])
      (λ z i. elim (g z (inr i)) as (λ _. In z xs) [ inl e ↦ absurd (not-itself y (subst (λ w. R y w ≡ Less) (e ∙ head) (of-all (λ w. R y w ≡ Less) ys z sy.0 i))) | inr j ↦ j ]) in
      λ t. head t ∷ rest t

  pub placed-in : (ys : List A) (x z : A) → In z (placed R ys x) → (z ≡ x) ⊎ In z ys
  placed-in [] x z (inl e) = inl e
  placed-in [] x z (inr i) = absurd i
  placed-in (y ∷ ys) x z h =
      elim (is_lt (R x y)) as (λ b. In z (if b then x ∷ y ∷ ys else y ∷ placed R ys x) → (z ≡ x) ⊎ In z (y ∷ ys)) [
        | true ↦ λ h. h
        | false ↦ λ h. elim h as (λ _. (z ≡ x) ⊎ In z (y ∷ ys)) [
          | inl e ↦ inr (inl e)
          | inr i ↦ elim (placed-in ys x z i) as (λ _. (z ≡ x) ⊎ In z (y ∷ ys)) [ inl e ↦ inl e | inr j ↦ inr (inr j) ]
        ]
      ] h

  pub in-placed : (ys : List A) (x z : A) → (z ≡ x) ⊎ In z ys → In z (placed R ys x)
  in-placed [] x z (inl e) = inl e
  in-placed [] x z (inr i) = absurd i
  in-placed (y ∷ ys) x z h =
      elim (is_lt (R x y)) as (λ b. In z (if b then x ∷ y ∷ ys else y ∷ placed R ys x)) [
        | true ↦ h
        | false ↦ elim h as (λ _. In z (y ∷ placed R ys x)) [
          | inl e ↦ inr (in-placed ys x z (inl e))
          | inr i ↦ elim i as (λ _. In z (y ∷ placed R ys x)) [ inl e ↦ inl e | inr j ↦ inr (in-placed ys x z (inr j)) ]
        ]
      ]

  -- an element that ties with none keeps the order
  pub placed-sorted : (ys : List A) (x : A) → IsStrictlySortedBy R ys → ((y : A) → In y ys → R x y ≢ Equal) → IsStrictlySortedBy R (placed R ys x)
  unfolding IsStrictlySortedBy
  placed-sorted [] x s apart = (tt, tt)
  placed-sorted (y ∷ ys) x s apart =
      elim (R x y) as (λ r. R x y ≡ r → IsStrictlySortedBy R (if is_lt r then x ∷ y ∷ ys else y ∷ placed R ys x)) [
        | Less ↦ λ e. (
          all-of (λ z. R x z ≡ Less) (y ∷ ys) (λ z i. elim i as (λ _. R x z ≡ Less) [
            | inl same ↦ ap (R x) same ∙ e
            | inr j ↦ o.trans x y z e (of-all (λ w. R y w ≡ Less) ys z s.0 j)
          ]),
          s,
        )
        | Equal ↦ λ e. absurd (apart y (inl refl) e)
        | Greater ↦ λ e. (
          all-of (λ z. R y z ≡ Less) (placed R ys x) (λ z i. elim (placed-in ys x z i) as (λ _. R y z ≡ Less) [
            | inl same ↦ ap (R y) same ∙ turned x y e
            | inr j ↦ of-all (λ w. R y w ≡ Less) ys z s.0 j
          ]),
          placed-sorted ys x s.1 (λ z i. apart z (inr i)),
        )
      ] refl

  pub filter-sorted : (p : A → Bool) (xs : List A) → IsStrictlySortedBy R xs → IsStrictlySortedBy R (filter p xs)
  unfolding IsStrictlySortedBy
  filter-sorted p [] s = tt
  filter-sorted p (x ∷ xs) s =
      elim (p x) as (λ b. IsStrictlySortedBy R (cond b (x ∷ filter p xs) (filter p xs))) [
        | true ↦ (all-of (λ z. R x z ≡ Less) (filter p xs) (λ z i. of-all (λ w. R x w ≡ Less) xs z s.0 (filter-in p xs z i).0), filter-sorted p xs s.1)
        | false ↦ filter-sorted p xs s.1
      ]

-- ---- the order of pairs

key_total : (kind : KeyKind) → IsTotalOrder (key_cmp kind)
key_total Text = nat_list_cmp_total
key_total I32 = on_total (number_of I32) int_cmp_total
key_total U32 = on_total (number_of U32) int_cmp_total
key_total I64 = on_total (number_of I64) int_cmp_total
key_total U64 = on_total (number_of U64) int_cmp_total
key_total F32 = on_total (number_of F32) int_cmp_total
key_total F64 = on_total (number_of F64) int_cmp_total

abbrev Pair : Type 0
Pair = List ℕ × ℕ

pair_total : (kind : KeyKind) → IsTotalOrder (pair_cmp kind)
pair_total kind = then_total (on_total (λ (p : Pair). p.0) (key_total kind)) (on_total (λ (p : Pair). p.1) nat_cmp_total)

tied-ids : (kind : KeyKind) (x y : Pair) → pair_cmp kind x y ≡ Equal → x.1 ≡ y.1
tied-ids kind x y e = nat_cmp-IsAntisymmetric x.1 y.1 (second (key_cmp kind x.0 y.0) (nat_cmp x.1 y.1) e)
  where
    second : (r s : Ordering) → ordering_then r s ≡ Equal → s ≡ Equal
    second Less s e = cc
    second Equal s e = e
    second Greater s e = cc

-- ---- the pairs of entries

module _ (root : ℕ) (index : List ℕ) (kind : KeyKind) where
  pub pairs-from : (es : List (ℕ × Node)) (z : Pair) → In z (pairs_in root index kind es) → (e : ℕ × Node) × In e es × (e.0 ≡ z.1) × (key_in root index kind e.0 e.1 ≡ Some z.0)
  pairs-from [] z h = absurd h
  pairs-from (x ∷ xs) z h =
      elim (key_in root index kind x.0 x.1) as (λ k. key_in root index kind x.0 x.1 ≡ k → In z (cons_option (option_map (λ key. (key, x.0)) k) (pairs_in root index kind xs)) → (e : ℕ × Node) × In e (x ∷ xs) × (e.0 ≡ z.1) × (key_in root index kind e.0 e.1 ≡ Some z.0)) [
        | None ↦ λ _ h. let later = pairs-from xs z h in (later.0, inr later.1, later.2, later.3)
        | Some key ↦ λ is h. elim h as (λ _. (e : ℕ × Node) × In e (x ∷ xs) × (e.0 ≡ z.1) × (key_in root index kind e.0 e.1 ≡ Some z.0)) [
          | inl same ↦ (x, inl refl, sym (ap (λ (p : Pair). p.1) same), is ∙ ap (λ (p : Pair). Some p.0) (sym same))
          | inr i ↦ let later = pairs-from xs z i in (later.0, inr later.1, later.2, later.3)
        ]
      ] refl h

  pub pairs-have : (es : List (ℕ × Node)) (e : ℕ × Node) (key : List ℕ) → In e es → key_in root index kind e.0 e.1 ≡ Some key → In (key, e.0) (pairs_in root index kind es)
  pairs-have [] e key h is = absurd h
  pairs-have (x ∷ xs) e key h is =
      elim (key_in root index kind x.0 x.1) as (λ k. key_in root index kind x.0 x.1 ≡ k → In (key, e.0) (cons_option (option_map (λ key. (key, x.0)) k) (pairs_in root index kind xs))) [
        | None ↦ λ none. elim h as (λ _. In (key, e.0) (pairs_in root index kind xs)) [
          | inl same ↦ let gone : key_in root index kind e.0 e.1 ≡ None = ap (λ (y : ℕ × Node). key_in root index kind y.0 y.1) same ∙ none in cc
          | inr i ↦ pairs-have xs e key i is
        ]
        | Some other ↦ λ some. elim h as (λ _. In (key, e.0) ((other, x.0) ∷ pairs_in root index kind xs)) [
          | inl same ↦
              let there : key_in root index kind e.0 e.1 ≡ Some other = ap (λ (y : ℕ × Node). key_in root index kind y.0 y.1) same ∙ some in
              let one : key ≡ other = cc in
              let id : e.0 ≡ x.0 = ap (λ (y : ℕ × Node). y.0) same in
              inl (λ i. (one i, id i))
          | inr i ↦ inr (pairs-have xs e key i is)
        ]
      ] refl

  -- each id stands in one pair at most
  abbrev pub Distinct : List Pair → Type 0
  Distinct [] = Unit {0}
  Distinct (x ∷ xs) = ((y : Pair) → In y xs → x.1 ≢ y.1) × Distinct xs

  pairs-distinct : (es : List (ℕ × Node)) → T (finite.is_sorted nat_cmp es) → Distinct (pairs_in root index kind es)
  pairs-distinct [] s = tt
  pairs-distinct (x ∷ xs) s =
      elim (key_in root index kind x.0 x.1) as (λ k. Distinct (cons_option (option_map (λ key. (key, x.0)) k) (pairs_in root index kind xs))) [
        | None ↦ pairs-distinct xs (tail-true (below_all nat_cmp x.0 xs) (finite.is_sorted nat_cmp xs) s)
        | Some key ↦ (
          λ y i same.
              let from = pairs-from xs y i in
              apart x.0 from.0.0 (true-is (is_lt (nat_cmp x.0 from.0.0)) (below-in x.0 xs from.0 (head-true (below_all nat_cmp x.0 xs) (finite.is_sorted nat_cmp xs) s) from.1)) (same ∙ sym from.2),
          pairs-distinct xs (tail-true (below_all nat_cmp x.0 xs) (finite.is_sorted nat_cmp xs) s),
        )
      ]
    where
      apart : (a b : ℕ) → is_lt (nat_cmp a b) ≡ true → a ≡ b → ⊥
      apart a b e same = grind (arith, e, same)

  -- ---- put in order, one after the other

  abbrev Apart : List Pair → List Pair → Type 0
  Apart xs acc = (x y : Pair) → In x xs → In y acc → x.1 ≢ y.1

  ordered : (xs acc : List Pair) → Distinct xs → Apart xs acc → IsStrictlySortedBy (pair_cmp kind) acc → IsStrictlySortedBy (pair_cmp kind) (fold (placed (pair_cmp kind)) acc xs)
  ordered [] acc distinct apart s = s
  ordered (x ∷ xs) acc distinct apart s =
      ordered xs (placed (pair_cmp kind) acc x) distinct.1
      (λ y z i j. elim (placed-in (pair_cmp kind) (pair_total kind) acc x z j) as (λ _. y.1 ≢ z.1) [
        | inl same ↦ λ tie. distinct.0 y i (ap (λ (p : Pair). p.1) (sym same) ∙ sym tie)
        | inr k ↦ apart y z (inr i) k
      ])
      (placed-sorted (pair_cmp kind) (pair_total kind) acc x s (λ y j tie. apart x y (inl refl) j (tied-ids kind x y tie)))

  fold-in : (xs acc : List Pair) (z : Pair) → In z (fold (placed (pair_cmp kind)) acc xs) → In z xs ⊎ In z acc
  fold-in [] acc z h = inr h
  fold-in (x ∷ xs) acc z h = elim (fold-in xs (placed (pair_cmp kind) acc x) z h) as (λ _. In z (x ∷ xs) ⊎ In z acc) [
    | inl i ↦ inl (inr i)
    | inr i ↦ elim (placed-in (pair_cmp kind) (pair_total kind) acc x z i) as (λ _. In z (x ∷ xs) ⊎ In z acc) [ inl e ↦ inl (inl e) | inr j ↦ inr j ]
  ]

  in-fold : (xs acc : List Pair) (z : Pair) → In z xs ⊎ In z acc → In z (fold (placed (pair_cmp kind)) acc xs)
  in-fold [] acc z (inl i) = absurd i
  in-fold [] acc z (inr i) = i
  in-fold (x ∷ xs) acc z (inr i) = in-fold xs (placed (pair_cmp kind) acc x) z (inr (in-placed (pair_cmp kind) (pair_total kind) acc x z (inr i)))
  in-fold (x ∷ xs) acc z (inl (inr i)) = in-fold xs (placed (pair_cmp kind) acc x) z (inl i)
  in-fold (x ∷ xs) acc z (inl (inl e)) = in-fold xs (placed (pair_cmp kind) acc x) z (inr (in-placed (pair_cmp kind) (pair_total kind) acc x z (inl e)))

-- ---- the list of an index of a tree

module _ (tree : Tree) (index : List ℕ) (kind : KeyKind) where
  some-key : (id : ℕ) (o : Option Node) (key : List ℕ) → option_and_then (key_in tree.root index kind id) o ≡ Some key → (n : Node) × (o ≡ Some n) × (key_in tree.root index kind id n ≡ Some key)
  some-key id None key e = cc
  some-key id (Some n) key e = (n, refl, e)

  has-key : (z : Pair) → In z (listed tree index kind) → key_at tree index kind z.1 ≡ Some z.0
  has-key z h = elim (fold-in tree.root index kind (pairs_in tree.root index kind (entries tree.nodes)) [] z h) as (λ _. key_at tree index kind z.1 ≡ Some z.0) [
    | inl i ↦
        let from = pairs-from tree.root index kind (entries tree.nodes) z i in
        let there : get tree.nodes from.0.0 ≡ Some from.0.1 = node-of tree.nodes from.0 from.1 in
        subst (λ id. key_at tree index kind id ≡ Some z.0) from.2 (ap (option_and_then (key_in tree.root index kind from.0.0)) there ∙ from.3)
    | inr i ↦ absurd i
  ]

  key-has : (z : Pair) → key_at tree index kind z.1 ≡ Some z.0 → In z (listed tree index kind)
  key-has z is =
      let n = some-key z.1 (get tree.nodes z.1) z.0 is in
      in-fold tree.root index kind (pairs_in tree.root index kind (entries tree.nodes)) [] z
      (inl (pairs-have tree.root index kind (entries tree.nodes) (z.1, n.0) z.0 (entry-of tree.nodes z.1 n.0 n.1) n.2))

nothing-sorted : (kind : KeyKind) → IsStrictlySortedBy (pair_cmp kind) []
unfolding IsStrictlySortedBy
nothing-sorted kind = tt

pub listed-ascends : (tree : Tree) (index : List ℕ) (kind : KeyKind) → IsStrictlySortedBy (pair_cmp kind) (listed tree index kind)
listed-ascends tree index kind =
    ordered tree.root index kind (pairs_in tree.root index kind (entries tree.nodes)) [] (pairs-distinct tree.root index kind (entries tree.nodes) (entries_sorted tree.nodes)) (λ x y i j. absurd j) (nothing-sorted kind)

pub listed-has : (tree : Tree) (index : List ℕ) (kind : KeyKind) (key : List ℕ) (id : ℕ) → Contains (listed tree index kind) (key, id) ↔ (key_at tree index kind id ≡ Some key)
listed-has tree index kind key id = (λ h. has-key tree index kind (key, id) (contains-in (listed tree index kind) (key, id) h), λ is. in-contains (listed tree index kind) (key, id) (key-has tree index kind (key, id) is))

pub listed-is-unique : (tree : Tree) (index : List ℕ) (kind : KeyKind) (pairs : List Pair) → IsStrictlySortedBy (pair_cmp kind) pairs
    → ((key : List ℕ) (id : ℕ) → Contains pairs (key, id) ↔ (key_at tree index kind id ≡ Some key)) → pairs ≡ listed tree index kind
listed-is-unique tree index kind pairs s said =
    same-list (pair_cmp kind) (pair_total kind) pairs (listed tree index kind) s (listed-ascends tree index kind)
    (λ z i. key-has tree index kind z ((said z.0 z.1).0 (in-contains pairs z i)))
    (λ z i. contains-in pairs z ((said z.0 z.1).1 (has-key tree index kind z i)))

pub listed-stays : (old new : Tree) (index : List ℕ) (kind : KeyKind) → ((id : ℕ) → key_at new index kind id ≡ key_at old index kind id) → listed new index kind ≡ listed old index kind
listed-stays old new index kind same =
    same-list (pair_cmp kind) (pair_total kind) (listed new index kind) (listed old index kind) (listed-ascends new index kind) (listed-ascends old index kind)
    (λ z i. key-has old index kind z (sym (same z.1) ∙ has-key new index kind z i))
    (λ z i. key-has new index kind z (same z.1 ∙ has-key old index kind z i))

-- ---- a list without the pairs of a node, and with a new one

other-id : (q id : ℕ) → not (q == id) ≡ true → q ≢ id
other-id q id e same = grind (arith, e, same)

id-passes : (q id : ℕ) → q ≢ id → not (q == id) ≡ true
id-passes q id apart = grind (arith, apart)

same-or-not : (q id : ℕ) → (q ≡ id) ⊎ (q ≢ id)
same-or-not q id = elim (q == id) as (λ b. (q == id) ≡ b → (q ≡ id) ⊎ (q ≢ id)) [ true ↦ λ e. inl (grind (arith, e)) | false ↦ λ e. inr (λ same. apart q id e same) ] refl
  where
    apart : (q id : ℕ) → (q == id) ≡ false → q ≡ id → ⊥
    apart q id e same = grind (arith, e, same)

module _ (kind : KeyKind) (id : ℕ) (pairs : List Pair) where
  left-apart : (z : Pair) → In z (without_id id pairs) → z.1 ≢ id
  left-apart z i = other-id z.1 id (filter-in (λ (p : Pair). not (p.1 == id)) pairs z i).1

  relisted-sorted : (key : Option (List ℕ)) → IsStrictlySortedBy (pair_cmp kind) pairs → IsStrictlySortedBy (pair_cmp kind) (relisted kind id key pairs)
  relisted-sorted None s = filter-sorted (pair_cmp kind) (pair_total kind) (λ p. not (p.1 == id)) pairs s
  relisted-sorted (Some key) s =
      placed-sorted (pair_cmp kind) (pair_total kind) (without_id id pairs) (key, id) (filter-sorted (pair_cmp kind) (pair_total kind) (λ p. not (p.1 == id)) pairs s)
      (λ y i tie. left-apart y i (sym (tied-ids kind (key, id) y tie)))

  relisted-in : (key : Option (List ℕ)) (z : Pair) → In z (relisted kind id key pairs) → ((z.1 ≢ id) × In z pairs) ⊎ ((z.1 ≡ id) × (key ≡ Some z.0))
  relisted-in None z i = inl (left-apart z i, (filter-in (λ (p : Pair). not (p.1 == id)) pairs z i).0)
  relisted-in (Some key) z i = elim (placed-in (pair_cmp kind) (pair_total kind) (without_id id pairs) (key, id) z i) as (λ _. ((z.1 ≢ id) × In z pairs) ⊎ ((z.1 ≡ id) × (Some key ≡ Some z.0))) [
    | inl e ↦ inr (ap (λ (p : Pair). p.1) e, ap (λ (p : Pair). Some p.0) (sym e))
    | inr j ↦ inl (left-apart z j, (filter-in (λ (p : Pair). not (p.1 == id)) pairs z j).0)
  ]

  in-relisted : (key : Option (List ℕ)) (z : Pair) → ((z.1 ≢ id) × In z pairs) ⊎ ((z.1 ≡ id) × (key ≡ Some z.0)) → In z (relisted kind id key pairs)
  in-relisted None z (inl (apart, i)) = in-filter (λ (p : Pair). not (p.1 == id)) pairs z i (id-passes z.1 id apart)
  in-relisted None z (inr (same, e)) = cc
  in-relisted (Some key) z (inl (apart, i)) = in-placed (pair_cmp kind) (pair_total kind) (without_id id pairs) (key, id) z (inr (in-filter (λ (p : Pair). not (p.1 == id)) pairs z i (id-passes z.1 id apart)))
  in-relisted (Some key) z (inr (same, e)) =
      let one : z.0 ≡ key = cc in
      in-placed (pair_cmp kind) (pair_total kind) (without_id id pairs) (key, id) z (inl (λ t. (one t, same t)))

-- ---- one node has another key

module _ (old new : Tree) (index : List ℕ) (kind : KeyKind) (id : ℕ) (others : (q : ℕ) → q ≢ id → key_at new index kind q ≡ key_at old index kind q) where
  from-new : (z : Pair) → In z (listed new index kind) → ((z.1 ≢ id) × In z (listed old index kind)) ⊎ ((z.1 ≡ id) × (key_at new index kind id ≡ Some z.0))
  from-new z i = elim (same-or-not z.1 id) as (λ _. ((z.1 ≢ id) × In z (listed old index kind)) ⊎ ((z.1 ≡ id) × (key_at new index kind id ≡ Some z.0))) [
    | inl same ↦ inr (same, ap (key_at new index kind) (sym same) ∙ has-key new index kind z i)
    | inr apart ↦ inl (apart, key-has old index kind z (sym (others z.1 apart) ∙ has-key new index kind z i))
  ]

  to-new : (z : Pair) → ((z.1 ≢ id) × In z (listed old index kind)) ⊎ ((z.1 ≡ id) × (key_at new index kind id ≡ Some z.0)) → In z (listed new index kind)
  to-new z (inl (apart, i)) = key-has new index kind z (others z.1 apart ∙ has-key old index kind z i)
  to-new z (inr (same, is)) = key-has new index kind z (ap (key_at new index kind) same ∙ is)

  pub listed-moves : listed new index kind ≡ relisted kind id (key_at new index kind id) (listed old index kind)
  listed-moves =
      same-list (pair_cmp kind) (pair_total kind) (listed new index kind) (relisted kind id (key_at new index kind id) (listed old index kind))
      (listed-ascends new index kind) (relisted-sorted kind id (listed old index kind) (key_at new index kind id) (listed-ascends old index kind))
      (λ z i. in-relisted kind id (listed old index kind) (key_at new index kind id) z (from-new z i))
      (λ z i. to-new z (relisted-in kind id (listed old index kind) (key_at new index kind id) z i))

  pub moved-has : (key : List ℕ) (q : ℕ) → Contains (listed new index kind) (key, q) ↔ (((q ≢ id) × Contains (listed old index kind) (key, q)) ⊎ ((q ≡ id) × (key_at new index kind id ≡ Some key)))
  moved-has key q = (
    λ h. elim (from-new (key, q) (contains-in (listed new index kind) (key, q) h)) as (λ _. ((q ≢ id) × Contains (listed old index kind) (key, q)) ⊎ ((q ≡ id) × (key_at new index kind id ≡ Some key))) [
      | inl o ↦ inl (o.0, in-contains (listed old index kind) (key, q) o.1)
      | inr n ↦ inr n
    ],
    λ h. in-contains (listed new index kind) (key, q) (elim h as (λ _. In (key, q) (listed new index kind)) [
      | inl o ↦ to-new (key, q) (inl (o.0, contains-in (listed old index kind) (key, q) o.1))
      | inr n ↦ to-new (key, q) (inr n)
    ]),
  )

-- ---- a node is put, or taken

tied : (q : ℕ) → eq_by_cmp nat_cmp q q ≡ true
tied q = grind arith

apart-by : (q id : ℕ) → q ≢ id → eq_by_cmp nat_cmp q id ≡ false
apart-by q id other = grind (arith, other)

put-here : (nodes : Nodes) (id : ℕ) (n : Node) → get (insert nodes id n) id ≡ Some n
put-here nodes id n = get-insert nat_cmp_total nodes id n id ∙ ap (λ b. cond b (Some n) (get nodes id)) (tied id)

put-other : (nodes : Nodes) (id : ℕ) (n : Node) (q : ℕ) → q ≢ id → get (insert nodes id n) q ≡ get nodes q
put-other nodes id n q other = get-insert nat_cmp_total nodes id n q ∙ ap (λ b. cond b (Some n) (get nodes q)) (apart-by q id other)

taken-here : (nodes : Nodes) (id : ℕ) → get (remove nodes id) id ≡ None
taken-here nodes id = get-remove nat_cmp_total nodes id id ∙ ap (λ b. cond b None (get nodes id)) (tied id)

taken-other : (nodes : Nodes) (id q : ℕ) → q ≢ id → get (remove nodes id) q ≡ get nodes q
taken-other nodes id q other = get-remove nat_cmp_total nodes id q ∙ ap (λ b. cond b None (get nodes q)) (apart-by q id other)

pub listed-put : (tree : Tree) (index : List ℕ) (kind : KeyKind) (id : ℕ) (node : Node)
    → listed (record tree { nodes = insert tree.nodes id node }) index kind ≡ relisted kind id (key_in tree.root index kind id node) (listed tree index kind)
listed-put tree index kind id node =
    listed-moves tree (record tree { nodes = insert tree.nodes id node }) index kind id (λ q other. ap (option_and_then (key_in tree.root index kind q)) (put-other tree.nodes id node q other))
    ∙ ap (λ o. relisted kind id (option_and_then (key_in tree.root index kind id) o) (listed tree index kind)) (put-here tree.nodes id node)

pub listed-taken : (tree : Tree) (index : List ℕ) (kind : KeyKind) (id : ℕ) → listed (record tree { nodes = remove tree.nodes id }) index kind ≡ without_id id (listed tree index kind)
listed-taken tree index kind id =
    listed-moves tree (record tree { nodes = remove tree.nodes id }) index kind id (λ q other. ap (option_and_then (key_in tree.root index kind q)) (taken-other tree.nodes id q other))
    ∙ ap (λ o. relisted kind id (option_and_then (key_in tree.root index kind id) o) (listed tree index kind)) (taken-here tree.nodes id)

pub listed-kept : (tree : Tree) (index : List ℕ) (kind : KeyKind) (id : ℕ) (old new : Node) → get tree.nodes id ≡ Some old → key_in tree.root index kind id new ≡ key_in tree.root index kind id old
    → listed (record tree { nodes = insert tree.nodes id new }) index kind ≡ listed tree index kind
listed-kept tree index kind id old new there same =
    listed-stays tree (record tree { nodes = insert tree.nodes id new }) index kind (λ q. elim (same-or-not q id) as (λ _. key_at (record tree { nodes = insert tree.nodes id new }) index kind q ≡ key_at tree index kind q) [
      | inl here ↦ subst (λ x. key_at (record tree { nodes = insert tree.nodes id new }) index kind x ≡ key_at tree index kind x) (sym here)
          (ap (option_and_then (key_in tree.root index kind id)) (put-here tree.nodes id new) ∙ same ∙ ap (option_and_then (key_in tree.root index kind id)) (sym there))
      | inr other ↦ ap (option_and_then (key_in tree.root index kind q)) (put-other tree.nodes id new q other)
    ])

pub key-depends-on : (root : ℕ) (index : List ℕ) (kind : KeyKind) (id : ℕ) (m n : Node) → m.kind ≡ n.kind → m.name ≡ n.name → m.size ≡ n.size → (is_file m.kind ≡ true → m.modified ≡ n.modified)
    → get m.attributes index ≡ get n.attributes index → key_in root index kind id m ≡ key_in root index kind id n
key-depends-on root index kind id m n kinds names sizes stamps attributes =
    ap (λ k. if bytes_eq index (codes "name") then k else if bytes_eq index (codes "size") then of-size m else if bytes_eq index (codes "last_modified") then of-stamp m else of-attribute m) (ap (λ name. if id == root then None else Some name) names)
    ∙ ap (λ k. if bytes_eq index (codes "name") then of-name n else if bytes_eq index (codes "size") then k else if bytes_eq index (codes "last_modified") then of-stamp m else of-attribute m) sized
    ∙ ap (λ k. if bytes_eq index (codes "name") then of-name n else if bytes_eq index (codes "size") then of-size n else if bytes_eq index (codes "last_modified") then k else of-attribute m) stamped
    ∙ ap (λ a. if bytes_eq index (codes "name") then of-name n else if bytes_eq index (codes "size") then of-size n else if bytes_eq index (codes "last_modified") then of-stamp n else option_and_then (key_of_attribute kind) a) attributes
  where
    of-name : Node → Option (List ℕ)
    of-name m = if id == root then None else Some m.name

    of-size : Node → Option (List ℕ)
    of-size m = if is_file m.kind then Some (unsigned_bytes 8 m.size) else None

    of-stamp : Node → Option (List ℕ)
    of-stamp m = if is_file m.kind then Some (signed64_bytes m.modified) else None

    of-attribute : Node → Option (List ℕ)
    of-attribute m = option_and_then (key_of_attribute kind) (get m.attributes index)

    sized : of-size m ≡ of-size n
    sized = ap (λ k. if is_file k then Some (unsigned_bytes 8 m.size) else None) kinds ∙ ap (λ s. if is_file n.kind then Some (unsigned_bytes 8 s) else None) sizes

    same-stamp : (b : Bool) (s t : ℤ) → (b ≡ true → s ≡ t) → (if b then Some (signed64_bytes s) else None) ≡ (if b then Some (signed64_bytes t) else None)
    same-stamp true s t e = ap (λ z. Some (signed64_bytes z)) (e refl)
    same-stamp false s t e = refl

    stamped : of-stamp m ≡ of-stamp n
    stamped = same-stamp (is_file m.kind) m.modified n.modified stamps ∙ ap (λ k. if is_file k then Some (signed64_bytes n.modified) else None) kinds
