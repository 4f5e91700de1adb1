-- The children of a directory: the one of a name, and all names in order.
use Rattle.std.proofs.Common.{◌≡◌, ◌≢◌, ◌⊎◌, inl, inr, ℕ, List, [], ◌∷◌, Option, Some, None, Bool, true, false, cond, not, T, refl, ap, sym, ◌∙◌, subst, arith, map}
use Rattle.std.specs.Prelude.{◌&&◌, ◌==◌}
use Rattle.std.specs.List.{fold}
use Rattle.std.specs.List.Sorted.{IsStrictlySortedBy}
use Rattle.std.specs.declared.cmp.Ordering.TheVariants.{Equal}
use Rattle.std.specs.Ordering.{nat_cmp, is_lt}
use Rattle.std.specs.Cmp.Lexicographic.{nat_list_cmp_total}
use Rattle.std.specs.FinMap.{get, entries, entries_sorted, nat_cmp-IsAntisymmetric, slice_cmp-IsAntisymmetric}
use Rattle.std.specs.FinMap as finite
use Rattle.std.specs.FinMap.Entries.{below_all}
use Rattle.bfs_base.specs.Keys.{text_cmp}
use Rattle.bfs_tree.specs.Answers.{names_in}
use Rattle.bfs_tree.specs.Orders.{placed}
use Rattle.bfs_tree.specs.Trees.{Tree, Node, IsNode, HasPlainNodes, child, children_in}
use Rattle.bfs_tree.proofs.ListMoves.{same-list, placed-in, in-placed, placed-sorted}
use Rattle.bfs_tree.proofs.Members.{In, below-in, entry-of, node-of, head-true, tail-true, true-is, child-there, child-seat, no-child}

-- a node of this name whose parent is the directory, and that isn't the root
pub record IsIn (tree : Tree) (d : ℕ) (name : List ℕ) (id : ℕ) : Type 0 where
  pub node : Node
  pub there : IsNode tree id node
  pub not_root : id ≢ tree.root
  pub parent : node.parent ≡ d
  pub named : node.name ≡ name

-- it is the child of that name
pub child_is : (tree : Tree) → HasPlainNodes tree → (d : ℕ) (name : List ℕ) (id : ℕ) (n : Node) → IsNode tree id n → id ≢ tree.root → n.parent ≡ d → n.name ≡ name → child tree d name ≡ Some (id, n)
child_is tree plain d name id n is apart parent named = by_child (child tree d name) refl
  where
    by_child : (o : Option (ℕ × Node)) → child tree d name ≡ o → child tree d name ≡ Some (id, n)
    by_child None e = absurd (no-child tree d name e id n is apart parent named)
    by_child (Some c) e =
        let there = child-there tree d name c e in
        let seat = child-seat tree d name c e in
        let same : c.0 ≡ id = plain.apart c.0 id c.1 n there.0 is (seat.0 ∙ sym parent) (seat.1 ∙ sym named) in
        let both : Some c.1 ≡ Some n = sym there.0 ∙ ap (get tree.nodes) same ∙ is in
        let one : c.1 ≡ n = (let s : Some c.1 ≡ Some n = both in cc) in
        e ∙ (λ i. Some (same i, one i))

-- where there is no such node, there is no child of that name
pub child_none : (tree : Tree) (d : ℕ) (name : List ℕ) → ((id : ℕ) → IsIn tree d name id → ⊥) → child tree d name ≡ None
child_none tree d name none = by_child (child tree d name) refl
  where
    by_child : (o : Option (ℕ × Node)) → child tree d name ≡ o → child tree d name ≡ None
    by_child None e = e
    by_child (Some c) e =
        let there = child-there tree d name c e in
        let seat = child-seat tree d name c e in
        absurd (none c.0 (record { node = c.1; there = there.0; not_root = there.1; parent = seat.0; named = seat.1 }))

-- ---- names put in order, one after the other

same_text : (a b : List ℕ) → text_cmp a b ≡ Equal → a ≡ b
same_text = slice_cmp-IsAntisymmetric nat_cmp-IsAntisymmetric

abbrev Distinct : List (List ℕ) → Type 0
Distinct [] = Unit {0}
Distinct (x ∷ xs) = ((y : List ℕ) → In y xs → x ≢ y) × Distinct xs

abbrev Apart : List (List ℕ) → List (List ℕ) → Type 0
Apart xs acc = (x y : List ℕ) → In x xs → In y acc → x ≢ y

ordered : (xs acc : List (List ℕ)) → Distinct xs → Apart xs acc → IsStrictlySortedBy text_cmp acc → IsStrictlySortedBy text_cmp (fold (placed text_cmp) acc xs)
ordered [] acc distinct apart s = s
ordered (x ∷ xs) acc distinct apart s =
    ordered xs (placed text_cmp acc x) distinct.1
    (λ y z i j. elim (placed-in text_cmp nat_list_cmp_total acc x z j) as (λ _. y ≢ z) [
      | inl same ↦ λ tie. distinct.0 y i (sym same ∙ sym tie)
      | inr k ↦ apart y z (inr i) k
    ])
    (placed-sorted text_cmp nat_list_cmp_total acc x s (λ y j tie. apart x y (inl refl) j (same_text x y tie)))

fold-in : (xs acc : List (List ℕ)) (z : List ℕ) → In z (fold (placed text_cmp) acc xs) → In z xs ⊎ In z acc
fold-in [] acc z h = inr h
fold-in (x ∷ xs) acc z h = elim (fold-in xs (placed text_cmp acc x) z h) as (λ _. In z (x ∷ xs) ⊎ In z acc) [
  | inl i ↦ inl (inr i)
  | inr i ↦ elim (placed-in text_cmp nat_list_cmp_total acc x z i) as (λ _. In z (x ∷ xs) ⊎ In z acc) [ inl e ↦ inl (inl e) | inr j ↦ inr j ]
]

in-fold : (xs acc : List (List ℕ)) (z : List ℕ) → In z xs ⊎ In z acc → In z (fold (placed text_cmp) acc xs)
in-fold [] acc z (inl i) = absurd i
in-fold [] acc z (inr i) = i
in-fold (x ∷ xs) acc z (inr i) = in-fold xs (placed text_cmp acc x) z (inr (in-placed text_cmp nat_list_cmp_total acc x z (inr i)))
in-fold (x ∷ xs) acc z (inl (inr i)) = in-fold xs (placed text_cmp acc x) z (inl i)
in-fold (x ∷ xs) acc z (inl (inl e)) = in-fold xs (placed text_cmp acc x) z (inr (in-placed text_cmp nat_list_cmp_total acc x z (inl e)))

nothing-sorted : IsStrictlySortedBy text_cmp []
unfolding IsStrictlySortedBy
nothing-sorted = tt

-- ---- the names of children

module _ (tree : Tree) (plain : HasPlainNodes tree) (d : ℕ) where
  abbrev is_kid : ℕ × Node → Bool
  is_kid e = not (e.0 == tree.root) && (e.1.parent == d)

  abbrev names_of : List (ℕ × Node) → List (List ℕ)
  names_of es = map (λ e. e.1.name) (children_in tree.root d es)

  kid_is : (e : ℕ × Node) → is_kid e ≡ true → (e.0 ≢ tree.root) × (e.1.parent ≡ d)
  kid_is e h = (by_test (e.0 == tree.root) refl h, by_parent (e.0 == tree.root) h)
    where
      by_test : (t : Bool) → (e.0 == tree.root) ≡ t → (not t && (e.1.parent == d)) ≡ true → e.0 ≢ tree.root
      by_test true at bad = absurd (let b : false ≡ true = bad in cc)
      by_test false at _ = grind (arith, at)

      same_is : (e.1.parent == d) ≡ true → e.1.parent ≡ d
      same_is t = grind (arith, t)

      by_parent : (t : Bool) → (not t && (e.1.parent == d)) ≡ true → e.1.parent ≡ d
      by_parent true bad = absurd (let b : false ≡ true = bad in cc)
      by_parent false t = same_is t

  is_one : (e : ℕ × Node) → e.0 ≢ tree.root → e.1.parent ≡ d → is_kid e ≡ true
  is_one e apart parent = ap (λ (t : Bool). not t && (e.1.parent == d)) (far e.0 tree.root apart) ∙ ap (λ (p : ℕ). p == d) parent ∙ self d
    where
      far : (a b : ℕ) → a ≢ b → (a == b) ≡ false
      far a b other = grind (arith, other)

      self : (a : ℕ) → (a == a) ≡ true
      self a = grind arith

  -- a name among them is that of an entry, and the other way round
  pub named_in : (es : List (ℕ × Node)) (z : List ℕ) → In z (names_of es) → (e : ℕ × Node) × In e es × (is_kid e ≡ true) × (e.1.name ≡ z)
  named_in [] z h = absurd h
  named_in (x ∷ xs) z h =
      elim (is_kid x) as (λ b. is_kid x ≡ b → In z (map (λ e. e.1.name) (cond b (x ∷ children_in tree.root d xs) (children_in tree.root d xs))) → (e : ℕ × Node) × In e (x ∷ xs) × (is_kid e ≡ true) × (e.1.name ≡ z)) [
        | true ↦ λ kid i. elim i as (λ _. (e : ℕ × Node) × In e (x ∷ xs) × (is_kid e ≡ true) × (e.1.name ≡ z)) [
          | inl same ↦ (x, inl refl, kid, sym same)
          | inr j ↦ let later = named_in xs z j in (later.0, inr later.1, later.2, later.3)
        ]
        | false ↦ λ _ i. let later = named_in xs z i in (later.0, inr later.1, later.2, later.3)
      ] refl h

  pub in_named : (es : List (ℕ × Node)) (e : ℕ × Node) → In e es → is_kid e ≡ true → In e.1.name (names_of es)
  in_named [] e h kid = absurd h
  in_named (x ∷ xs) e h kid =
      elim (is_kid x) as (λ b. is_kid x ≡ b → In e.1.name (map (λ e. e.1.name) (cond b (x ∷ children_in tree.root d xs) (children_in tree.root d xs)))) [
        | true ↦ λ _. elim h as (λ _. In e.1.name (x.1.name ∷ names_of xs)) [
          | inl same ↦ inl (ap (λ (y : ℕ × Node). y.1.name) same)
          | inr i ↦ inr (in_named xs e i kid)
        ]
        | false ↦ λ fails. elim h as (λ _. In e.1.name (names_of xs)) [
          | inl same ↦ let this : is_kid e ≡ false = ap is_kid same ∙ fails in cc
          | inr i ↦ in_named xs e i kid
        ]
      ] refl

  far_ids : (a b : ℕ) → is_lt (nat_cmp a b) ≡ true → a ≡ b → ⊥
  far_ids a b e same = grind (arith, e, same)

  distinct_names : (es : List (ℕ × Node)) → T (finite.is_sorted nat_cmp es) → ((e : ℕ × Node) → In e es → IsNode tree e.0 e.1) → Distinct (names_of es)
  distinct_names [] s all = tt
  distinct_names (x ∷ xs) s all =
      let rest : Distinct (names_of xs) = distinct_names xs (tail-true (below_all nat_cmp x.0 xs) (finite.is_sorted nat_cmp xs) s) (λ e i. all e (inr i)) in
      elim (is_kid x) as (λ b. is_kid x ≡ b → Distinct (map (λ e. e.1.name) (cond b (x ∷ children_in tree.root d xs) (children_in tree.root d xs)))) [
        | true ↦ λ kid. (
          λ y i same.
              let from = named_in xs y i in
              let here = kid_is x kid in
              let there = kid_is from.0 from.2 in
              let one : x.0 ≡ from.0.0 = plain.apart x.0 from.0.0 x.1 from.0.1 (all x (inl refl)) (all from.0 (inr from.1)) (here.1 ∙ sym there.1) (same ∙ sym from.3) in
              far_ids x.0 from.0.0 (true-is (is_lt (nat_cmp x.0 from.0.0)) (below-in x.0 xs from.0 (head-true (below_all nat_cmp x.0 xs) (finite.is_sorted nat_cmp xs) s) from.1)) one,
          rest,
        )
        | false ↦ λ _. rest
      ] refl

  sorted_names : IsStrictlySortedBy text_cmp (names_in tree d)
  sorted_names = ordered (names_of (entries tree.nodes)) [] (distinct_names (entries tree.nodes) (entries_sorted tree.nodes) (λ e i. node-of tree.nodes e i)) (λ x y i j. absurd j) nothing-sorted

  -- names that strictly ascend and are just those of the children
  pub names_are : (names : List (List ℕ)) → IsStrictlySortedBy text_cmp names → ((name : List ℕ) → In name names → (id : ℕ) × IsIn tree d name id) → ((name : List ℕ) (id : ℕ) → IsIn tree d name id → In name names) → names ≡ names_in tree d
  names_are names sorted from back = same-list text_cmp nat_list_cmp_total names (names_in tree d) sorted sorted_names
      (λ z i. let c : (id : ℕ) × IsIn tree d z id = from z i in
      let named : In c.1.node.name (names_of (entries tree.nodes)) = in_named (entries tree.nodes) (c.0, c.1.node) (entry-of tree.nodes c.0 c.1.node c.1.there) (is_one (c.0, c.1.node) c.1.not_root c.1.parent) in
      in-fold (names_of (entries tree.nodes)) [] z (inl (subst (λ (n : List ℕ). In n (names_of (entries tree.nodes))) c.1.named named)))
      (λ z i. by_fold z (fold-in (names_of (entries tree.nodes)) [] z i))
    where
      by_fold : (z : List ℕ) → In z (names_of (entries tree.nodes)) ⊎ In z [] → In z names
      by_fold z (inr j) = absurd j
      by_fold z (inl j) =
          let e = named_in (entries tree.nodes) z j in
          let k = kid_is e.0 e.2 in
          back z e.0.0 (record { node = e.0.1; there = node-of tree.nodes e.0 e.1; not_root = k.0; parent = k.1; named = e.3 })
