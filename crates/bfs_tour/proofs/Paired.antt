-- Lists that rise and have the same members are the same.
use Rattle.std.proofs.Common.{◌≡◌, ◌≤◌, ◌+◌, ◌⊎◌, inl, inr, ⊎_elim, ℕ, List, [], ◌∷◌, Option, Some, None, Bool, true, false, cond, ◌==◌, refl, sym, ap, ap₂, ◌∙◌, subst}
use Rattle.std.specs.Prelude.{◌↔◌}
use Rattle.std.specs.List.{AllByRecursion, cons_option, fold, flat_map}
use Rattle.std.specs.Option.{option_map}
use Rattle.std.specs.Cmp.{IsTotalOrder, nat_cmp_total, then_flip}
use Rattle.std.specs.Ordering.{nat_cmp, ordering_then, ordering_reverse, is_lt, is_eq}
use Rattle.std.specs.declared.cmp.Ordering.{Ordering}
use Rattle.std.specs.declared.cmp.Ordering.TheVariants.{Less, Equal, Greater}
use Rattle.std.specs.FinMap.{entries, from_entries, FinMap, get-entries, get-from_entries, nat_cmp-IsAntisymmetric}
use Rattle.bfs_base.specs.Lists.{times, IsOnce}
use Rattle.bfs_base.specs.Keys.{key_cmp}
use Rattle.bfs_base.specs.declared.kind.KeyKind.{KeyKind}
use Rattle.bfs_node.proofs.Order.{key_cmp_total}
use Rattle.bfs_tree.specs.Orders.{placed, in_order}
use Rattle.bfs_tree.specs.Listings.{pair_cmp, pairs_in, key_in}
use Rattle.bfs_tree.specs.Trees.{Node}
use Rattle.bfs_sound.specs.Owners.{In}
use Rattle.bfs_tour.specs.Pairs.{Rises, GatheredAreListed, PairsAreListed}
use Rattle.bfs_tour.proofs.Members.{numbers, once_first, once_rest, found_in, in_found, times_entries}
use Rattle.bfs_finding.proofs.Rows.{all_in}

no_less : (o : Ordering) → o ≡ Less → ordering_reverse o ≡ Less → ⊥
no_less Less e f = absurd (no f)
  where
    no : Greater ≡ Less → ⊥
    no h = subst (λ r. cond (is_lt r) ⊥ (Unit {0})) h tt
no_less Equal e f = absurd (subst (λ r. cond (is_lt r) ⊥ (Unit {0})) e tt)
no_less Greater e f = absurd (subst (λ r. cond (is_lt r) ⊥ (Unit {0})) e tt)

-- an order for lists that rise: less goes on, and goes one way
pub record IsOrder {X : Type 0} (cmp : X → X → Ordering) : Type 0 where
  pub turns : (x y : X) → cmp x y ≡ ordering_reverse (cmp y x)
  pub goes_on : (x y z : X) → cmp x y ≡ Less → cmp y z ≡ Less → cmp x z ≡ Less

module _ {X : Type 0} (cmp : X → X → Ordering) (o : IsOrder cmp) where
  one_way : (x y : X) → cmp x y ≡ Less → cmp y x ≡ Less → ⊥
  one_way x y a b = no_less (cmp y x) b (sym (o.turns x y) ∙ a)

  not_own : (x : X) → cmp x x ≡ Less → ⊥
  not_own x a = one_way x x a a

  in_tail : (x y z : X) (ys : List X) → x ≡ y → cmp x z ≡ Less → In z (y ∷ ys) → In z ys
  in_tail x y z ys same less (inl e) = absurd (not_own x (subst (λ w. cmp x w ≡ Less) (e ∙ sym same) less))
  in_tail x y z ys same less (inr i) = i

  first_same : (x y : X) (xs ys : List X) → Rises cmp (x ∷ xs) → Rises cmp (y ∷ ys) → In x (y ∷ ys) → In y (x ∷ xs) → x ≡ y
  first_same x y xs ys r s (inl e) j = e
  first_same x y xs ys r s (inr i) (inl e) = sym e
  first_same x y xs ys r s (inr i) (inr j) = absurd (one_way x y (all_in (λ w. cmp x w ≡ Less) xs y r.0 j) (all_in (λ w. cmp y w ≡ Less) ys x s.0 i))

  pub rise_same : (xs ys : List X) → Rises cmp xs → Rises cmp ys → ((z : X) → In z xs ↔ In z ys) → xs ≡ ys
  rise_same [] [] r s same = refl
  rise_same [] (y ∷ ys) r s same = absurd ((same y).1 (inl refl))
  rise_same (x ∷ xs) [] r s same = absurd ((same x).0 (inl refl))
  rise_same (x ∷ xs) (y ∷ ys) r s same =
      let e : x ≡ y = first_same x y xs ys r s ((same x).0 (inl refl)) ((same y).1 (inl refl)) in
      let rest : (z : X) → In z xs ↔ In z ys =
      λ z. (λ i. in_tail x y z ys e (all_in (λ w. cmp x w ≡ Less) xs z r.0 i) ((same z).0 (inr i)), λ i. in_tail y x z xs (sym e) (all_in (λ w. cmp y w ≡ Less) ys z s.0 i) ((same z).1 (inr i))) in
      ap₂ (λ a b. a ∷ b) e (rise_same xs ys r.1 s.1 rest)

  -- putting in place
  all_placed : (P : X → Type 0) (ys : List X) (x : X) → AllByRecursion P ys → P x → AllByRecursion P (placed cmp ys x)
  all_placed P [] x a p = (p, tt)
  all_placed P (y ∷ ys) x a p = by_test (is_lt (cmp x y)) (all_placed P ys x a.1 p)
    where
      by_test : (c : Bool) → AllByRecursion P (placed cmp ys x) → AllByRecursion P (cond c (x ∷ y ∷ ys) (y ∷ placed cmp ys x))
      by_test true ih = (p, a)
      by_test false ih = (a.0, ih)

  all_on : (x y : X) (ys : List X) → cmp x y ≡ Less → AllByRecursion (λ w. cmp y w ≡ Less) ys → AllByRecursion (λ w. cmp x w ≡ Less) ys
  all_on x y [] l a = tt
  all_on x y (z ∷ zs) l a = (o.goes_on x y z l a.0, all_on x y zs l a.1)

  is_less : (x y : X) → is_lt (cmp x y) ≡ true → cmp x y ≡ Less
  is_less x y e = by (cmp x y) e
    where
      no : false ≡ true → ⊥
      no h = cc

      by : (r : Ordering) → is_lt r ≡ true → r ≡ Less
      by Less h = refl
      by Equal h = absurd (no h)
      by Greater h = absurd (no h)

  is_more : (x y : X) → is_lt (cmp x y) ≡ false → (cmp x y ≡ Equal → ⊥) → cmp y x ≡ Less
  is_more x y e apart = o.turns y x ∙ by (cmp x y) e apart
    where
      no : true ≡ false → ⊥
      no h = cc

      by : (r : Ordering) → is_lt r ≡ false → (r ≡ Equal → ⊥) → ordering_reverse r ≡ Less
      by Less h a = absurd (no h)
      by Equal h a = absurd (a refl)
      by Greater h a = refl

  placed_rises : (ys : List X) (x : X) → Rises cmp ys → ((y : X) → In y ys → cmp x y ≡ Equal → ⊥) → Rises cmp (placed cmp ys x)
  placed_rises [] x r apart = (tt, tt)
  placed_rises (y ∷ ys) x r apart = by_test (is_lt (cmp x y)) refl (placed_rises ys x r.1 (λ z i. apart z (inr i)))
    where
      by_test : (c : Bool) → is_lt (cmp x y) ≡ c → Rises cmp (placed cmp ys x) → Rises cmp (cond c (x ∷ y ∷ ys) (y ∷ placed cmp ys x))
      by_test true e ih = let l = is_less x y e in ((l, all_on x y ys l r.0), r)
      by_test false e ih = (all_placed (λ w. cmp y w ≡ Less) ys x r.0 (is_more x y e (apart y (inl refl))), ih)

  placed_in : (ys : List X) (x z : X) → In z (placed cmp ys x) → In z (x ∷ ys)
  placed_in [] x z i = i
  placed_in (y ∷ ys) x z i = by_test (is_lt (cmp x y)) i (λ j. placed_in ys x z j)
    where
      by_test : (c : Bool) → In z (cond c (x ∷ y ∷ ys) (y ∷ placed cmp ys x)) → (In z (placed cmp ys x) → In z (x ∷ ys)) → In z (x ∷ y ∷ ys)
      by_test true i ih = i
      by_test false (inl e) ih = inr (inl e)
      by_test false (inr i) ih = ⊎_elim (λ e. inl e) (λ j. inr (inr j)) (ih i)

  in_placed : (ys : List X) (x z : X) → In z (x ∷ ys) → In z (placed cmp ys x)
  in_placed [] x z i = i
  in_placed (y ∷ ys) x z i = by_test (is_lt (cmp x y)) i (λ j. in_placed ys x z j)
    where
      by_test : (c : Bool) → In z (x ∷ y ∷ ys) → (In z (x ∷ ys) → In z (placed cmp ys x)) → In z (cond c (x ∷ y ∷ ys) (y ∷ placed cmp ys x))
      by_test true i ih = i
      by_test false (inl e) ih = inr (ih (inl e))
      by_test false (inr (inl e)) ih = inl e
      by_test false (inr (inr j)) ih = inr (ih (inr j))

  -- no two elements tie
  abbrev Apart : List X → Type 0
  Apart [] = Unit {0}
  Apart (x ∷ xs) = ((y : X) → In y xs → cmp x y ≡ Equal → ⊥) × Apart xs

  -- what was put in order rises, and has the members
  fold_rises : (xs acc : List X) → Rises cmp acc → Apart xs → ((x y : X) → In x xs → In y acc → cmp x y ≡ Equal → ⊥) → Rises cmp (fold (placed cmp) acc xs)
  fold_rises [] acc r a between = r
  fold_rises (x ∷ xs) acc r a between =
      fold_rises xs (placed cmp acc x) (placed_rises acc x r (λ y i. between x y (inl refl) i)) a.1
      (λ w y i j. ⊎_elim (λ e. λ tie. a.0 w i (turned x w (subst (λ v. cmp w v ≡ Equal) e tie))) (λ k. between w y (inr i) k) (placed_in acc x y j))
    where
      turned : (x w : X) → cmp w x ≡ Equal → cmp x w ≡ Equal
      turned x w e = o.turns x w ∙ ap ordering_reverse e

  fold_in : (xs acc : List X) (z : X) → In z (fold (placed cmp) acc xs) → In z xs ⊎ In z acc
  fold_in [] acc z i = inr i
  fold_in (x ∷ xs) acc z i = ⊎_elim (λ j. inl (inr j)) (λ j. ⊎_elim (λ e. inl (inl e)) (λ k. inr k) (placed_in acc x z j)) (fold_in xs (placed cmp acc x) z i)

  in_fold : (xs acc : List X) (z : X) → In z xs ⊎ In z acc → In z (fold (placed cmp) acc xs)
  in_fold [] acc z (inl i) = absurd i
  in_fold [] acc z (inr i) = i
  in_fold (x ∷ xs) acc z (inl (inl e)) = in_fold xs (placed cmp acc x) z (inr (in_placed acc x z (inl e)))
  in_fold (x ∷ xs) acc z (inl (inr i)) = in_fold xs (placed cmp acc x) z (inl i)
  in_fold (x ∷ xs) acc z (inr i) = in_fold xs (placed cmp acc x) z (inr (in_placed acc x z (inr i)))

  order_rises : (xs : List X) → Apart xs → Rises cmp (in_order cmp xs)
  order_rises xs a = fold_rises xs [] tt a (λ x y i j. absurd j)

  order_in : (xs : List X) (z : X) → In z (in_order cmp xs) ↔ In z xs
  order_in xs z = (λ i. ⊎_elim (λ j. j) (λ j. absurd j) (fold_in xs [] z i), λ i. in_fold xs [] z (inl i))

  pub order_same : (xs ys : List X) → Apart xs → Rises cmp ys → ((z : X) → In z ys ↔ In z xs) → ys ≡ in_order cmp xs
  order_same xs ys a r same =
      rise_same ys (in_order cmp xs) r (order_rises xs a) (λ z. (λ i. (order_in xs z).1 ((same z).0 i), λ i. (same z).1 ((order_in xs z).0 i)))

-- pairs
then_less : (a b : Ordering) → ordering_then a b ≡ Less → (a ≡ Less) ⊎ ((a ≡ Equal) × (b ≡ Less))
then_less Less b e = inl refl
then_less Equal b e = inr (refl, e)
then_less Greater b e = inl e

then_equal : (a b : Ordering) → ordering_then a b ≡ Equal → b ≡ Equal
then_equal Less b e = absurd (subst (λ r. cond (is_eq r) ⊥ (Unit {0})) e tt)
then_equal Equal b e = e
then_equal Greater b e = absurd (subst (λ r. cond (is_eq r) ⊥ (Unit {0})) e tt)

pair_order : (kind : KeyKind) → IsOrder (pair_cmp kind)
pair_order kind = record {
  turns = λ x y. ap₂ ordering_then (k.antisymm x.0 y.0) (nat_cmp_total.antisymm x.1 y.1) ∙ then_flip (key_cmp kind y.0 x.0) (nat_cmp y.1 x.1);
  goes_on = λ x y z a b. ⊎_elim
      (λ xy. ⊎_elim (λ yz. less x z (k.trans x.0 y.0 z.0 xy yz)) (λ yz. less x z (right x.0 y.0 z.0 xy yz.0)) (then_less (key_cmp kind y.0 z.0) (nat_cmp y.1 z.1) b))
      (λ xy. ⊎_elim (λ yz. less x z (k.congr x.0 y.0 z.0 xy.0 ∙ yz))
      (λ yz. ap₂ ordering_then (k.congr x.0 y.0 z.0 xy.0 ∙ yz.0) (nat_cmp_total.trans x.1 y.1 z.1 xy.1 yz.1)) (then_less (key_cmp kind y.0 z.0) (nat_cmp y.1 z.1) b))
      (then_less (key_cmp kind x.0 y.0) (nat_cmp x.1 y.1) a);
}
  where
    k : IsTotalOrder (key_cmp kind)
    k = key_cmp_total kind

    less : (x z : List ℕ × ℕ) → key_cmp kind x.0 z.0 ≡ Less → pair_cmp kind x z ≡ Less
    less x z e = ap (λ r. ordering_then r (nat_cmp x.1 z.1)) e

    right : (a b c : List ℕ) → key_cmp kind a b ≡ Less → key_cmp kind b c ≡ Equal → key_cmp kind a c ≡ Less
    right a b c l e =
        let back : key_cmp kind b a ≡ key_cmp kind c a = (key_cmp_total kind).congr b c a e in
        (key_cmp_total kind).antisymm a c ∙ ap ordering_reverse (sym back) ∙ sym ((key_cmp_total kind).antisymm a b) ∙ l

module _ (root : ℕ) (index : List ℕ) (kind : KeyKind) where
  -- a pair has the number of an entry
  pair_from : (es : List (ℕ × Node)) (p : List ℕ × ℕ) → In p (pairs_in root index kind es) → (e : ℕ × Node) × In e es × (key_in root index kind e.0 e.1 ≡ Some p.0) × (p.1 ≡ e.0)
  pair_from [] p i = absurd i
  pair_from (e ∷ es) p i = by_key (key_in root index kind e.0 e.1) refl i (λ j. pair_from es p j)
    where
      by_key : (o : Option (List ℕ)) → key_in root index kind e.0 e.1 ≡ o → In p (cons_option (option_map (λ key. (key, e.0)) o) (pairs_in root index kind es))
          → (In p (pairs_in root index kind es) → (f : ℕ × Node) × In f es × (key_in root index kind f.0 f.1 ≡ Some p.0) × (p.1 ≡ f.0))
          → (f : ℕ × Node) × In f (e ∷ es) × (key_in root index kind f.0 f.1 ≡ Some p.0) × (p.1 ≡ f.0)
      by_key None h i ih = let r = ih i in (r.0, inr r.1, r.2, r.3)
      by_key (Some key) h (inl same) ih = (e, inl refl, h ∙ ap (λ (q : List ℕ × ℕ). Some q.0) (sym same), ap (λ (q : List ℕ × ℕ). q.1) same)
      by_key (Some key) h (inr i) ih = let r = ih i in (r.0, inr r.1, r.2, r.3)

  pair_to : (es : List (ℕ × Node)) (e : ℕ × Node) (key : List ℕ) → In e es → key_in root index kind e.0 e.1 ≡ Some key → In (key, e.0) (pairs_in root index kind es)
  pair_to [] e key i h = absurd i
  pair_to (f ∷ fs) e key (inl same) h =
      let there : key_in root index kind f.0 f.1 ≡ Some key = subst (λ (x : ℕ × Node). key_in root index kind x.0 x.1 ≡ Some key) same h in
      subst (λ o. In (key, e.0) (cons_option (option_map (λ k. (k, f.0)) o) (pairs_in root index kind fs))) (sym there) (inl (ap (λ (x : ℕ × Node). (key, x.0)) same))
  pair_to (f ∷ fs) e key (inr i) h = by_key (key_in root index kind f.0 f.1) (pair_to fs e key i h)
    where
      by_key : (o : Option (List ℕ)) → In (key, e.0) (pairs_in root index kind fs) → In (key, e.0) (cons_option (option_map (λ k. (k, f.0)) o) (pairs_in root index kind fs))
      by_key None i = i
      by_key (Some k) i = inr i

  pairs_apart : (es : List (ℕ × Node)) → IsOnce (numbers es) → Apart (pair_cmp kind) (pair_order kind) (pairs_in root index kind es)
  pairs_apart [] once = tt
  pairs_apart (e ∷ es) once = by_key (key_in root index kind e.0 e.1) (pairs_apart es (once_rest e es once))
    where
      by_key : (o : Option (List ℕ)) → Apart (pair_cmp kind) (pair_order kind) (pairs_in root index kind es) → Apart (pair_cmp kind) (pair_order kind) (cons_option (option_map (λ k. (k, e.0)) o) (pairs_in root index kind es))
      by_key None ih = ih
      by_key (Some key) ih = (
        λ y i tie.
            let f = pair_from es y i in
            let same : e.0 ≡ y.1 = nat_cmp-IsAntisymmetric e.0 y.1 (then_equal (key_cmp kind key y.0) (nat_cmp e.0 y.1) tie) in
            once_first e es once f.0 f.1 (sym (same ∙ f.3)),
        ih,
      )

  pairs_over : (es fs : List (ℕ × Node)) → ((e : ℕ × Node) → In e es → In e fs) → (p : List ℕ × ℕ) → In p (pairs_in root index kind es) → In p (pairs_in root index kind fs)
  pairs_over es fs over p i =
      let f = pair_from es p i in
      let number = f.3 in
      subst (λ k. In (p.0, k) (pairs_in root index kind fs)) (sym number) (pair_to fs f.0 p.0 (over f.0 f.1) f.2)

-- entries of a map of a list
times_numbers : {X : Type 0} (k : ℕ) (es : List (ℕ × X)) → times k (numbers es) ≡ times k (flat_map (λ (e : ℕ × X). e.0 ∷ []) es)
times_numbers k [] = refl
times_numbers k (e ∷ es) = ap (λ n. cond (e.0 == k) 1 0 + n) (times_numbers k es)

module _ {X : Type 0} (visits : List (ℕ × X)) (once : IsOnce (numbers visits)) where
  the_map : FinMap nat_cmp X
  the_map = from_entries {R = nat_cmp} visits

  entries_once : IsOnce (numbers (entries (from_entries {R = nat_cmp} visits)))
  entries_once k =
      subst (λ n. n ≤ 1) (times_numbers k visits ∙ sym (times_entries k (λ (e : ℕ × X). e.0 ∷ []) visits once) ∙ sym (times_numbers k (entries (from_entries {R = nat_cmp} visits)))) (once k)

  visit_entry : (e : ℕ × X) → In e visits → In e (entries (from_entries {R = nat_cmp} visits))
  visit_entry e i =
      found_in (entries (from_entries {R = nat_cmp} visits)) e.0 e.1
      (sym (get-entries (from_entries {R = nat_cmp} visits) e.0) ∙ get-from_entries nat_cmp_total visits e.0 ∙ in_found visits e.0 e.1 once i)

  entry_visit : (e : ℕ × X) → In e (entries (from_entries {R = nat_cmp} visits)) → In e visits
  entry_visit e i =
      found_in visits e.0 e.1
      (sym (get-from_entries nat_cmp_total visits e.0) ∙ get-entries (from_entries {R = nat_cmp} visits) e.0 ∙ in_found (entries (from_entries {R = nat_cmp} visits)) e.0 e.1 entries_once i)

pub pairs_listed : PairsAreListed
pairs_listed root index kind visits pairs once rises same =
    let all : List (ℕ × Node) = entries (from_entries {R = nat_cmp} visits) in
    order_same (pair_cmp kind) (pair_order kind) (pairs_in root index kind all) pairs (pairs_apart root index kind all (entries_once visits once)) rises
    (λ p. (λ i. pairs_over root index kind visits all (visit_entry visits once) p ((same p).0 i), λ i. (same p).1 (pairs_over root index kind all visits (entry_visit visits once) p i)))

pub gathered_listed : GatheredAreListed
gathered_listed root index kind visits gathered once apart same =
    let all : List (ℕ × Node) = entries (from_entries {R = nat_cmp} visits) in
    let pairs : List (List ℕ × ℕ) = pairs_in root index kind gathered in
    order_same (pair_cmp kind) (pair_order kind) (pairs_in root index kind all) (in_order (pair_cmp kind) pairs) (pairs_apart root index kind all (entries_once visits once))
    (order_rises (pair_cmp kind) (pair_order kind) pairs (pairs_apart root index kind gathered apart))
    (λ p. (
      λ i. pairs_over root index kind gathered all (λ e j. visit_entry visits once e ((same e).0 j)) p ((order_in (pair_cmp kind) (pair_order kind) pairs p).0 i),
      λ i. (order_in (pair_cmp kind) (pair_order kind) pairs p).1 (pairs_over root index kind all gathered (λ e j. (same e).1 (entry_visit visits once e j)) p i),
    ))
