-- A row put among the rows of an attribute directory, and the attributes that they name.
use Rattle.std.proofs.Common.{◌≡◌, ◌⊎◌, inl, inr, ◌≤◌, ◌+◌, ℕ, List, [], ◌∷◌, ◌++◌, Bool, true, false, cond, Option, Some, None, refl, sym, ◌∙◌, ap, subst, arith}
use Rattle.std.specs.FinMap.{find, insert, from_entries, same_map, get-from_entries, get-insert, slice_cmp-IsAntisymmetric, nat_cmp-IsAntisymmetric}
use Rattle.std.specs.List.{filter, flat_map, AllByRecursion}
use Rattle.std.specs.Ordering.{eq_by_cmp}
use Rattle.std.specs.Cmp.Lexicographic.{nat_list_cmp_total}
use Rattle.std.specs.Str.{bytes_eq}
use Rattle.std.proofs.lemmas.Bool.{cases_Bool}
use Rattle.std.proofs.lemmas.List.Elements.{filter-append}
use Rattle.std.proofs.lemmas.Slice.Eq.{bytes_eq-Decides}
use Rattle.bfs_base.specs.Keys.{text_cmp}
use Rattle.bfs_base.specs.Lists.{times}
use Rattle.bfs_stream.proofs.Doubles.{times-append}
use Rattle.bfs_tree.specs.Trees.{Attribute}
use Rattle.bfs_sound.specs.Attributes.{Named}
use Rattle.bfs_sound.specs.Nodes.{AreApart}
use Rattle.bfs_attr.proofs.Apart.{entries_named, one_entry}
use Rattle.bfs_attr.proofs.Finds.{same_test}

-- in lists with one more among the others
pub filter_joined : {X : Type 0} (p : X → Bool) (xs ys : List X) (x : X) → p x ≡ true → filter p (xs ++ (x ∷ ys)) ≡ filter p xs ++ (x ∷ filter p ys)
filter_joined p xs ys x h = filter-append p xs (x ∷ ys) ∙ ap (λ (b : Bool). filter p xs ++ cond b (x ∷ filter p ys) (filter p ys)) h

pub all_joined : {X : Type 0} (P : X → Type 0) (xs ys : List X) (x : X) → P x → AllByRecursion P (xs ++ ys) → AllByRecursion P (xs ++ (x ∷ ys))
all_joined P [] ys x h all = (h, all)
all_joined P (y ∷ xs) ys x h all = (all.0, all_joined P xs ys x h all.1)

pub times_joined : {X : Type 0} (k : ℕ) (f : X → List ℕ) (xs ys : List X) (x : X) → times k (flat_map f (xs ++ (x ∷ ys))) ≡ times k (f x) + times k (flat_map f (xs ++ ys))
times_joined k f [] ys x = times-append k (f x) (flat_map f ys)
times_joined k f (y ∷ xs) ys x =
    let rest = times_joined k f xs ys x in
    let a = times-append k (f y) (flat_map f (xs ++ (x ∷ ys))) in
    let b = times-append k (f y) (flat_map f (xs ++ ys)) in
    omega (arith, a, b, rest)

-- how many have a name, with one more
pub named_joined : (q : List ℕ) (xs ys : List Named) (x : Named) → entries_named q (xs ++ (x ∷ ys)) ≡ cond (bytes_eq x.0 q) 1 0 + entries_named q (xs ++ ys)
named_joined q [] ys x = one_entry q x ys
named_joined q (y ∷ xs) ys x =
    let rest = named_joined q xs ys x in
    let a = one_entry q y (xs ++ (x ∷ ys)) in
    let b = one_entry q y (xs ++ ys) in
    let c : ℕ = cond (bytes_eq y.0 q) 1 0 in
    let d : ℕ = cond (bytes_eq x.0 q) 1 0 in
    omega (arith, a, b, rest)

-- none has a name that isn't found
pub none_named : (name : List ℕ) (es : List Named) → find text_cmp name es ≡ None → entries_named name es ≡ 0
none_named name [] e = refl
none_named name (x ∷ xs) e = one_entry name x xs ∙ by_test (eq_by_cmp text_cmp name x.0) (bytes_eq x.0 name) (same_test name x.0) e (none_named name xs)
  where
    by_test : (b c : Bool) → b ≡ c → cond b (Some x.1) (find text_cmp name xs) ≡ None → (find text_cmp name xs ≡ None → entries_named name xs ≡ 0) → cond c 1 0 + entries_named name xs ≡ 0
    by_test true true same e rest = let bad : Some x.1 ≡ None = e in cc
    by_test false false same e rest = let z = rest e in omega (arith, z)
    by_test true false same e rest = let bad : true ≡ false = same in cc
    by_test false true same e rest = let bad : false ≡ true = same in cc

pub apart_joined : (xs ys : List Named) (x : Named) → AreApart (xs ++ ys) → entries_named x.0 (xs ++ ys) ≡ 0 → AreApart (xs ++ (x ∷ ys))
apart_joined xs ys x apart none q = by_test (cases_Bool (bytes_eq x.0 q))
  where
    by_test : (bytes_eq x.0 q ≡ true) ⊎ (bytes_eq x.0 q ≡ false) → entries_named q (xs ++ (x ∷ ys)) ≤ 1
    by_test (inl same) =
        let a = named_joined q xs ys x in
        let b : cond {A = ℕ} (bytes_eq x.0 q) 1 0 ≡ 1 = ap (λ (t : Bool). cond {A = ℕ} t 1 0) same in
        let z : entries_named q (xs ++ ys) ≡ 0 = subst (λ (n : List ℕ). entries_named n (xs ++ ys) ≡ 0) ((bytes_eq-Decides x.0 q).0 same) none in
        omega (arith, a, b, z)
    by_test (inr differ) =
        let a = named_joined q xs ys x in
        let b : cond {A = ℕ} (bytes_eq x.0 q) 1 0 ≡ 0 = ap (λ (t : Bool). cond {A = ℕ} t 1 0) differ in
        let few : entries_named q (xs ++ ys) ≤ 1 = apart q in
        omega (arith, a, b, few)

module _ (x : Named) (ys : List Named) where
  rest_none : (b : Bool) (a : Attribute) (o : Option Attribute) → cond b (Some a) o ≡ None → o ≡ None
  rest_none true a o e = let bad : Some a ≡ None = e in cc
  rest_none false a o e = e

  swapped : (b c : Bool) (a : Attribute) (o : Option Attribute) → (b ≡ true → c ≡ true → ⊥) → cond b (Some a) (cond c (Some x.1) o) ≡ cond c (Some x.1) (cond b (Some a) o)
  swapped true true a o apart = absurd (apart refl refl)
  swapped true false a o apart = refl
  swapped false c a o apart = refl

  name_of : (q n : List ℕ) → eq_by_cmp text_cmp q n ≡ true → n ≡ q
  name_of q n e = (bytes_eq-Decides n q).0 (sym (same_test q n) ∙ e)

  differ : (q : List ℕ) (y : Named) (o : Option Attribute) → cond (eq_by_cmp text_cmp x.0 y.0) (Some y.1) o ≡ None → eq_by_cmp text_cmp q y.0 ≡ true → eq_by_cmp text_cmp q x.0 ≡ true → ⊥
  differ q y o none b c =
      let here : eq_by_cmp text_cmp x.0 y.0 ≡ true = ap (λ (n : List ℕ). eq_by_cmp text_cmp n y.0) (name_of q x.0 c) ∙ b in
      let bad : Some y.1 ≡ None = sym (ap (λ (t : Bool). cond t (Some y.1) o) here) ∙ none in cc

  -- what is found, with one more of a name that none has
  pub find_joined : (q : List ℕ) (xs : List Named) → find text_cmp x.0 (xs ++ ys) ≡ None → find text_cmp q (xs ++ (x ∷ ys)) ≡ cond (eq_by_cmp text_cmp q x.0) (Some x.1) (find text_cmp q (xs ++ ys))
  find_joined q [] none = refl
  find_joined q (y ∷ xs) none =
      ap (cond (eq_by_cmp text_cmp q y.0) (Some y.1)) (find_joined q xs (rest_none (eq_by_cmp text_cmp x.0 y.0) y.1 (find text_cmp x.0 (xs ++ ys)) none))
      ∙ swapped (eq_by_cmp text_cmp q y.0) (eq_by_cmp text_cmp q x.0) y.1 (find text_cmp q (xs ++ ys)) (differ q y (find text_cmp x.0 (xs ++ ys)) none)

  -- as maps
  pub map_joined : (xs : List Named) → find text_cmp x.0 (xs ++ ys) ≡ None → from_entries {R = text_cmp} (xs ++ (x ∷ ys)) ≡ insert (from_entries (xs ++ ys)) x.0 x.1
  map_joined xs none = same_map nat_list_cmp_total (slice_cmp-IsAntisymmetric nat_cmp-IsAntisymmetric) _ _ (λ q.
      get-from_entries nat_list_cmp_total (xs ++ (x ∷ ys)) q
      ∙ find_joined q xs none
      ∙ ap (cond (eq_by_cmp text_cmp q x.0) (Some x.1)) (sym (get-from_entries nat_list_cmp_total (xs ++ ys) q))
      ∙ sym (get-insert nat_list_cmp_total (from_entries (xs ++ ys)) x.0 x.1 q))
