-- Members of lists, and lists as finite maps.
use Rattle.std.proofs.Common.{◌≡◌, ◌≢◌, ◌≤◌, ◌+◌, inl, inr, ℕ, List, [], ◌∷◌, ◌++◌, Some, None, Bool, true, false, cond, ◌==◌, filter, length, map, refl, sym, ap, ◌∙◌, subst, arith}
use Rattle.std.specs.List.{flat_map}
use Rattle.std.specs.Cmp.{nat_cmp_total}
use Rattle.std.specs.Ordering.{nat_cmp, eq_by_cmp, is_eq}
use Rattle.std.specs.declared.cmp.Ordering.{Ordering}
use Rattle.std.specs.declared.cmp.Ordering.TheVariants.{Less, Equal, Greater}
use Rattle.std.specs.FinMap.{FinMap, entries, empty, from_entries, find, put, get-from_entries, entries-insert, get-entries, len-entries, len-empty}
use Rattle.std.specs.FinMap.Entries.{by_order as order_case}
use Rattle.bfs_base.specs.Lists.{times, IsOnce}
use Rattle.bfs_stream.proofs.Doubles.{times-append}
use Rattle.bfs_sound.specs.Owners.{In}

pub in_filter : {X : Type 0} (p : X → Bool) (x : X) (xs : List X) → In x (filter p xs) → In x xs × (p x ≡ true)
in_filter p x [] i = absurd i
in_filter p x (y ∷ ys) i = by_test (p y) refl i (λ j. in_filter p x ys j)
  where
    by_test : (c : Bool) → p y ≡ c → In x (cond c (y ∷ filter p ys) (filter p ys)) → (In x (filter p ys) → In x ys × (p x ≡ true)) → In x (y ∷ ys) × (p x ≡ true)
    by_test true e (inl same) ih = (inl same, ap p same ∙ e)
    by_test true e (inr i) ih = let r = ih i in (inr r.0, r.1)
    by_test false e i ih = let r = ih i in (inr r.0, r.1)

pub filter_in : {X : Type 0} (p : X → Bool) (x : X) (xs : List X) → In x xs → p x ≡ true → In x (filter p xs)
filter_in p x [] i e = absurd i
filter_in p x (y ∷ ys) (inl same) e = subst (λ c. In x (cond c (y ∷ filter p ys) (filter p ys))) (sym e ∙ ap p same) (inl same)
filter_in p x (y ∷ ys) (inr i) e = by_test (p y) (filter_in p x ys i e)
  where
    by_test : (c : Bool) → In x (filter p ys) → In x (cond c (y ∷ filter p ys) (filter p ys))
    by_test true i = inr i
    by_test false i = i

eq_yes : (a b : ℕ) → (a == b) ≡ true → a ≡ b
eq_yes a b e = grind (arith, e)

pub times_self : (k : ℕ) (xs : List ℕ) → 1 ≤ times k (k ∷ xs)
times_self k xs = by_test (k == k) refl
  where
    by_test : (c : Bool) → (k == k) ≡ c → 1 ≤ cond c 1 0 + times k xs
    by_test true e = omega arith
    by_test false e = absurd (grind (arith, e))

id_itself : (id : ℕ) → eq_by_cmp nat_cmp id id ≡ true
id_itself id = grind arith

id_other : (a b : ℕ) → a ≢ b → eq_by_cmp nat_cmp a b ≡ false
id_other a b apart = by_test (eq_by_cmp nat_cmp a b) refl
  where
    same_id : eq_by_cmp nat_cmp a b ≡ true → a ≡ b
    same_id t = grind (arith, t)

    by_test : (c : Bool) → eq_by_cmp nat_cmp a b ≡ c → c ≡ false
    by_test true t = absurd (apart (same_id t))
    by_test false t = refl

no_length : {X : Type 0} (xs : List X) → length xs ≡ 0 → xs ≡ []
no_length [] e = refl
no_length (x ∷ xs) e = absurd (omega (arith, e))

module _ {X : Type 0} where
  -- the numbers of entries
  abbrev pub numbers : List (ℕ × X) → List ℕ
  numbers es = map (λ e. e.0) es

  pub in_numbers : (es : List (ℕ × X)) (e : ℕ × X) → In e es → 1 ≤ times e.0 (numbers es)
  in_numbers [] e i = absurd i
  in_numbers (f ∷ fs) e (inl same) = subst (λ k. 1 ≤ times k (numbers (f ∷ fs))) (sym (ap (λ (p : ℕ × X). p.0) same)) (times_self f.0 (numbers fs))
  in_numbers (f ∷ fs) e (inr i) = let ih : 1 ≤ times e.0 (numbers fs) = in_numbers fs e i in omega (arith, ih)

  pub once_rest : (e : ℕ × X) (es : List (ℕ × X)) → IsOnce (numbers (e ∷ es)) → IsOnce (numbers es)
  once_rest e es once k = let one : times k (numbers (e ∷ es)) ≤ 1 = once k in omega (arith, one)

  -- the first stands nowhere behind
  pub once_first : (e : ℕ × X) (es : List (ℕ × X)) → IsOnce (numbers (e ∷ es)) → (f : ℕ × X) → In f es → f.0 ≢ e.0
  once_first e es once f i same =
      let one : times e.0 (numbers (e ∷ es)) ≤ 1 = once e.0 in
      let more : 1 ≤ times e.0 (numbers es) = subst (λ k. 1 ≤ times k (numbers es)) same (in_numbers es f i) in
      let own : 1 ≤ cond (e.0 == e.0) 1 0 = own_one (e.0 == e.0) refl in
      omega (arith, one, more, own)
    where
      own_one : (c : Bool) → (e.0 == e.0) ≡ c → 1 ≤ cond c 1 0
      own_one true h = omega arith
      own_one false h = absurd (grind (arith, h))

  pub found_in : (es : List (ℕ × X)) (id : ℕ) (x : X) → find nat_cmp id es ≡ Some x → In (id, x) es
  found_in [] id x h = absurd (no h)
    where
      no : None ≡ Some x → ⊥
      no h = cc
  found_in (e ∷ es) id x h = by_test (eq_by_cmp nat_cmp id e.0) refl h (λ s. found_in es id x s)
    where
      same_id : eq_by_cmp nat_cmp id e.0 ≡ true → id ≡ e.0
      same_id t = grind (arith, t)

      same_x : Some e.1 ≡ Some x → x ≡ e.1
      same_x s = cc

      by_test : (c : Bool) → eq_by_cmp nat_cmp id e.0 ≡ c → cond c (Some e.1) (find nat_cmp id es) ≡ Some x → (find nat_cmp id es ≡ Some x → In (id, x) es) → In (id, x) (e ∷ es)
      by_test true t s ih = let a = same_id t in let b = same_x s in inl (λ i. (a i, b i))
      by_test false t s ih = inr (ih s)

  pub in_found : (es : List (ℕ × X)) (id : ℕ) (x : X) → IsOnce (numbers es) → In (id, x) es → find nat_cmp id es ≡ Some x
  in_found [] id x once i = absurd i
  in_found (e ∷ es) id x once (inl same) =
      ap (λ c. cond c (Some e.1) (find nat_cmp id es)) (ap (λ (p : ℕ × X). eq_by_cmp nat_cmp id p.0) (sym same) ∙ id_itself id) ∙ ap (λ (p : ℕ × X). Some p.1) (sym same)
  in_found (e ∷ es) id x once (inr i) =
      ap (λ c. cond c (Some e.1) (find nat_cmp id es)) (id_other id e.0 (once_first e es once (id, x) i)) ∙ in_found es id x (once_rest e es once) i

  none_found : (es : List (ℕ × X)) (id : ℕ) → ((f : ℕ × X) → In f es → f.0 ≢ id) → find nat_cmp id es ≡ None
  none_found [] id apart = refl
  none_found (e ∷ es) id apart =
      ap (λ c. cond c (Some e.1) (find nat_cmp id es)) (id_other id e.0 (λ s. apart e (inl refl) (sym s))) ∙ none_found es id (λ f i. apart f (inr i))

  abbrev put_by : Ordering → ℕ → X → ℕ × X → List (ℕ × X) → List (ℕ × X)
  put_by Less id x e es = (id, x) ∷ e ∷ es
  put_by Equal id x e es = (e.0, x) ∷ es
  put_by Greater id x e es = e ∷ put nat_cmp id x es

  put_is : (id : ℕ) (x : X) (e : ℕ × X) (es : List (ℕ × X)) → put nat_cmp id x (e ∷ es) ≡ put_by (nat_cmp id e.0) id x e es
  put_is id x e es = by_order (nat_cmp id e.0) refl
    where
      by_order : (o : Ordering) → nat_cmp id e.0 ≡ o → put nat_cmp id x (e ∷ es) ≡ put_by o id x e es
      by_order Less h = ap (λ o. order_case o ((id, x) ∷ e ∷ es) ((e.0, x) ∷ es) (e ∷ put nat_cmp id x es)) h
      by_order Equal h = ap (λ o. order_case o ((id, x) ∷ e ∷ es) ((e.0, x) ∷ es) (e ∷ put nat_cmp id x es)) h
      by_order Greater h = ap (λ o. order_case o ((id, x) ∷ e ∷ es) ((e.0, x) ∷ es) (e ∷ put nat_cmp id x es)) h

  -- a new entry put among others
  times_put : (k : ℕ) (f : ℕ × X → List ℕ) (es : List (ℕ × X)) (id : ℕ) (x : X) → find nat_cmp id es ≡ None
      → times k (flat_map f (put nat_cmp id x es)) ≡ times k (f (id, x)) + times k (flat_map f es)
  times_put k f [] id x none = times-append k (f (id, x)) []
  times_put k f (e ∷ es) id x none = by_order (nat_cmp id e.0) refl none (λ n. times_put k f es id x n)
    where
      no : Some e.1 ≡ None → ⊥
      no h = cc

      by_order : (o : Ordering) → nat_cmp id e.0 ≡ o → cond (is_eq o) (Some e.1) (find nat_cmp id es) ≡ None
          → (find nat_cmp id es ≡ None → times k (flat_map f (put nat_cmp id x es)) ≡ times k (f (id, x)) + times k (flat_map f es))
          → times k (flat_map f (put nat_cmp id x (e ∷ es))) ≡ times k (f (id, x)) + times k (flat_map f (e ∷ es))
      by_order Less h n ih = ap (λ l. times k (flat_map f l)) (put_is id x e es) ∙ ap (λ o. times k (flat_map f (put_by o id x e es))) h ∙ times-append k (f (id, x)) (flat_map f (e ∷ es))
      by_order Equal h n ih = absurd (no n)
      by_order Greater h n ih =
          ap (λ l. times k (flat_map f l)) (put_is id x e es) ∙ ap (λ o. times k (flat_map f (put_by o id x e es))) h
          ∙ (let rest = ih n in
          let a : times k (f e ++ flat_map f (put nat_cmp id x es)) ≡ times k (f e) + times k (flat_map f (put nat_cmp id x es)) = times-append k (f e) (flat_map f (put nat_cmp id x es)) in
          let b : times k (f e ++ flat_map f es) ≡ times k (f e) + times k (flat_map f es) = times-append k (f e) (flat_map f es) in
          omega (arith, rest, a, b))

  -- the entries of the map of a list are those of the list
  pub times_entries : (k : ℕ) (f : ℕ × X → List ℕ) (es : List (ℕ × X)) → IsOnce (numbers es) → times k (flat_map f (entries (from_entries {R = nat_cmp} es))) ≡ times k (flat_map f es)
  times_entries k f [] once = ap (λ l. times k (flat_map f l)) (no_length (entries (empty {X = X} {R = nat_cmp})) (sym (len-entries (empty {X = X} {R = nat_cmp})) ∙ len-empty nat_cmp X))
  times_entries k f (e ∷ es) once =
      let m : FinMap nat_cmp X = from_entries {R = nat_cmp} es in
      let ih : times k (flat_map f (entries m)) ≡ times k (flat_map f es) = times_entries k f es (once_rest e es once) in
      let new : find nat_cmp e.0 (entries m) ≡ None = sym (get-entries m e.0) ∙ get-from_entries nat_cmp_total es e.0 ∙ none_found es e.0 (once_first e es once) in
      let one : times k (flat_map f (put nat_cmp e.0 e.1 (entries m))) ≡ times k (f e) + times k (flat_map f (entries m)) = times_put k f (entries m) e.0 e.1 new in
      let a : times k (f e ++ flat_map f es) ≡ times k (f e) + times k (flat_map f es) = times-append k (f e) (flat_map f es) in
      ap (λ l. times k (flat_map f l)) (entries-insert nat_cmp_total m e.0 e.1) ∙ omega (arith, one, ih, a)
