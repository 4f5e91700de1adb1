-- A stable sort puts a list in order: of the lists that rise and keep the order of what ties, there is one.
use Rattle.std.proofs.Common.{◌≡◌, ◌≤◌, ◌<◌, ℕ, suc, List, [], ◌∷◌, ◌++◌, Bool, true, false, cond, Option, Some, None, length, get_or, refl, ap, sym, subst, ◌∙◌, append-nil, append_assoc, arith, map as each}
use Rattle.std.specs.Prelude.{not, ◌&&◌}
use Rattle.std.specs.List.{filter, fold, AllByRecursion, cons_option}
use Rattle.std.specs.Option.{option_map, option_map_or}
use Rattle.std.specs.List.Sorted.{IsSortedBy, IsStableBy, IsSortedByClosure, IsStableByClosure, ties}
use Rattle.std.specs.declared.cmp.Ordering.{Ordering}
use Rattle.std.specs.Ordering.{is_lt}
use Rattle.std.specs.Cmp.{IsStrictWeakOrder, IsTotalOrder, nat_cmp_total, int_cmp_total}
use Rattle.std.specs.Cmp.Lexicographic.{nat_list_cmp_total}
use Rattle.std.specs.Fn.{Called, ComparesAs}
use Rattle.std.proofs.Common.{Bor}
use denote.Param.Members.{Mut}
use Rattle.std.proofs.lemmas.Cmp.{then_total, on_total}
use Rattle.std.proofs.lemmas.Fn.{always_returns_same}
use Rattle.std.proofs.lemmas.List.Elements.{filter-append}
use Rattle.std.proofs.lemmas.List.Sorted.{sorted_far, ranks_by}
use Rattle.bfs_base.specs.Keys.{key_cmp, number_of}
use Rattle.bfs_base.specs.declared.kind.KeyKind.{KeyKind}
use Rattle.bfs_base.specs.declared.kind.KeyKind.TheVariants.{Text, I32, U32, I64, U64, F32, F64}
use Rattle.bfs_tree.specs.Orders.{placed, in_order}
use Rattle.bfs_tree.specs.Listings.{pair_cmp}

tied-both : (a b : Bool) → (not a && not b) ≡ true → (a ≡ false) × (b ≡ false)
tied-both true b e = cc
tied-both false true e = cc
tied-both false false e = (refl, refl)

first-of : {A : Type 0} {x y : A} {xs ys : List A} → (x ∷ xs) ≡ (y ∷ ys) → x ≡ y
first-of {A} {x} e = ap (λ l. get_or l 0 x) e

abbrev behind : {A : Type 0} → List A → List A
behind [] = []
behind (x ∷ xs) = xs

met : {A : Type 0} (P : A → Type 0) (q : A → Bool) (xs : List A) → AllByRecursion P xs → (z : A) (zs : List A) → filter q xs ≡ (z ∷ zs) → P z
met P q [] a z zs e = let n : 0 ≡ suc (length zs) = ap length e in absurd (omega (arith, n))
met P q (x ∷ xs) a z zs e = by (q x) (met P q xs a.1 z zs) e
  where
    by : (c : Bool) → (filter q xs ≡ (z ∷ zs) → P z) → cond c (x ∷ filter q xs) (filter q xs) ≡ (z ∷ zs) → P z
    by true h s = subst P (first-of s) a.0
    by false h s = h s

module _ {A : Type 0} (cmp : A → A → Ordering) (o : IsStrictWeakOrder (λ x y. is_lt (cmp x y))) where
  abbrev lt : A → A → Bool
  lt x y = is_lt (cmp x y)

  abbrev tied : A → A → Bool
  tied = ties lt

  -- no element is below one before it
  abbrev Rises : List A → Type 0
  Rises [] = Unit {0}
  Rises (x ∷ xs) = AllByRecursion (λ y. lt y x ≡ false) xs × Rises xs

  itself : (x : A) → lt x x ≡ false
  itself x = by (lt x x) refl
    where
      by : (c : Bool) → lt x x ≡ c → lt x x ≡ false
      by true e = o.one_way x x e
      by false e = e

  ties-itself : (x : A) → tied x x ≡ true
  ties-itself x = ap (λ b. not b && not b) (itself x)

  beyond : (x y z : A) → lt x y ≡ true → lt z y ≡ false → lt x z ≡ true
  beyond x y z l a = by (lt x z) refl
    where
      by : (c : Bool) → lt x z ≡ c → lt x z ≡ true
      by true e = e
      by false e = let bad : true ≡ false = sym l ∙ o.chain x z y e a in cc

  all-beyond : (x y : A) → lt x y ≡ true → (zs : List A) → AllByRecursion (λ z. lt z y ≡ false) zs → AllByRecursion (λ z. lt x z ≡ true) zs
  all-beyond x y l [] a = tt
  all-beyond x y l (z ∷ zs) a = (beyond x y z l a.0, all-beyond x y l zs a.1)

  all-above : (x : A) (zs : List A) → AllByRecursion (λ z. lt x z ≡ true) zs → AllByRecursion (λ z. lt z x ≡ false) zs
  all-above x [] a = tt
  all-above x (z ∷ zs) a = (o.one_way x z a.0, all-above x zs a.1)

  untied : (t x z : A) → tied t x ≡ true → lt x z ≡ true → tied t z ≡ false
  untied t x z e l = by (lt t z) refl
    where
      by : (c : Bool) → lt t z ≡ c → tied t z ≡ false
      by true b = ap (λ c. not c && not (lt z t)) b
      by false b = let bad : true ≡ false = sym l ∙ o.chain x t z (tied-both (lt t x) (lt x t) e).1 b in cc

  none-tied : (t x : A) → tied t x ≡ true → (zs : List A) → AllByRecursion (λ z. lt x z ≡ true) zs → filter (tied t) zs ≡ []
  none-tied t x e [] a = refl
  none-tied t x e (z ∷ zs) a = ap (λ b. cond b (z ∷ filter (tied t) zs) (filter (tied t) zs)) (untied t x z e a.0) ∙ none-tied t x e zs a.1

  -- what is put before elements that it is below might as well stand behind them, to those that tie
  front-or-end : (t x : A) (zs : List A) → AllByRecursion (λ z. lt x z ≡ true) zs → filter (tied t) (x ∷ zs) ≡ filter (tied t) (zs ++ (x ∷ []))
  front-or-end t x zs a = by (tied t x) refl
    where
      by : (c : Bool) → tied t x ≡ c → filter (tied t) (x ∷ zs) ≡ filter (tied t) (zs ++ (x ∷ []))
      by true e =
          let n : filter (tied t) zs ≡ [] = none-tied t x e zs a in
          ap (λ b. cond b (x ∷ filter (tied t) zs) (filter (tied t) zs)) e ∙ ap (λ l. x ∷ l) n
          ∙ sym (filter-append (tied t) zs (x ∷ []) ∙ ap (λ l. l ++ cond (tied t x) (x ∷ []) []) n ∙ ap (λ b. cond b (x ∷ []) []) e)
      by false e =
          ap (λ b. cond b (x ∷ filter (tied t) zs) (filter (tied t) zs)) e
          ∙ sym (filter-append (tied t) zs (x ∷ []) ∙ ap (λ b. filter (tied t) zs ++ cond b (x ∷ []) []) e ∙ append-nil (filter (tied t) zs))

  all-placed : (w x : A) (ys : List A) → lt x w ≡ false → AllByRecursion (λ z. lt z w ≡ false) ys → AllByRecursion (λ z. lt z w ≡ false) (placed cmp ys x)
  all-placed w x [] l a = (l, tt)
  all-placed w x (y ∷ ys) l a = by (lt x y) (all-placed w x ys l a.1)
    where
      by : (c : Bool) → AllByRecursion (λ z. lt z w ≡ false) (placed cmp ys x) → AllByRecursion (λ z. lt z w ≡ false) (cond c (x ∷ y ∷ ys) (y ∷ placed cmp ys x))
      by true ih = (l, a)
      by false ih = (a.0, ih)

  placed-rises : (x : A) (ys : List A) → Rises ys → Rises (placed cmp ys x)
  placed-rises x [] r = (tt, tt)
  placed-rises x (y ∷ ys) r = by (lt x y) refl (placed-rises x ys r.1)
    where
      by : (c : Bool) → lt x y ≡ c → Rises (placed cmp ys x) → Rises (cond c (x ∷ y ∷ ys) (y ∷ placed cmp ys x))
      by true e ih = ((o.one_way x y e, all-above x ys (all-beyond x y e ys r.0)), r)
      by false e ih = (all-placed y x ys e r.0, ih)

  placed-ties : (t x : A) (ys : List A) → Rises ys → filter (tied t) (placed cmp ys x) ≡ filter (tied t) (ys ++ (x ∷ []))
  placed-ties t x [] r = refl
  placed-ties t x (y ∷ ys) r = by (lt x y) refl (placed-ties t x ys r.1)
    where
      by : (c : Bool) → lt x y ≡ c → filter (tied t) (placed cmp ys x) ≡ filter (tied t) (ys ++ (x ∷ [])) → filter (tied t) (cond c (x ∷ y ∷ ys) (y ∷ placed cmp ys x)) ≡ filter (tied t) (y ∷ (ys ++ (x ∷ [])))
      by true e ih = front-or-end t x (y ∷ ys) (e, all-beyond x y e ys r.0)
      by false e ih = ap (λ l. cond (tied t y) (y ∷ l) l) ih

  order-rises : (acc xs : List A) → Rises acc → Rises (fold (placed cmp) acc xs)
  order-rises acc [] r = r
  order-rises acc (x ∷ xs) r = order-rises (placed cmp acc x) xs (placed-rises x acc r)

  order-ties : (t : A) (acc xs : List A) → Rises acc → filter (tied t) (fold (placed cmp) acc xs) ≡ filter (tied t) (acc ++ xs)
  order-ties t acc [] r = ap (filter (tied t)) (sym (append-nil acc))
  order-ties t acc (x ∷ xs) r =
      order-ties t (placed cmp acc x) xs (placed-rises x acc r) ∙ filter-append (tied t) (placed cmp acc x) xs
      ∙ ap (λ l. l ++ filter (tied t) xs) (placed-ties t x acc r)
      ∙ sym (filter-append (tied t) (acc ++ (x ∷ [])) xs)
      ∙ ap (filter (tied t)) (append_assoc acc (x ∷ []) xs)

  tied-first : (x : A) (xs : List A) → filter (tied x) (x ∷ xs) ≡ (x ∷ filter (tied x) xs)
  tied-first x xs = ap (λ b. cond b (x ∷ filter (tied x) xs) (filter (tied x) xs)) (ties-itself x)

  same-behind : (x : A) (xs ys : List A) → ((t : A) → filter (tied t) (x ∷ xs) ≡ filter (tied t) (x ∷ ys)) → (t : A) → filter (tied t) xs ≡ filter (tied t) ys
  same-behind x xs ys h t = by (tied t x) (h t)
    where
      by : (c : Bool) → cond c (x ∷ filter (tied t) xs) (filter (tied t) xs) ≡ cond c (x ∷ filter (tied t) ys) (filter (tied t) ys) → filter (tied t) xs ≡ filter (tied t) ys
      by true e = ap behind e
      by false e = e

  -- the first is least, and the first of those that tie with it
  same-list : (xs ys : List A) → Rises xs → Rises ys → ((t : A) → filter (tied t) xs ≡ filter (tied t) ys) → xs ≡ ys
  same-list [] [] r s h = refl
  same-list [] (y ∷ ys) r s h = let n : 0 ≡ suc (length (filter (tied y) ys)) = ap length (h y ∙ tied-first y ys) in absurd (omega (arith, n))
  same-list (x ∷ xs) [] r s h = let n : 0 ≡ suc (length (filter (tied x) xs)) = ap length (sym (h x) ∙ tied-first x xs) in absurd (omega (arith, n))
  same-list (x ∷ xs) (y ∷ ys) r s h =
      let a : lt y x ≡ false = met (λ z. lt z x ≡ false) (tied y) (x ∷ xs) (itself x, r.0) y (filter (tied y) ys) (h y ∙ tied-first y ys) in
      let b : lt x y ≡ false = met (λ z. lt z y ≡ false) (tied x) (y ∷ ys) (itself y, s.0) x (filter (tied x) xs) (sym (h x) ∙ tied-first x xs) in
      let t : tied x y ≡ true = ap (λ c. not c && not (lt y x)) b ∙ ap not a in
      let e : x ≡ y = first-of (sym (tied-first x xs) ∙ h x ∙ ap (λ c. cond c (y ∷ filter (tied x) ys) (filter (tied x) ys)) t) in
      ap (λ z. z ∷ xs) e ∙ ap (λ l. y ∷ l) (same-list xs ys r.1 s.1 (same-behind y xs ys (subst (λ z. (u : A) → filter (tied u) (z ∷ xs) ≡ filter (tied u) (y ∷ ys)) e h)))

  all-by : (x : A) (ys : List A) → ((j : ℕ) → j < length ys → lt (get_or ys j x) x ≡ false) → AllByRecursion (λ z. lt z x ≡ false) ys
  all-by x [] h = tt
  all-by x (y ∷ ys) h = (h 0 (omega arith), all-by x ys (λ j l. h (suc j) (omega (arith, l))))

  rises-by : (ys : List A) → ((i j : ℕ) (d : A) → i ≤ j → j < length ys → lt (get_or ys j d) (get_or ys i d) ≡ false) → Rises ys
  rises-by [] h = tt
  rises-by (y ∷ ys) h = (all-by y ys (λ j l. h 0 (suc j) y (omega arith) (omega (arith, l))), rises-by ys (λ i j d m l. h (suc i) (suc j) d (omega (arith, m)) (omega (arith, l))))

  pub sorted-is : (xs ys : List A) → IsSortedBy lt ys → IsStableBy lt xs ys → ys ≡ in_order cmp xs
  sorted-is xs ys s t =
      same-list ys (in_order cmp xs) (rises-by ys (λ i j d m l. sorted_far lt o ys s i j d m l)) (order-rises [] xs tt) (λ u. t u ∙ sym (order-ties u [] xs tt))

-- the same of elements as they are shown
module _ {A B : Type 0} (f : A → B) (cmp : B → B → Ordering) where
  each-placed : (xs : List A) (x : A) → each f (placed (λ a b. cmp (f a) (f b)) xs x) ≡ placed cmp (each f xs) (f x)
  each-placed [] x = refl
  each-placed (y ∷ ys) x = by (is_lt (cmp (f x) (f y))) (each-placed ys x)
    where
      by : (c : Bool) → each f (placed (λ a b. cmp (f a) (f b)) ys x) ≡ placed cmp (each f ys) (f x) → each f (cond c (x ∷ y ∷ ys) (y ∷ placed (λ a b. cmp (f a) (f b)) ys x)) ≡ cond c (f x ∷ f y ∷ each f ys) (f y ∷ placed cmp (each f ys) (f x))
      by true e = refl
      by false e = ap (λ l. f y ∷ l) e

  each-order : (acc xs : List A) → each f (fold (placed (λ a b. cmp (f a) (f b))) acc xs) ≡ fold (placed cmp) (each f acc) (each f xs)
  each-order acc [] = refl
  each-order acc (x ∷ xs) = each-order (placed (λ a b. cmp (f a) (f b)) acc x) xs ∙ ap (λ l. fold (placed cmp) l (each f xs)) (each-placed acc x)

  pub order-shown : (xs : List A) → each f (in_order (λ a b. cmp (f a) (f b)) xs) ≡ in_order cmp (each f xs)
  order-shown xs = each-order [] xs

pub key_cmp_total : (kind : KeyKind) → IsTotalOrder (key_cmp kind)
key_cmp_total Text = nat_list_cmp_total
key_cmp_total I32 = on_total (number_of I32) int_cmp_total
key_cmp_total U32 = on_total (number_of U32) int_cmp_total
key_cmp_total I64 = on_total (number_of I64) int_cmp_total
key_cmp_total U64 = on_total (number_of U64) int_cmp_total
key_cmp_total F32 = on_total (number_of F32) int_cmp_total
key_cmp_total F64 = on_total (number_of F64) int_cmp_total

pub pair_cmp_total : (kind : KeyKind) → IsTotalOrder (pair_cmp kind)
pair_cmp_total kind = then_total (on_total (λ (p : List ℕ × ℕ). p.0) (key_cmp_total kind)) (on_total (λ (p : List ℕ × ℕ). p.1) nat_cmp_total)

-- a list after a sort by a closure that compares as an order does
module _ {X : Type 0} (cmp : X → X → Ordering) (total : IsTotalOrder cmp) {F : Type 0} {g : Mut F (Bor X × (Bor X × Unit {0})) Ordering} {f : F} (xs ys : List X)
    (calls : (a : Bor X × (Bor X × Unit {0})) (r : Ordering) (f' : F) → Called g f a r f' → (r ≡ cmp a.0.now a.1.0.now) × (f' ≡ f)) where
  computes : ComparesAs g (λ x y. is_lt (cmp x y)) f
  computes = always_returns_same g (λ a r. is_lt r ≡ is_lt (cmp a.0.now a.1.0.now)) f (λ a r f' k. (ap is_lt (calls a r f' k).0, (calls a r f' k).1))

  pub sorted-by : IsSortedByClosure g f ys → IsStableByClosure g f xs ys → ys ≡ in_order cmp xs
  sorted-by sorted stable =
      let o : IsStrictWeakOrder (λ x y. is_lt (cmp x y)) = ranks_by total (λ (x : X). x) in
      sorted-is cmp o xs ys (sorted (λ x y. is_lt (cmp x y)) o computes) (stable (λ x y. is_lt (cmp x y)) o computes)

-- a pair that an index lists is added to those before it
pub pair-added : (ps : List (List ℕ × ℕ)) (id : ℕ) (key : Option (List ℕ)) (rest : List (List ℕ × ℕ)) → option_map_or (λ k. ps ++ ((k, id) ∷ [])) key ps ++ rest ≡ ps ++ cons_option (option_map (λ k. (k, id)) key) rest
pair-added ps id None rest = refl
pair-added ps id (Some k) rest = append_assoc ps ((k, id) ∷ []) rest
