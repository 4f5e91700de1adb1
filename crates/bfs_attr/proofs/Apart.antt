-- No two names where an item was put or taken.
use Rattle.std.proofs.Common.{◌≡◌, ◌⊎◌, inl, inr, ◌≤◌, ◌+◌, ℕ, List, [], ◌∷◌, ◌++◌, Bool, true, false, cond, Some, None, refl, sym, ◌∙◌, ap, subst, arith}
use Rattle.std.specs.Prelude.{count_by}
use Rattle.std.specs.Str.{bytes_eq}
use Rattle.std.proofs.lemmas.Bool.{cases_Bool, cond-true, cond-false}
use Rattle.std.proofs.lemmas.List.Sums.{sum_by-cons, sum_by-append}
use Rattle.std.proofs.lemmas.Slice.Eq.{bytes_eq-Decides}
use Rattle.bfs_smalldata.specs.Items.{Item}
use Rattle.bfs_smalldata.specs.Edits.{AreDistinct, with_item, without, named}
use Rattle.bfs_smalldata.proofs.Naming.{same_name, named_first, named_later}
use Rattle.bfs_sound.specs.Attributes.{Named, own_name, is_name_item, attributes_in}
use Rattle.bfs_sound.specs.Nodes.{AreApart}
use Rattle.bfs_attr.specs.Laws.{HasNone}
use Rattle.bfs_attr.specs.SmallData.{HasAttribute}
use Rattle.bfs_attr.proofs.Finds.{entry}
use Rattle.bfs_attr.proofs.Changes.{other_item, front_is, front_none}

-- how many of these have a name
abbrev pub items_named : List ℕ → List Item → ℕ
items_named q items = count_by (λ item. bytes_eq item.name q) items

abbrev pub entries_named : List ℕ → List Named → ℕ
entries_named q entries = count_by (λ e. bytes_eq e.0 q) entries

pub one_item : (q : List ℕ) (x : Item) (xs : List Item) → items_named q (x ∷ xs) ≡ cond (bytes_eq x.name q) 1 0 + items_named q xs
one_item q x xs = sum_by-cons (λ (i : Item). cond (bytes_eq i.name q) 1 0) x xs

pub one_entry : (q : List ℕ) (e : Named) (es : List Named) → entries_named q (e ∷ es) ≡ cond (bytes_eq e.0 q) 1 0 + entries_named q es
one_entry q e es = sum_by-cons (λ (n : Named). cond (bytes_eq n.0 q) 1 0) e es

both_entries : (q : List ℕ) (xs ys : List Named) → entries_named q (xs ++ ys) ≡ entries_named q xs + entries_named q ys
both_entries q xs ys = sum_by-append (λ (n : Named). cond (bytes_eq n.0 q) 1 0) xs ys

test_most : (b : Bool) → cond b 1 0 ≤ 1
test_most true = omega arith
test_most false = omega arith

-- what differs from a name isn't one that is the same
still_differs : (x n q : List ℕ) → bytes_eq x n ≡ false → bytes_eq n q ≡ true → bytes_eq x q ≡ false
still_differs x n q differ same = sym (ap (bytes_eq x) ((bytes_eq-Decides n q).0 same)) ∙ differ

-- an item put in the place of one of its name
replaced : (new x : Item) (xs : List Item) → bytes_eq x.name new.name ≡ true → with_item new (x ∷ xs) ≡ new ∷ xs
replaced new x xs same = cond-true (bytes_eq x.name new.name) (new ∷ xs) (x ∷ with_item new xs) same

passed : (new x : Item) (xs : List Item) → bytes_eq x.name new.name ≡ false → with_item new (x ∷ xs) ≡ x ∷ with_item new xs
passed new x xs differ = cond-false (bytes_eq x.name new.name) (new ∷ xs) (x ∷ with_item new xs) differ

module _ (q : List ℕ) (new : Item) where
  same_count : (x : Item) (xs : List Item) → bytes_eq x.name new.name ≡ true → items_named q (new ∷ xs) ≡ items_named q (x ∷ xs)
  same_count x xs same =
      one_item q new xs ∙ ap (λ (n : List ℕ). cond (bytes_eq n q) 1 0 + items_named q xs) (sym ((bytes_eq-Decides x.name new.name).0 same)) ∙ sym (one_item q x xs)

  put_elsewhere : (items : List Item) → bytes_eq new.name q ≡ false → items_named q (with_item new items) ≡ items_named q items
  put_elsewhere [] other = one_item q new [] ∙ ap (λ (b : Bool). cond b 1 0 + items_named q []) other
  put_elsewhere (x ∷ xs) other = by_name (cases_Bool (bytes_eq x.name new.name)) (put_elsewhere xs other)
    where
      by_name : (bytes_eq x.name new.name ≡ true) ⊎ (bytes_eq x.name new.name ≡ false) → items_named q (with_item new xs) ≡ items_named q xs → items_named q (with_item new (x ∷ xs)) ≡ items_named q (x ∷ xs)
      by_name (inl same) rest = ap (items_named q) (replaced new x xs same) ∙ same_count x xs same
      by_name (inr differ) rest = ap (items_named q) (passed new x xs differ) ∙ one_item q x (with_item new xs) ∙ ap (λ (n : ℕ). cond (bytes_eq x.name q) 1 0 + n) rest ∙ sym (one_item q x xs)

  put_here : (items : List Item) → bytes_eq new.name q ≡ true → items_named q items ≤ 1 → items_named q (with_item new items) ≤ 1
  put_here [] here few =
      let e = one_item q new [] in
      let z : items_named q [] ≡ 0 = refl in
      let b : cond {A = ℕ} (bytes_eq new.name q) 1 0 ≤ 1 = test_most (bytes_eq new.name q) in
      omega (arith, e, z, b)
  put_here (x ∷ xs) here few = by_name (cases_Bool (bytes_eq x.name new.name)) (put_here xs here)
    where
      by_name : (bytes_eq x.name new.name ≡ true) ⊎ (bytes_eq x.name new.name ≡ false) → (items_named q xs ≤ 1 → items_named q (with_item new xs) ≤ 1) → items_named q (with_item new (x ∷ xs)) ≤ 1
      by_name (inl same) rest = subst (λ (n : ℕ). n ≤ 1) (sym (ap (items_named q) (replaced new x xs same) ∙ same_count x xs same)) few
      by_name (inr differ) rest =
          let a : items_named q (with_item new (x ∷ xs)) ≡ cond (bytes_eq x.name q) 1 0 + items_named q (with_item new xs) = ap (items_named q) (passed new x xs differ) ∙ one_item q x (with_item new xs) in
          let b : cond {A = ℕ} (bytes_eq x.name q) 1 0 ≡ 0 = ap (λ (t : Bool). cond {A = ℕ} t 1 0) (still_differs x.name new.name q differ here) in
          let c = rest (let d = one_item q x xs in let few' : items_named q (x ∷ xs) ≤ 1 = few in omega (arith, d, few')) in
          omega (arith, a, b, c)

pub distinct_put : (new : Item) (items : List Item) → AreDistinct items → AreDistinct (with_item new items)
distinct_put new items distinct q = by_test (cases_Bool (bytes_eq new.name q))
  where
    by_test : (bytes_eq new.name q ≡ true) ⊎ (bytes_eq new.name q ≡ false) → items_named q (with_item new items) ≤ 1
    by_test (inl here) = put_here q new items here (distinct q)
    by_test (inr other) = subst (λ (n : ℕ). n ≤ 1) (sym (put_elsewhere q new items other)) (distinct q)

-- items that one was taken from
pub cut : (name : List ℕ) (x : Item) (xs : List Item) → bytes_eq x.name name ≡ true → without name (x ∷ xs) ≡ xs
cut name x xs same = cond-true (bytes_eq x.name name) xs (x ∷ without name xs) same

pub uncut : (name : List ℕ) (x : Item) (xs : List Item) → bytes_eq x.name name ≡ false → without name (x ∷ xs) ≡ x ∷ without name xs
uncut name x xs differ = cond-false (bytes_eq x.name name) xs (x ∷ without name xs) differ

taken_few : (q name : List ℕ) (items : List Item) → items_named q (without name items) ≤ items_named q items
taken_few q name [] = omega arith
taken_few q name (x ∷ xs) = by_name (cases_Bool (bytes_eq x.name name)) (taken_few q name xs)
  where
    by_name : (bytes_eq x.name name ≡ true) ⊎ (bytes_eq x.name name ≡ false) → items_named q (without name xs) ≤ items_named q xs → items_named q (without name (x ∷ xs)) ≤ items_named q (x ∷ xs)
    by_name (inl same) rest = let a = ap (items_named q) (cut name x xs same) in let b = one_item q x xs in omega (arith, a, b)
    by_name (inr differ) rest = let a = ap (items_named q) (uncut name x xs differ) ∙ one_item q x (without name xs) in let b = one_item q x xs in omega (arith, a, b, rest)

pub distinct_taken : (name : List ℕ) (items : List Item) → AreDistinct items → AreDistinct (without name items)
distinct_taken name items distinct q = let few = taken_few q name items in let one = distinct q in omega (arith, few, one)

-- how many attributes among items have a name
abbrev small_named : List ℕ → List Item → ℕ
small_named q items = entries_named q (attributes_in items)

attribute_more : (q : List ℕ) (x : Item) (xs : List Item) → is_name_item x ≡ false → small_named q (x ∷ xs) ≡ cond (bytes_eq x.name q) 1 0 + small_named q xs
attribute_more q x xs other = ap (entries_named q) (front_is x xs other) ∙ one_entry q (entry x) (attributes_in xs)

attribute_none : (q : List ℕ) (x : Item) (xs : List Item) → is_name_item x ≡ true → small_named q (x ∷ xs) ≡ small_named q xs
attribute_none q x xs own = ap (entries_named q) (front_none x xs own)

few_attributes : (q : List ℕ) (items : List Item) → small_named q items ≤ items_named q items
few_attributes q [] = omega arith
few_attributes q (x ∷ xs) = by_own (cases_Bool (is_name_item x)) (few_attributes q xs)
  where
    by_own : (is_name_item x ≡ true) ⊎ (is_name_item x ≡ false) → small_named q xs ≤ items_named q xs → small_named q (x ∷ xs) ≤ items_named q (x ∷ xs)
    by_own (inl own) rest = let a = attribute_none q x xs own in let b = one_item q x xs in omega (arith, a, b, rest)
    by_own (inr other) rest = let a = attribute_more q x xs other in let b = one_item q x xs in omega (arith, a, b, rest)

-- one in front, whatever it is
same_in_front : (q : List ℕ) (x : Item) (xs ys : List Item) → small_named q xs ≡ small_named q ys → small_named q (x ∷ xs) ≡ small_named q (x ∷ ys)
same_in_front q x xs ys same = by_own (cases_Bool (is_name_item x))
  where
    by_own : (is_name_item x ≡ true) ⊎ (is_name_item x ≡ false) → small_named q (x ∷ xs) ≡ small_named q (x ∷ ys)
    by_own (inl own) = attribute_none q x xs own ∙ same ∙ sym (attribute_none q x ys own)
    by_own (inr other) = attribute_more q x xs other ∙ ap (λ (n : ℕ). cond (bytes_eq x.name q) 1 0 + n) same ∙ sym (attribute_more q x ys other)

few_in_front : (q : List ℕ) (x : Item) (xs ys : List Item) → small_named q xs ≤ small_named q ys → small_named q (x ∷ xs) ≤ small_named q (x ∷ ys)
few_in_front q x xs ys few = by_own (cases_Bool (is_name_item x))
  where
    by_own : (is_name_item x ≡ true) ⊎ (is_name_item x ≡ false) → small_named q (x ∷ xs) ≤ small_named q (x ∷ ys)
    by_own (inl own) = let a = attribute_none q x xs own in let b = attribute_none q x ys own in omega (arith, a, b, few)
    by_own (inr other) = let a = attribute_more q x xs other in let b = attribute_more q x ys other in omega (arith, a, b, few)

small_rest : (q : List ℕ) (x : Item) (xs : List Item) → small_named q xs ≤ small_named q (x ∷ xs)
small_rest q x xs = by_own (cases_Bool (is_name_item x))
  where
    by_own : (is_name_item x ≡ true) ⊎ (is_name_item x ≡ false) → small_named q xs ≤ small_named q (x ∷ xs)
    by_own (inl own) = let a = attribute_none q x xs own in omega (arith, a)
    by_own (inr other) = let a = attribute_more q x xs other in omega (arith, a)

module _ (q : List ℕ) (new : Item) (own : bytes_eq new.name own_name ≡ false) (other : bytes_eq new.name q ≡ false) where
  put_small_elsewhere : (items : List Item) → small_named q (with_item new items) ≡ small_named q items
  put_small_elsewhere [] = attribute_more q new [] (other_item new new.name refl own) ∙ ap (λ (b : Bool). cond b 1 0 + small_named q []) other
  put_small_elsewhere (x ∷ xs) = by_name (cases_Bool (bytes_eq x.name new.name)) (put_small_elsewhere xs)
    where
      by_name : (bytes_eq x.name new.name ≡ true) ⊎ (bytes_eq x.name new.name ≡ false) → small_named q (with_item new xs) ≡ small_named q xs → small_named q (with_item new (x ∷ xs)) ≡ small_named q (x ∷ xs)
      by_name (inl same) rest =
          let name : x.name ≡ new.name = (bytes_eq-Decides x.name new.name).0 same in
          ap (small_named q) (replaced new x xs same) ∙ attribute_more q new xs (other_item new new.name refl own)
          ∙ ap (λ (n : List ℕ). cond (bytes_eq n q) 1 0 + small_named q xs) (sym name) ∙ sym (attribute_more q x xs (other_item x new.name name own))
      by_name (inr differ) rest = ap (small_named q) (passed new x xs differ) ∙ same_in_front q x (with_item new xs) xs rest

small_taken : (q name : List ℕ) (items : List Item) → small_named q (without name items) ≤ small_named q items
small_taken q name [] = omega arith
small_taken q name (x ∷ xs) = by_name (cases_Bool (bytes_eq x.name name)) (small_taken q name xs)
  where
    by_name : (bytes_eq x.name name ≡ true) ⊎ (bytes_eq x.name name ≡ false) → small_named q (without name xs) ≤ small_named q xs → small_named q (without name (x ∷ xs)) ≤ small_named q (x ∷ xs)
    by_name (inl same) rest = let a = ap (small_named q) (cut name x xs same) in let b = small_rest q x xs in omega (arith, a, b)
    by_name (inr differ) rest = let a = ap (small_named q) (uncut name x xs differ) in let b = few_in_front q x (without name xs) xs rest in omega (arith, a, b)

-- none of a name, as a count
none_counted : (name : List ℕ) (es : List Named) → HasNone es name → entries_named name es ≡ 0
none_counted name [] none = refl
none_counted name (e ∷ es) none =
    let a = one_entry name e es in
    let b : cond (bytes_eq e.0 name) 1 0 ≡ 0 = ap (λ (t : Bool). cond {A = ℕ} t 1 0) none.0 in
    let c = none_counted name es none.1 in
    omega (arith, a, b, c)

counted_none : (name : List ℕ) (es : List Named) → entries_named name es ≤ 0 → HasNone es name
counted_none name [] few = tt
counted_none name (e ∷ es) few = by_test (cases_Bool (bytes_eq e.0 name)) (counted_none name es)
  where
    by_test : (bytes_eq e.0 name ≡ true) ⊎ (bytes_eq e.0 name ≡ false) → (entries_named name es ≤ 0 → HasNone es name) → HasNone (e ∷ es) name
    by_test (inl same) rest =
        let a : entries_named name (e ∷ es) ≡ 1 + entries_named name es = one_entry name e es ∙ ap (λ (b : Bool). cond b 1 0 + entries_named name es) same in
        let b : entries_named name (e ∷ es) ≤ 0 = few in
        absurd (omega (arith, a, b))
    by_test (inr other) rest =
        let a : entries_named name (e ∷ es) ≡ cond (bytes_eq e.0 name) 1 0 + entries_named name es = one_entry name e es in
        let b : entries_named name (e ∷ es) ≤ 0 = few in
        (other, rest (omega (arith, a, b)))

-- no two attributes of one name after an item was put of whose name the directory has none
pub apart_put : (new : Item) (items : List Item) (more : List Named) → bytes_eq new.name own_name ≡ false → AreDistinct items → AreApart (attributes_in items ++ more) → HasNone more new.name → AreApart (attributes_in (with_item new items) ++ more)
apart_put new items more own distinct apart none q = by_test (cases_Bool (bytes_eq new.name q))
  where
    by_test : (bytes_eq new.name q ≡ true) ⊎ (bytes_eq new.name q ≡ false) → entries_named q (attributes_in (with_item new items) ++ more) ≤ 1
    by_test (inl here) =
        let a = both_entries q (attributes_in (with_item new items)) more in
        let b : entries_named q more ≡ 0 = subst (λ (n : List ℕ). entries_named n more ≡ 0) ((bytes_eq-Decides new.name q).0 here) (none_counted new.name more none) in
        let c = few_attributes q (with_item new items) in
        let d : items_named q (with_item new items) ≤ 1 = distinct_put new items distinct q in
        omega (arith, a, b, c, d)
    by_test (inr other) =
        let a = both_entries q (attributes_in (with_item new items)) more in
        let b = both_entries q (attributes_in items) more in
        let c = put_small_elsewhere q new own other items in
        let d : entries_named q (attributes_in items ++ more) ≤ 1 = apart q in
        omega (arith, a, b, c, d)

pub apart_taken : (name : List ℕ) (items : List Item) (more : List Named) → AreApart (attributes_in items ++ more) → AreApart (attributes_in (without name items) ++ more)
apart_taken name items more apart q =
    let a = both_entries q (attributes_in (without name items)) more in
    let b = both_entries q (attributes_in items) more in
    let c = small_taken q name items in
    let d : entries_named q (attributes_in items ++ more) ≤ 1 = apart q in
    omega (arith, a, b, c, d)

-- an attribute among items is one of its name
some_attribute : (name : List ℕ) (items : List Item) (item : Item) → named name items ≡ Some item → is_name_item item ≡ false → 1 ≤ small_named name items
some_attribute name [] item e own = let bad : None ≡ Some item = e in cc
some_attribute name (x ∷ xs) item e own = by_name (cases_Bool (bytes_eq x.name name)) (some_attribute name xs item)
  where
    by_name : (bytes_eq x.name name ≡ true) ⊎ (bytes_eq x.name name ≡ false) → (named name xs ≡ Some item → is_name_item item ≡ false → 1 ≤ small_named name xs) → 1 ≤ small_named name (x ∷ xs)
    by_name (inl same) rest =
        let is : x ≡ item = let h : Some x ≡ Some item = sym (named_first name x xs same) ∙ e in cc in
        let a = attribute_more name x xs (ap is_name_item is ∙ own) in
        let b : cond (bytes_eq x.name name) 1 0 ≡ 1 = ap (λ (t : Bool). cond {A = ℕ} t 1 0) same in
        omega (arith, a, b)
    by_name (inr differ) rest =
        let a = rest (sym (named_later name x xs differ) ∙ e) own in
        let b = small_rest name x xs in
        omega (arith, a, b)

-- an attribute in small data is none in the directory
pub none_behind : (name : List ℕ) (items : List Item) (more : List Named) → AreApart (attributes_in items ++ more) → HasAttribute name items → HasNone more name
none_behind name items more apart has =
    let a = both_entries name (attributes_in items) more in
    let b = some_attribute name items has.0 has.1 has.2 in
    let c : entries_named name (attributes_in items ++ more) ≤ 1 = apart name in
    counted_none name more (omega (arith, a, b, c))

-- an item that was put is the one of its name
pub put_named : (new : Item) (items : List Item) → named new.name (with_item new items) ≡ Some new
put_named new [] = named_first new.name new [] (same_name new.name)
put_named new (x ∷ xs) = by_name (cases_Bool (bytes_eq x.name new.name)) (put_named new xs)
  where
    by_name : (bytes_eq x.name new.name ≡ true) ⊎ (bytes_eq x.name new.name ≡ false) → named new.name (with_item new xs) ≡ Some new → named new.name (with_item new (x ∷ xs)) ≡ Some new
    by_name (inl same) rest = ap (named new.name) (replaced new x xs same) ∙ named_first new.name new xs (same_name new.name)
    by_name (inr differ) rest = ap (named new.name) (passed new x xs differ) ∙ named_later new.name x (with_item new xs) differ ∙ rest
