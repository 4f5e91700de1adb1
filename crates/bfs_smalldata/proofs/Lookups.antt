-- Look-ups after a change.
use Rattle.std.proofs.Common.{◌≡◌, ◌≢◌, ⊎_elim, ℕ, ◌+◌, ◌≤◌, true, false, cond, List, [], ◌∷◌, ◌++◌, length, Some, None, refl, sym, ◌∙◌, ap, subst, arith, length-append}
use Rattle.std.specs.Prelude.{All, count_by}
use Rattle.std.specs.List.{flat_map}
use Rattle.std.specs.Str.{bytes_eq}
use Rattle.std.proofs.lemmas.Bool.{cases_Bool, true≢false, cond-true, cond-false, false_from_ne_true}
use Rattle.std.proofs.lemmas.List.{drop_at}
use Rattle.std.proofs.lemmas.List.Sums.{sum_by-cons}
use Rattle.std.proofs.lemmas.List.Elements.{All-head, All-tail}
use Rattle.std.proofs.lemmas.Slice.Eq.{bytes_eq-Decides}
use Rattle.bfs_smalldata.specs.Items.{Item, Begins, Stand, Ends, IsWritable, sizes_of, items_of, bytes_of}
use Rattle.bfs_smalldata.specs.Edits.{named, without, with_item}
use Rattle.bfs_smalldata.proofs.Naming.{same_name, named_first, named_later, without_first, without_later, with_first, with_later}
use Rattle.bfs_smalldata.proofs.Standing.{stand_before, stand_joined}
use Rattle.bfs_smalldata.proofs.Listing.{area_to}
use Rattle.bfs_smalldata.proofs.Writing.{length-bytes_of, bytes_begin}

other_name : (a b : List ℕ) → (a ≡ b → ⊥) → bytes_eq a b ≡ false
other_name a b ne = false_from_ne_true (bytes_eq a b) (λ same. ne ((bytes_eq-Decides a b).0 same))

are_same : (a b : List ℕ) → bytes_eq a b ≡ true → a ≡ b
are_same a b same = (bytes_eq-Decides a b).0 same

module _ (new : Item) where
  pub put_found : (items : List Item) → named new.name (with_item new items) ≡ Some new
  put_found [] = named_first new.name new [] (same_name new.name)
  put_found (x ∷ xs) = ⊎_elim
      (λ same. ap (named new.name) (with_first new x xs same) ∙ named_first new.name new xs (same_name new.name))
      (λ other. ap (named new.name) (with_later new x xs other) ∙ named_later new.name x (with_item new xs) other ∙ put_found xs)
      (cases_Bool (bytes_eq x.name new.name))

  pub put_order : (items : List Item) → without new.name (with_item new items) ≡ without new.name items
  put_order [] = without_first new.name new [] (same_name new.name)
  put_order (x ∷ xs) = ⊎_elim
      (λ same. ap (without new.name) (with_first new x xs same) ∙ without_first new.name new xs (same_name new.name) ∙ sym (without_first new.name x xs same))
      (λ other. ap (without new.name) (with_later new x xs other) ∙ without_later new.name x (with_item new xs) other
      ∙ ap (λ (ys : List Item). x ∷ ys) (put_order xs) ∙ sym (without_later new.name x xs other))
      (cases_Bool (bytes_eq x.name new.name))

  module _ (name : List ℕ) (ne : name ≢ new.name) where
    not_new : bytes_eq new.name name ≡ false
    not_new = other_name new.name name (λ e. ne (sym e))

    pub put_others : (items : List Item) → named name (with_item new items) ≡ named name items
    put_others [] = named_later name new [] not_new
    put_others (x ∷ xs) = ⊎_elim
        (λ same. ap (named name) (with_first new x xs same) ∙ named_later name new xs not_new
        ∙ sym (named_later name x xs (subst (λ (n : List ℕ). bytes_eq n name ≡ false) (sym (are_same x.name new.name same)) not_new)))
        (λ other. ap (named name) (with_later new x xs other)
        ∙ ⊎_elim
        (λ here. named_first name x (with_item new xs) here ∙ sym (named_first name x xs here))
        (λ later. named_later name x (with_item new xs) later ∙ put_others xs ∙ sym (named_later name x xs later))
        (cases_Bool (bytes_eq x.name name)))
        (cases_Bool (bytes_eq x.name new.name))

module _ (name : List ℕ) where
  abbrev how_many : List Item → ℕ
  how_many items = count_by (λ item. bytes_eq item.name name) items

  many_first : (x : Item) (xs : List Item) → bytes_eq x.name name ≡ true → how_many (x ∷ xs) ≡ how_many xs + 1
  many_first x xs same = omega (arith, sum_by-cons (λ (item : Item). cond (bytes_eq item.name name) 1 0) x xs, cond-true {A = ℕ} (bytes_eq x.name name) 1 0 same)

  many_later : (x : Item) (xs : List Item) → bytes_eq x.name name ≡ false → how_many (x ∷ xs) ≡ how_many xs
  many_later x xs other = omega (arith, sum_by-cons (λ (item : Item). cond (bytes_eq item.name name) 1 0) x xs, cond-false {A = ℕ} (bytes_eq x.name name) 1 0 other)

  none_named : (items : List Item) → how_many items ≡ 0 → named name items ≡ None
  none_named [] none = refl
  none_named (x ∷ xs) none = ⊎_elim
      (λ same. absurd (omega (arith, none, many_first x xs same)))
      (λ other. named_later name x xs other ∙ none_named xs (omega (arith, none, many_later x xs other)))
      (cases_Bool (bytes_eq x.name name))

  pub take_gone : (items : List Item) → how_many items ≤ 1 → named name (without name items) ≡ None
  take_gone [] few = refl
  take_gone (x ∷ xs) few = ⊎_elim
      (λ same. ap (named name) (without_first name x xs same) ∙ none_named xs (omega (arith, few, many_first x xs same)))
      (λ other. ap (named name) (without_later name x xs other) ∙ named_later name x (without name xs) other ∙ take_gone xs (omega (arith, few, many_later x xs other)))
      (cases_Bool (bytes_eq x.name name))

  -- no more of a name than before
  pub many_without : (gone : List ℕ) (items : List Item) → how_many (without gone items) ≤ how_many items
  many_without gone [] = omega arith
  many_without gone (x ∷ xs) =
      let rest : how_many xs ≤ how_many (x ∷ xs) = ⊎_elim (λ same. omega (arith, many_first x xs same)) (λ other. omega (arith, many_later x xs other)) (cases_Bool (bytes_eq x.name name)) in
      ⊎_elim
      (λ same. omega (arith, ap how_many (without_first gone x xs same), rest))
      (λ other. let is = ap how_many (without_later gone x xs other) in
      ⊎_elim
      (λ here. omega (arith, is, many_first x xs here, many_first x (without gone xs) here, many_without gone xs))
      (λ later. omega (arith, is, many_later x xs later, many_later x (without gone xs) later, many_without gone xs))
      (cases_Bool (bytes_eq x.name name)))
      (cases_Bool (bytes_eq x.name gone))

  pub take_others : (gone : List ℕ) → name ≢ gone → (items : List Item) → named name (without gone items) ≡ named name items
  take_others gone ne [] = refl
  take_others gone ne (x ∷ xs) = ⊎_elim
      (λ same. ap (named name) (without_first gone x xs same)
      ∙ sym (named_later name x xs (other_name x.name name (λ e. ne (sym e ∙ are_same x.name gone same)))))
      (λ other. ap (named name) (without_later gone x xs other)
      ∙ ⊎_elim
      (λ here. named_first name x (without gone xs) here ∙ sym (named_first name x xs here))
      (λ later. named_later name x (without gone xs) later ∙ take_others gone ne xs ∙ sym (named_later name x xs later))
      (cases_Bool (bytes_eq x.name name)))
      (cases_Bool (bytes_eq x.name gone))

  -- an item of another name is none of this
  other_new : (x new : Item) → bytes_eq x.name new.name ≡ false → bytes_eq x.name name ≡ true → bytes_eq new.name name ≡ false
  other_new x new other here = other_name new.name name (λ e. true≢false (sym (subst (λ (n : List ℕ). bytes_eq x.name n ≡ true) (are_same x.name name here ∙ sym e) (same_name x.name)) ∙ other))

  none_with : (new : Item) (items : List Item) → bytes_eq new.name name ≡ false → how_many items ≡ 0 → how_many (with_item new items) ≡ 0
  none_with new [] none empty = many_later new [] none
  none_with new (x ∷ xs) none empty = ⊎_elim
      (λ here. absurd (omega (arith, empty, many_first x xs here)))
      (λ later.
      let rest : how_many xs ≡ 0 = omega (arith, empty, many_later x xs later) in
      ⊎_elim
      (λ same. ap how_many (with_first new x xs same) ∙ many_later new xs none ∙ rest)
      (λ other. ap how_many (with_later new x xs other) ∙ many_later x (with_item new xs) later ∙ none_with new xs none rest)
      (cases_Bool (bytes_eq x.name new.name)))
      (cases_Bool (bytes_eq x.name name))

  pub many_with : (new : Item) (items : List Item) → how_many items ≤ 1 → how_many (with_item new items) ≤ 1
  many_with new [] few = ⊎_elim (λ same. omega (arith, many_first new [] same)) (λ other. omega (arith, many_later new [] other)) (cases_Bool (bytes_eq new.name name))
  many_with new (x ∷ xs) few = ⊎_elim
      (λ same. let is = ap how_many (with_first new x xs same) in
      let name_is : x.name ≡ new.name = are_same x.name new.name same in
      ⊎_elim
      (λ here. omega (arith, is, few, many_first new xs here, many_first x xs (subst (λ (n : List ℕ). bytes_eq n name ≡ true) (sym name_is) here)))
      (λ later. omega (arith, is, few, many_later new xs later, many_later x xs (subst (λ (n : List ℕ). bytes_eq n name ≡ false) (sym name_is) later)))
      (cases_Bool (bytes_eq new.name name)))
      (λ other. let is = ap how_many (with_later new x xs other) in
      ⊎_elim
      (λ here. omega (arith, is, many_first x (with_item new xs) here, none_with new xs (other_new x new other here) (omega (arith, few, many_first x xs here))))
      (λ later. omega (arith, is, many_later x (with_item new xs) later, many_with new xs (omega (arith, few, many_later x xs later))))
      (cases_Bool (bytes_eq x.name name)))
      (cases_Bool (bytes_eq x.name new.name))

-- items that were written
writable : (item : Item) → IsWritable item → Begins (bytes_of item) item
writable item can = bytes_begin item (omega (arith, can.kind)) (omega (arith, can.name)) (omega (arith, can.bytes)) (omega (arith, can.some))

written_stand : (items : List Item) → All IsWritable items → Stand (flat_map bytes_of items) items × (length (flat_map bytes_of items) ≡ sizes_of items)
written_stand [] can = (tt, refl)
written_stand (x ∷ xs) can =
    let here = writable x (All-head IsWritable x xs can) in
    let rest = written_stand xs (All-tail IsWritable x xs can) in (
      stand_joined (x ∷ []) xs (bytes_of x) (flat_map bytes_of xs) (here, tt) (omega (arith, length-bytes_of x)) rest.0,
      omega (arith, length-append (bytes_of x) (flat_map bytes_of xs), length-bytes_of x, rest.1),
    )

pub written_read : (items : List Item) (rest : List ℕ) → All IsWritable items → Ends rest → items_of (flat_map bytes_of items ++ rest) ≡ Some items
written_read items rest can ends =
    let stand = written_stand items can in
    area_to (flat_map bytes_of items ++ rest) items
    (stand_before items (flat_map bytes_of items) rest stand.0, subst Ends (sym (drop_at (flat_map bytes_of items) rest (sizes_of items) stand.1)) ends)
