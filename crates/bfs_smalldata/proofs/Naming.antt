-- Items by their names.
use Rattle.std.proofs.Common.{◌≡◌, ⊎_elim, ℕ, true, false, List, [], ◌∷◌, ◌++◌, Some, None, refl, sym, ◌∙◌, ap}
use Rattle.std.specs.Str.{bytes_eq}
use Rattle.std.proofs.lemmas.Bool.{cases_Bool, cond-true, cond-false}
use Rattle.std.proofs.lemmas.Slice.Eq.{bytes_eq-Decides}
use Rattle.bfs_smalldata.specs.Items.{Item}
use Rattle.bfs_smalldata.specs.Edits.{named, before, without, with_item}

pub same_name : (name : List ℕ) → bytes_eq name name ≡ true
same_name name = (bytes_eq-Decides name name).1 refl

-- none of a list has a name
pub not_named : (name : List ℕ) (x : Item) (xs : List Item) → named name (x ∷ xs) ≡ None → (bytes_eq x.name name ≡ false) × (named name xs ≡ None)
not_named name x xs none =
    ⊎_elim
    (λ same. let found : named name (x ∷ xs) ≡ Some x = cond-true (bytes_eq x.name name) (Some x) (named name xs) same in cc)
    (λ other. (other, sym (cond-false (bytes_eq x.name name) (Some x) (named name xs) other) ∙ none))
    (cases_Bool (bytes_eq x.name name))

module _ (name : List ℕ) where
  pub named_behind : (front back : List Item) → named name front ≡ None → named name (front ++ back) ≡ named name back
  named_behind [] back none = refl
  named_behind (x ∷ xs) back none =
      let parts = not_named name x xs none in
      cond-false (bytes_eq x.name name) (Some x) (named name (xs ++ back)) parts.0 ∙ named_behind xs back parts.1

  pub before_behind : (front back : List Item) → named name front ≡ None → before name (front ++ back) ≡ front ++ before name back
  before_behind [] back none = refl
  before_behind (x ∷ xs) back none =
      let parts = not_named name x xs none in
      cond-false (bytes_eq x.name name) [] (x ∷ before name (xs ++ back)) parts.0 ∙ ap (λ (ys : List Item). x ∷ ys) (before_behind xs back parts.1)

  pub before_first : (x : Item) (xs : List Item) → bytes_eq x.name name ≡ true → before name (x ∷ xs) ≡ []
  before_first x xs same = cond-true (bytes_eq x.name name) [] (x ∷ before name xs) same

  pub without_behind : (front back : List Item) → named name front ≡ None → without name (front ++ back) ≡ front ++ without name back
  without_behind [] back none = refl
  without_behind (x ∷ xs) back none =
      let parts = not_named name x xs none in
      cond-false (bytes_eq x.name name) (xs ++ back) (x ∷ without name (xs ++ back)) parts.0 ∙ ap (λ (ys : List Item). x ∷ ys) (without_behind xs back parts.1)

  pub named_first : (x : Item) (xs : List Item) → bytes_eq x.name name ≡ true → named name (x ∷ xs) ≡ Some x
  named_first x xs same = cond-true (bytes_eq x.name name) (Some x) (named name xs) same

  pub named_later : (x : Item) (xs : List Item) → bytes_eq x.name name ≡ false → named name (x ∷ xs) ≡ named name xs
  named_later x xs other = cond-false (bytes_eq x.name name) (Some x) (named name xs) other

  pub without_first : (x : Item) (xs : List Item) → bytes_eq x.name name ≡ true → without name (x ∷ xs) ≡ xs
  without_first x xs same = cond-true (bytes_eq x.name name) xs (x ∷ without name xs) same

  pub without_later : (x : Item) (xs : List Item) → bytes_eq x.name name ≡ false → without name (x ∷ xs) ≡ x ∷ without name xs
  without_later x xs other = cond-false (bytes_eq x.name name) xs (x ∷ without name xs) other

module _ (new : Item) where
  pub with_behind : (front back : List Item) → named new.name front ≡ None → with_item new (front ++ back) ≡ front ++ with_item new back
  with_behind [] back none = refl
  with_behind (x ∷ xs) back none =
      let parts = not_named new.name x xs none in
      cond-false (bytes_eq x.name new.name) (new ∷ (xs ++ back)) (x ∷ with_item new (xs ++ back)) parts.0 ∙ ap (λ (ys : List Item). x ∷ ys) (with_behind xs back parts.1)

  pub with_first : (x : Item) (xs : List Item) → bytes_eq x.name new.name ≡ true → with_item new (x ∷ xs) ≡ new ∷ xs
  with_first x xs same = cond-true (bytes_eq x.name new.name) (new ∷ xs) (x ∷ with_item new xs) same

  pub with_later : (x : Item) (xs : List Item) → bytes_eq x.name new.name ≡ false → with_item new (x ∷ xs) ≡ x ∷ with_item new xs
  with_later x xs other = cond-false (bytes_eq x.name new.name) (new ∷ xs) (x ∷ with_item new xs) other
