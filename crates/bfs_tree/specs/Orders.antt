-- Lists put in order.
use Rattle.std.specs.Prelude.{List, [], ◌∷◌, if◌then◌else◌}
use Rattle.std.specs.List.{fold}
use Rattle.std.specs.declared.cmp.Ordering.{Ordering}
use Rattle.std.specs.Ordering.{is_lt}

-- the list with one element more, before the first that it is below
abbrev pub placed : {A : Type 0} → (A → A → Ordering) → List A → A → List A
placed cmp [] x = x ∷ []
placed cmp (y ∷ ys) x = if is_lt (cmp x y) then x ∷ y ∷ ys else y ∷ placed cmp ys x

-- the elements in order: each is put in its place among those before it
abbrev pub in_order : {A : Type 0} → (A → A → Ordering) → List A → List A
in_order cmp xs = fold (placed cmp) [] xs
