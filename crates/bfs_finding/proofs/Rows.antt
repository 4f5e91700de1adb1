-- Members of lists, and rows of names as a map: a name that stands there is looked up.
use Rattle.std.proofs.Common.{◌≡◌, inl, inr, ℕ, ℤ, List, [], ◌∷◌, Some, Bool, true, false, cond, filter, refl, sym, ap, ◌∙◌, subst}
use Rattle.std.specs.List.{AllByRecursion}
use Rattle.std.specs.Ordering.{is_eq}
use Rattle.std.specs.declared.cmp.Ordering.{Ordering}
use Rattle.std.specs.declared.cmp.Ordering.TheVariants.{Less, Equal, Greater}
use Rattle.std.specs.FinMap.{nat_cmp-IsAntisymmetric, slice_cmp-IsAntisymmetric}
use Rattle.bfs_base.specs.Keys.{text_cmp}
use Rattle.bfs_base.specs.declared.kind.KeyKind.{KeyKind}
use Rattle.bfs_base.specs.declared.kind.KeyKind.TheVariants.{Text}
use Rattle.bfs_node.specs.Page.{Row}
use Rattle.bfs_pages.specs.Maps.{assoc}
use Rattle.bfs_pages.specs.Order.{comes_before, same_keys}
use Rattle.bfs_pages.specs.Ways.{KeysAscend}
use Rattle.bfs_pages.proofs.KeyOrder.{same_itself, greater_not_same}
use Rattle.bfs_values.specs.Rows.{rows_in}
use Rattle.bfs_values.specs.Reached.{IsWholeTree}
use Rattle.bfs_values.proofs.RowLists.{rows-up}
use Rattle.bfs_values.proofs.Rows.{rows_those}
use Rattle.bfs_sound.specs.Owners.{In}

pub in_filter : {X : Type 0} (p : X → Bool) (x : X) (xs : List X) → In x (filter p xs) → In x xs × (p x ≡ true)
in_filter p x [] i = absurd i
in_filter p x (y ∷ ys) i = by_test (p y) refl i (λ j. in_filter p x ys j)
  where
    by_test : (c : Bool) → p y ≡ c → In x (cond c (y ∷ filter p ys) (filter p ys)) → (In x (filter p ys) → In x ys × (p x ≡ true)) → In x (y ∷ ys) × (p x ≡ true)
    by_test true e (inl same) ih = (inl same, ap p same ∙ e)
    by_test true e (inr i) ih = let r = ih i in (inr r.0, r.1)
    by_test false e i ih = let r = ih i in (inr r.0, r.1)

pub text_same : (a b : List ℕ) → same_keys Text a b ≡ true → a ≡ b
text_same a b e = slice_cmp-IsAntisymmetric nat_cmp-IsAntisymmetric a b (equal (text_cmp a b) e)
  where
    none : false ≡ true → ⊥
    none e = cc

    equal : (o : Ordering) → is_eq o ≡ true → o ≡ Equal
    equal Less e = absurd (none e)
    equal Equal e = refl
    equal Greater e = absurd (none e)

pub all_in : {X : Type 0} (P : X → Type 0) (xs : List X) (x : X) → AllByRecursion P xs → In x xs → P x
all_in P [] x a i = absurd i
all_in P (y ∷ ys) x a (inl same) = subst P (sym same) a.0
all_in P (y ∷ ys) x a (inr i) = all_in P ys x a.1 i

pub in_assoc : (rows : List Row) (name : List ℕ) (value : ℤ) → KeysAscend Text rows → In (name, value) rows → assoc Text rows name ≡ Some value
in_assoc [] name value up i = absurd i
in_assoc (r ∷ rs) name value up (inl same) =
    ap (λ c. cond c (Some r.1) (assoc Text rs name)) (ap (λ (p : Row). same_keys Text name p.0) (sym same) ∙ same_itself Text name) ∙ ap (λ (p : Row). Some p.1) (sym same)
in_assoc (r ∷ rs) name value up (inr i) =
    ap (λ c. cond c (Some r.1) (assoc Text rs name)) (greater_not_same Text name r.0 (all_in (λ s. comes_before Text r.0 s.0 ≡ true) rs (name, value) up.0 i)) ∙ in_assoc rs name value up.1 i

-- the rows of a whole tree ascend
pub tree_ascends : (kind : KeyKind) (bytes : List ℕ) → IsWholeTree kind bytes → KeysAscend kind (rows_in kind bytes)
tree_ascends kind bytes w = subst (λ l. KeysAscend kind l) (rows_those kind bytes w.reached w.shape w.free w.tree) (rows-up kind bytes w.reached w.shape w.free w.tree)

-- so do those of its rows that pass a test
all_kept : {X : Type 0} (P : X → Type 0) (p : X → Bool) (xs : List X) → AllByRecursion P xs → AllByRecursion P (filter p xs)
all_kept P p [] a = tt
all_kept P p (x ∷ xs) a = by_test (p x) (all_kept P p xs a.1)
  where
    by_test : (c : Bool) → AllByRecursion P (filter p xs) → AllByRecursion P (cond c (x ∷ filter p xs) (filter p xs))
    by_test true ih = (a.0, ih)
    by_test false ih = ih

pub ascend_kept : (kind : KeyKind) (p : Row → Bool) (rows : List Row) → KeysAscend kind rows → KeysAscend kind (filter p rows)
ascend_kept kind p [] a = tt
ascend_kept kind p (r ∷ rs) a = by_test (p r) (all_kept (λ s. comes_before kind r.0 s.0 ≡ true) p rs a.0) (ascend_kept kind p rs a.1)
  where
    by_test : (c : Bool) → AllByRecursion (λ s. comes_before kind r.0 s.0 ≡ true) (filter p rs) → KeysAscend kind (filter p rs) → KeysAscend kind (cond c (r ∷ filter p rs) (filter p rs))
    by_test true all ih = (all, ih)
    by_test false all ih = ih
