-- The names of a directory's rows, without `.` and `..`.
use Rattle.std.proofs.Common.{◌≡◌, inl, inr, ℕ, ℤ, List, [], ◌∷◌, ◌++◌, refl, sym, ap, ◌∙◌, subst, Bool, true, false, cond, Some, None}
use Rattle.std.specs.Prelude.{if◌then◌else◌}
use Rattle.std.specs.List.{flat_map, AllByRecursion}
use Rattle.std.specs.List.Sorted.{IsStrictlySortedBy}
use Rattle.std.specs.declared.cmp.Ordering.{Ordering}
use Rattle.std.specs.declared.cmp.Ordering.TheVariants.{Less, Equal, Greater}
use Rattle.std.specs.Ordering.{is_lt, is_eq}
use Rattle.std.specs.FinMap.{nat_cmp-IsAntisymmetric, slice_cmp-IsAntisymmetric}
use Rattle.bfs_base.specs.Keys.{text_cmp}
use Rattle.bfs_base.specs.declared.kind.KeyKind.TheVariants.{Text}
use Rattle.bfs_node.specs.Page.{Row}
use Rattle.bfs_pages.specs.Maps.{assoc}
use Rattle.bfs_pages.specs.Order.{comes_before, same_keys}
use Rattle.bfs_pages.specs.Ways.{KeysAscend}
use Rattle.bfs_pages.proofs.KeyOrder.{same_itself}
use Rattle.bfs_tree.proofs.Members.{In}

tie : (o : Ordering) → is_eq o ≡ true → o ≡ Equal
tie Equal e = refl
tie Less e = absurd (let bad : false ≡ true = e in cc)
tie Greater e = absurd (let bad : false ≡ true = e in cc)

less : (o : Ordering) → is_lt o ≡ true → o ≡ Less
less Less e = refl
less Equal e = absurd (let bad : false ≡ true = e in cc)
less Greater e = absurd (let bad : false ≡ true = e in cc)

same_name : (a b : List ℕ) → same_keys Text a b ≡ true → a ≡ b
same_name a b e = slice_cmp-IsAntisymmetric nat_cmp-IsAntisymmetric a b (tie (text_cmp a b) e)

-- a key that passes finds this value
pub record IsFoundKey (q : List ℕ → Bool) (rows : List Row) (name : List ℕ) : Type 0 where
  pub passes : q name ≡ true
  pub value : ℤ
  pub found : assoc Text rows name ≡ Some value

module _ (q : List ℕ → Bool) where
  -- the key of a row, if it passes
  abbrev pub key_if : Row → List (List ℕ)
  key_if r = if q r.0 then r.0 ∷ [] else []

  abbrev pub keys_of : List Row → List (List ℕ)
  keys_of rows = flat_map key_if rows

  -- a key among them finds a value
  pub key_finds : (rows : List Row) (name : List ℕ) → In name (keys_of rows) → IsFoundKey q rows name
  key_finds [] name i = absurd i
  key_finds (r ∷ rs) name i = by_test (q r.0) refl i (key_finds rs name)
    where
      here : q r.0 ≡ true → name ≡ r.0 → IsFoundKey q (r ∷ rs) name
      here e same = record {
        passes = ap q same ∙ e;
        value = r.1;
        found = ap (λ (t : Bool). cond t (Some r.1) (assoc Text rs name)) (ap (λ (k : List ℕ). same_keys Text k r.0) same ∙ same_itself Text r.0);
      }

      behind : IsFoundKey q rs name → (t : Bool) → same_keys Text name r.0 ≡ t → IsFoundKey q (r ∷ rs) name
      behind l true e = record { passes = l.passes; value = r.1; found = ap (λ (t : Bool). cond t (Some r.1) (assoc Text rs name)) e }
      behind l false e = record { passes = l.passes; value = l.value; found = ap (λ (t : Bool). cond t (Some r.1) (assoc Text rs name)) e ∙ l.found }

      by_test : (t : Bool) → q r.0 ≡ t → In name ((if t then r.0 ∷ [] else []) ++ keys_of rs) → (In name (keys_of rs) → IsFoundKey q rs name) → IsFoundKey q (r ∷ rs) name
      by_test true e (inl same) rest = here e same
      by_test true e (inr j) rest = behind (rest j) (same_keys Text name r.0) refl
      by_test false e j rest = behind (rest j) (same_keys Text name r.0) refl

  -- and a key that finds a value is among them, if it passes
  pub found_is_key : (rows : List Row) (name : List ℕ) (value : ℤ) → q name ≡ true → assoc Text rows name ≡ Some value → In name (keys_of rows)
  found_is_key [] name value passes found = absurd (let bad : None ≡ Some value = found in cc)
  found_is_key (r ∷ rs) name value passes found = by_key (same_keys Text name r.0) refl found (found_is_key rs name value passes)
    where
      put : (t : Bool) → In name (keys_of rs) → In name ((if t then r.0 ∷ [] else []) ++ keys_of rs)
      put true i = inr i
      put false i = i

      by_key : (t : Bool) → same_keys Text name r.0 ≡ t → cond t (Some r.1) (assoc Text rs name) ≡ Some value → (assoc Text rs name ≡ Some value → In name (keys_of rs)) → In name (keys_of (r ∷ rs))
      by_key true e at rest =
          let same : name ≡ r.0 = same_name name r.0 e in
          subst (λ (t : Bool). In name ((if t then r.0 ∷ [] else []) ++ keys_of rs)) (sym (sym (ap q same) ∙ passes)) (inl same)
      by_key false e at rest = put (q r.0) (rest at)

  all_above : (k : List ℕ) (rows : List Row) → AllByRecursion (λ (s : Row). comes_before Text k s.0 ≡ true) rows → AllByRecursion (λ y. text_cmp k y ≡ Less) (keys_of rows)
  all_above k [] all = tt
  all_above k (r ∷ rs) all = by_test (q r.0) (all_above k rs all.1)
    where
      by_test : (t : Bool) → AllByRecursion (λ y. text_cmp k y ≡ Less) (keys_of rs) → AllByRecursion (λ y. text_cmp k y ≡ Less) ((if t then r.0 ∷ [] else []) ++ keys_of rs)
      by_test true rest = (less (text_cmp k r.0) all.0, rest)
      by_test false rest = rest

  pub keys_ascend : (rows : List Row) → KeysAscend Text rows → IsStrictlySortedBy text_cmp (keys_of rows)
  unfolding IsStrictlySortedBy
  keys_ascend [] up = tt
  keys_ascend (r ∷ rs) up = elim (q r.0) as (λ t. IsStrictlySortedBy text_cmp ((if t then r.0 ∷ [] else []) ++ keys_of rs)) [
    | true ↦ (all_above r.0 rs up.0, keys_ascend rs up.1)
    | false ↦ keys_ascend rs up.1
  ]
