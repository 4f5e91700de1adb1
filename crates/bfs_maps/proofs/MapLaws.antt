-- Rows act as a map.
use Rattle.std.proofs.Common.{◌≡◌, ◌≢◌, ◌∙◌, ℤ, List, [], ◌∷◌, Bool, true, false, cond, Some, None, refl, sym, ap}
use Rattle.std.specs.Ordering.{is_eq}
use Rattle.std.specs.declared.cmp.Ordering.{Ordering}
use Rattle.std.specs.declared.cmp.Ordering.TheVariants.{Less, Equal, Greater}
use Rattle.std.proofs.lemmas.Map.Lookups.{exact_bytes}
use Rattle.bfs_base.specs.Keys.{key_cmp}
use Rattle.bfs_base.specs.declared.kind.KeyKind.{KeyKind}
use Rattle.bfs_base.specs.declared.kind.KeyKind.TheVariants.{Text}
use Rattle.bfs_node.proofs.Order.{key_cmp_total}
use Rattle.bfs_node.specs.Page.{Row}
use Rattle.bfs_pages.specs.Maps.{assoc, put, without}
use Rattle.bfs_pages.specs.Order.{Key, at_most, same_keys}
use Rattle.bfs_pages.proofs.KeyOrder.{not_most, greater_not_same, same_itself}
use Rattle.bfs_maps.specs.Laws.{DiffersAt}

equal-is : (o : Ordering) → is_eq o ≡ true → o ≡ Equal
equal-is Less e = absurd (no e)
  where
    no : false ≡ true → ⊥
    no e = cc
equal-is Equal e = refl
equal-is Greater e = absurd (no e)
  where
    no : false ≡ true → ⊥
    no e = cc

-- keys that are the same are the same to every other
pub same_same : (kind : KeyKind) (a b c : Key) → same_keys kind a b ≡ true → same_keys kind a c ≡ same_keys kind b c
same_same kind a b c h = ap is_eq ((key_cmp_total kind).congr a b c (equal-is (key_cmp kind a b) h))

-- a row whose key is less than one that is put has another key
less_other : (kind : KeyKind) (key a : Key) → at_most kind key a ≡ false → same_keys kind key a ≡ false
less_other kind key a e = greater_not_same kind key a (not_most kind key a e)

put_changed : (kind : KeyKind) (rows : List Row) (key : Key) (value : ℤ) → assoc kind (put kind rows key value) key ≡ Some value
put_changed kind [] key value = ap (λ t. cond t (Some value) None) (same_itself kind key)
put_changed kind (r ∷ rs) key value = by_test (at_most kind key r.0) refl (put_changed kind rs key value)
  where
    by_test : (t : Bool) → at_most kind key r.0 ≡ t → assoc kind (put kind rs key value) key ≡ Some value → assoc kind (cond t ((key, value) ∷ r ∷ rs) (r ∷ put kind rs key value)) key ≡ Some value
    by_test true e rest = ap (λ t. cond t (Some value) (assoc kind (r ∷ rs) key)) (same_itself kind key)
    by_test false e rest = ap (λ t. cond t (Some r.1) (assoc kind (put kind rs key value) key)) (less_other kind key r.0 e) ∙ rest

put_others : (kind : KeyKind) (rows : List Row) (key : Key) (value : ℤ) (k : Key) → same_keys kind k key ≡ false → assoc kind (put kind rows key value) k ≡ assoc kind rows k
put_others kind [] key value k other = ap (λ t. cond t (Some value) None) other
put_others kind (r ∷ rs) key value k other = by_test (at_most kind key r.0) (put_others kind rs key value k other)
  where
    by_test : (t : Bool) → assoc kind (put kind rs key value) k ≡ assoc kind rs k → assoc kind (cond t ((key, value) ∷ r ∷ rs) (r ∷ put kind rs key value)) k ≡ assoc kind (r ∷ rs) k
    by_test true rest = ap (λ t. cond t (Some value) (assoc kind (r ∷ rs) k)) other
    by_test false rest = ap (λ o. cond (same_keys kind k r.0) (Some r.1) o) rest

taken_changed : (kind : KeyKind) (rows : List Row) (key : Key) → assoc kind (without kind rows key) key ≡ None
taken_changed kind [] key = refl
taken_changed kind (r ∷ rs) key = by_test (same_keys kind key r.0) refl (taken_changed kind rs key)
  where
    by_test : (t : Bool) → same_keys kind key r.0 ≡ t → assoc kind (without kind rs key) key ≡ None → assoc kind (cond t (without kind rs key) (r ∷ without kind rs key)) key ≡ None
    by_test true e rest = rest
    by_test false e rest = ap (λ t. cond t (Some r.1) (assoc kind (without kind rs key) key)) e ∙ rest

pub flip : (kind : KeyKind) (a b : Key) → same_keys kind a b ≡ true → same_keys kind b a ≡ true
flip kind a b h = sym (same_same kind a b a h) ∙ same_itself kind a

taken_others : (kind : KeyKind) (rows : List Row) (key k : Key) → same_keys kind k key ≡ false → assoc kind (without kind rows key) k ≡ assoc kind rows k
taken_others kind [] key k other = refl
taken_others kind (r ∷ rs) key k other = by_test (same_keys kind key r.0) refl (taken_others kind rs key k other)
  where
    apart : same_keys kind key r.0 ≡ true → (t : Bool) → same_keys kind k r.0 ≡ t → same_keys kind k r.0 ≡ false
    apart same false e = e
    apart same true e =
        let there : same_keys kind k key ≡ true = same_same kind k r.0 key e ∙ flip kind key r.0 same in
        let bad : true ≡ false = sym there ∙ other in cc

    by_test : (t : Bool) → same_keys kind key r.0 ≡ t → assoc kind (without kind rs key) k ≡ assoc kind rs k → assoc kind (cond t (without kind rs key) (r ∷ without kind rs key)) k ≡ assoc kind (r ∷ rs) k
    by_test true e rest = rest ∙ sym (ap (λ t. cond t (Some r.1) (assoc kind rs k)) (apart e (same_keys kind k r.0) refl))
    by_test false e rest = ap (λ o. cond (same_keys kind k r.0) (Some r.1) o) rest

pub put_differs : (kind : KeyKind) (rows : List Row) (key : Key) (value : ℤ) → DiffersAt kind rows (put kind rows key value) key (Some value)
put_differs kind rows key value = record { changed = put_changed kind rows key value; others = put_others kind rows key value }

pub taken_differs : (kind : KeyKind) (rows : List Row) (key : Key) → DiffersAt kind rows (without kind rows key) key None
taken_differs kind rows key = record { changed = taken_changed kind rows key; others = taken_others kind rows key }

pub names_differ : (a b : Key) → a ≢ b → same_keys Text a b ≡ false
names_differ a b other = by_test (same_keys Text a b) refl
  where
    by_test : (t : Bool) → same_keys Text a b ≡ t → same_keys Text a b ≡ false
    by_test false e = e
    by_test true e = absurd (other (exact_bytes a b (equal-is (key_cmp Text a b) e)))
