-- The entries of a cache: one looked up, one taken out, one put first.
use Rattle.std.proofs.Common.{◌≡◌, ◌≢◌, ◌⊎◌, inl, inr, ⊎_elim, ℕ, zero, suc, ◌+◌, ◌-◌, ◌≤◌, max, nat_eq, List, [], ◌∷◌, length, take, refl, sym, ◌∙◌, ap, subst, arith, Bool, true, false, cond, Option, Some, None}
use Rattle.std.proofs.lemmas.Bool.{eqb-true, eq-eqb, true≢false}
use Rattle.std.proofs.lemmas.List.{take_all}
use Rattle.std.proofs.lemmas.Map.{lookup-remove_entry}
use Rattle.std.specs.Cmp.{nat_eq_equiv}
use Rattle.std.specs.List.{IsDistinct}
use Rattle.std.specs.Map.{lookup, lookup_entry, remove_entry, keys_of}
use Rattle.std.specs.Option.{option_map_or}
use Rattle.lru.specs.LruCache.{LruCache, promoted, put_entries}
use Rattle.bfs_cache.specs.Kept.{kept_of, without}

by_test : (b k : ℕ) (P : Type 0) → (nat_eq b k ≡ true → b ≡ k → P) → (nat_eq b k ≡ false → P) → P
by_test b k P same other = go (nat_eq b k) refl
  where
    go : (d : Bool) → nat_eq b k ≡ d → P
    go true e = same e (eqb-true b k e)
    go false e = other e

pub not_same : (a k : ℕ) → k ≢ a → nat_eq k a ≡ false
not_same a k other = by_test k a (nat_eq k a ≡ false) (λ t e. absurd (other e)) (λ f. f)

-- ---- looked up

pub found_entry : (b : ℕ) (es : List (ℕ × List ℕ)) (v : List ℕ) → lookup (nat_eq b) es ≡ Some v → (lookup_entry (nat_eq b) es ≡ Some (b, v)) × (length (remove_entry (nat_eq b) es) + 1 ≡ length es)
found_entry b [] v is = absurd (cc is)
found_entry b (e ∷ es) v is = by_test b e.0 ((lookup_entry (nat_eq b) (e ∷ es) ≡ Some (b, v)) × (length (remove_entry (nat_eq b) (e ∷ es)) + 1 ≡ length (e ∷ es)))
    (λ t same.
    let has : Some e.1 ≡ Some v = sym (ap (λ (d : Bool). cond d (Some e.1) (lookup (nat_eq b) es)) t) ∙ is in
    let val : e.1 ≡ v = cc has in
    let pair : e ≡ (b, v) = λ i. (sym same i, val i) in (
      ap (λ (d : Bool). cond d (Some e) (lookup_entry (nat_eq b) es)) t ∙ ap Some pair,
      ap (λ (d : Bool). length (cond d es (e ∷ remove_entry (nat_eq b) es)) + 1) t ∙ (let n : length es + 1 ≡ suc (length es) = omega arith in n),
    ))
    (λ f.
    let rest = found_entry b es v (sym (ap (λ (d : Bool). cond d (Some e.1) (lookup (nat_eq b) es)) f) ∙ is) in (
      ap (λ (d : Bool). cond d (Some e) (lookup_entry (nat_eq b) es)) f ∙ rest.0,
      ap (λ (d : Bool). length (cond d es (e ∷ remove_entry (nat_eq b) es)) + 1) f ∙ (let n : suc (length (remove_entry (nat_eq b) es)) + 1 ≡ suc (length es) = omega (arith, rest.1) in n),
    ))

pub missing_entry : (b : ℕ) (es : List (ℕ × List ℕ)) → lookup (nat_eq b) es ≡ None → (lookup_entry (nat_eq b) es ≡ None) × (remove_entry (nat_eq b) es ≡ es)
missing_entry b [] is = (refl, refl)
missing_entry b (e ∷ es) is = by_test b e.0 ((lookup_entry (nat_eq b) (e ∷ es) ≡ None) × (remove_entry (nat_eq b) (e ∷ es) ≡ e ∷ es))
    (λ t same. let has : Some e.1 ≡ None = sym (ap (λ (d : Bool). cond d (Some e.1) (lookup (nat_eq b) es)) t) ∙ is in absurd (cc has))
    (λ f.
    let rest = missing_entry b es (sym (ap (λ (d : Bool). cond d (Some e.1) (lookup (nat_eq b) es)) f) ∙ is) in (
      ap (λ (d : Bool). cond d (Some e) (lookup_entry (nat_eq b) es)) f ∙ rest.0,
      ap (λ (d : Bool). cond d es (e ∷ remove_entry (nat_eq b) es)) f ∙ ap (λ (xs : List (ℕ × List ℕ)). e ∷ xs) rest.1,
    ))

pub fewer : (b : ℕ) (es : List (ℕ × List ℕ)) → length (without b es) ≤ length es
fewer b [] = omega arith
fewer b (e ∷ es) = by_test b e.0 (length (without b (e ∷ es)) ≤ length (e ∷ es))
    (λ t same. subst (λ (d : Bool). length (cond d es (e ∷ without b es)) ≤ suc (length es)) (sym t) (omega arith))
    (λ f. subst (λ (d : Bool). length (cond d es (e ∷ without b es)) ≤ suc (length es)) (sym f) (let le = fewer b es in omega (arith, le)))

-- ---- put first

-- a block that is there goes first
pub promoted_is : (n b : ℕ) (es : List (ℕ × List ℕ)) (v : List ℕ) → lookup (nat_eq b) es ≡ Some v → length es ≤ n → promoted (nat_eq b) es ≡ take n ((b, v) ∷ without b es)
promoted_is n b es v is fits =
    let found = found_entry b es v is in
    ap (λ (o : Option (ℕ × List ℕ)). option_map_or (λ e. e ∷ remove_entry (nat_eq b) es) o es) found.0
    ∙ sym (take_all n ((b, v) ∷ without b es) (let le : suc (length (without b es)) ≤ n = omega (arith, fits, found.1) in le))

-- one that isn't changes nothing
pub promoted_none : (b : ℕ) (es : List (ℕ × List ℕ)) → lookup (nat_eq b) es ≡ None → promoted (nat_eq b) es ≡ es
promoted_none b es is = ap (λ (o : Option (ℕ × List ℕ)). option_map_or (λ e. e ∷ remove_entry (nat_eq b) es) o es) (missing_entry b es is).0

take_first : (n : ℕ) (e : ℕ × List ℕ) (es : List (ℕ × List ℕ)) → 1 ≤ n → take n (e ∷ es) ≡ e ∷ take (n - 1) es
take_first zero e es some = absurd (omega (arith, some))
take_first (suc n) e es some = ap (λ (m : ℕ). e ∷ take m es) (let same : n ≡ suc n - 1 = omega arith in same)

some_room : (n : ℕ) → n ≢ 0 → 1 ≤ n
some_room n some = omega (arith, some)

-- and a new one is put there
pub put_is : (n b : ℕ) (v : List ℕ) (c : LruCache ℕ (List ℕ)) → lookup (nat_eq b) c.entries ≡ None → c.cap ≡ max n 1 → n ≢ 0 → put_entries nat_eq c b v ≡ take n ((b, v) ∷ without b c.entries)
put_is n b v c is cap some =
    let missing = missing_entry b c.entries is in
    let one : 1 ≤ n = some_room n some in
    let room : c.cap - 1 ≡ n - 1 = omega (arith, cap, one) in
    let put : put_entries nat_eq c b v ≡ (b, v) ∷ take (c.cap - 1) c.entries = ap (λ (o : Option (ℕ × List ℕ)). option_map_or (λ e. (e.0, v) ∷ remove_entry (nat_eq b) c.entries) o ((b, v) ∷ take (c.cap - 1) c.entries)) missing.0 in
    let first : (b, v) ∷ take (c.cap - 1) c.entries ≡ take n ((b, v) ∷ c.entries) = ap (λ (m : ℕ). (b, v) ∷ take m c.entries) room ∙ sym (take_first n (b, v) c.entries one) in
    put ∙ first ∙ ap (λ (es : List (ℕ × List ℕ)). take n ((b, v) ∷ es)) (sym missing.1)

-- ---- the other blocks

pub lookup_taken : (k n : ℕ) (es : List (ℕ × List ℕ)) → (kept_of (take n es) k ≡ None) ⊎ (kept_of (take n es) k ≡ kept_of es k)
lookup_taken k zero es = inl refl
lookup_taken k (suc n) [] = inl refl
lookup_taken k (suc n) (e ∷ es) = by_test k e.0 ((kept_of (take (suc n) (e ∷ es)) k ≡ None) ⊎ (kept_of (take (suc n) (e ∷ es)) k ≡ kept_of (e ∷ es) k))
    (λ t same. inr (ap (λ (d : Bool). cond d (Some e.1) (kept_of (take n es) k)) t ∙ sym (ap (λ (d : Bool). cond d (Some e.1) (kept_of es k)) t)))
    (λ f. ⊎_elim
    (λ gone. inl (ap (λ (d : Bool). cond d (Some e.1) (kept_of (take n es) k)) f ∙ gone))
    (λ same. inr (ap (λ (o : Option (List ℕ)). cond (nat_eq k e.0) (Some e.1) o) same))
    (lookup_taken k n es))

pub others_stay : (b k : ℕ) (es : List (ℕ × List ℕ)) → k ≢ b → kept_of (without b es) k ≡ kept_of es k
others_stay b k [] other = refl
others_stay b k (e ∷ es) other = by_test b e.0 (kept_of (without b (e ∷ es)) k ≡ kept_of (e ∷ es) k)
    (λ t same.
    let apart : nat_eq k e.0 ≡ false = not_same e.0 k (λ is. other (is ∙ sym same)) in
    ap (λ (d : Bool). kept_of (cond d es (e ∷ without b es)) k) t ∙ sym (ap (λ (d : Bool). cond d (Some e.1) (kept_of es k)) apart))
    (λ f. ap (λ (d : Bool). kept_of (cond d es (e ∷ without b es)) k) f ∙ ap (λ (o : Option (List ℕ)). cond (nat_eq k e.0) (Some e.1) o) (others_stay b k es other))

pub is_gone : (b : ℕ) (es : List (ℕ × List ℕ)) → IsDistinct nat_eq (keys_of es) → kept_of (without b es) b ≡ None
is_gone b es once =
    lookup-remove_entry nat_eq_equiv (nat_eq b) (λ x y is. ap (λ (n : ℕ). nat_eq n y) (eqb-true b x is)) b es once
    ∙ ap (λ (d : Bool). cond d None (lookup (nat_eq b) es)) (eq-eqb b b refl)

-- what is kept of a block once another one was put first
pub first_at : (n b k : ℕ) (bytes : List ℕ) (es : List (ℕ × List ℕ)) → (kept_of (take n ((b, bytes) ∷ without b es)) k ≡ None) ⊎ (((k ≡ b) × (kept_of (take n ((b, bytes) ∷ without b es)) k ≡ Some bytes)) ⊎ (kept_of (take n ((b, bytes) ∷ without b es)) k ≡ kept_of es k))
first_at n b k bytes es = ⊎_elim inl
    (λ whole. by_test k b ((kept_of (take n ((b, bytes) ∷ without b es)) k ≡ None) ⊎ (((k ≡ b) × (kept_of (take n ((b, bytes) ∷ without b es)) k ≡ Some bytes)) ⊎ (kept_of (take n ((b, bytes) ∷ without b es)) k ≡ kept_of es k)))
    (λ t same. inr (inl (same, whole ∙ ap (λ (d : Bool). cond d (Some bytes) (kept_of (without b es) k)) t)))
    (λ f. inr (inr (whole ∙ ap (λ (d : Bool). cond d (Some bytes) (kept_of (without b es) k)) f ∙ others_stay b k es (λ same. true≢false (sym (eq-eqb k b same) ∙ f))))))
    (lookup_taken k n ((b, bytes) ∷ without b es))
