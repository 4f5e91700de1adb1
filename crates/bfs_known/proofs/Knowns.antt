-- What is known, as the entries of the program's map and as a finite map.
use Rattle.std.proofs.Common.{◌≡◌, ◌≤◌, ◌<◌, ◌+◌, ◌-◌, ◌↔◌, ℕ, List, [], ◌∷◌, Some, None, Bool, true, false, cond, IsTrue, length, refl, ap, sym, ◌∙◌, arith}
use Rattle.std.specs.Prelude.{◌==◌, ◌&&◌, slice_index}
use Rattle.std.specs.List.{filter, list_all, All, AllByRecursion}
use Rattle.std.specs.Map.{lookup}
use Rattle.std.specs.Ordering.{nat_cmp, ordering_then, is_eq, eq_by_cmp}
use Rattle.std.specs.declared.cmp.Ordering.{Ordering}
use Rattle.std.specs.declared.cmp.Ordering.TheVariants.{Less, Equal, Greater}
use Rattle.std.specs.Cmp.{IsTotalOrder, nat_cmp_total, eq_by_cmp_equiv}
use Rattle.std.proofs.lemmas.Cmp.{then_total, on_total}
use Rattle.std.proofs.lemmas.List.Elements.{recursion_from_All}
use Rattle.std.specs.FinMap.{find, get, insert, retain_keys, IsAntisymmetric, same_map, get-from_entries, get-insert, get-retain_keys, nat_cmp-IsAntisymmetric}
use Rattle.std.specs.FinMap.Entries.{where_key, find-where_key}
use Rattle.bfs_tree.specs.States.{AgreesWith, place_cmp, is_in}
use Rattle.bfs_known.specs.Known.{known_of, fits_at}

pub place_cmp_total : IsTotalOrder place_cmp
place_cmp_total = then_total (on_total (λ (p : ℕ × ℕ). p.0) nat_cmp_total) (on_total (λ (p : ℕ × ℕ). p.1) nat_cmp_total)

pub place_cmp-same : IsAntisymmetric place_cmp
place_cmp-same x y e =
    elim (nat_cmp x.0 y.0) as (λ o. nat_cmp x.0 y.0 ≡ o → ordering_then o (nat_cmp x.1 y.1) ≡ Equal → x ≡ y) [
      | Less ↦ λ _ no_tie. cc
      | Equal ↦ λ first second i. (nat_cmp-IsAntisymmetric x.0 y.0 first i, nat_cmp-IsAntisymmetric x.1 y.1 second i)
      | Greater ↦ λ _ no_tie. cc
    ] refl e

alike : (p : ℕ × ℕ → Bool) (q x : ℕ × ℕ) → place_cmp q x ≡ Equal → p x ≡ p q
alike p q x e = ap p (sym (place_cmp-same q x e))

-- what a look-up finds
find-known : (q : ℕ × ℕ) (es : List ((ℕ × ℕ) × ℕ)) → find place_cmp q es ≡ lookup (λ k. is_eq (place_cmp q k)) es
find-known q [] = refl
find-known q (e ∷ es) = ap (λ o. cond (is_eq (place_cmp q e.0)) (Some e.1) o) (find-known q es)

pub known-at : (q : ℕ × ℕ) (es : List ((ℕ × ℕ) × ℕ)) → get (known_of es) q ≡ lookup (λ k. is_eq (place_cmp q k)) es
known-at q es = get-from_entries place_cmp_total es q ∙ find-known q es

-- the entries of places that pass a test
kept : (p : ℕ × ℕ → Bool) (es : List ((ℕ × ℕ) × ℕ)) → filter (λ e. p e.0) es ≡ where_key place_cmp p es
kept p [] = refl
kept p (e ∷ es) = ap (λ l. cond (p e.0) (e ∷ l) l) (kept p es)

pub known-kept : (p : ℕ × ℕ → Bool) (es fs : List ((ℕ × ℕ) × ℕ)) → fs ≡ filter (λ e. p e.0) es → known_of fs ≡ retain_keys (known_of es) p
known-kept p es fs is =
    ap known_of is
    ∙ same_map place_cmp_total place_cmp-same _ _ (λ q.
    get-from_entries place_cmp_total (filter (λ e. p e.0) es) q
    ∙ ap (find place_cmp q) (kept p es)
    ∙ find-where_key place_cmp p q (λ x e. alike p q x e) es
    ∙ ap (λ o. cond (p q) o None) (sym (get-from_entries place_cmp_total es q))
    ∙ sym (get-retain_keys (known_of es) p q (λ x e. alike p q x e)))

-- a byte that is put at a place
pub known-put : (k : ℕ × ℕ) (v : ℕ) (es fs : List ((ℕ × ℕ) × ℕ))
    → ((q : ℕ × ℕ) → lookup (λ x. is_eq (place_cmp q x)) fs ≡ cond (is_eq (place_cmp k q)) (Some v) (lookup (λ x. is_eq (place_cmp q x)) es))
    → known_of fs ≡ insert (known_of es) k v
known-put k v es fs put =
    same_map place_cmp_total place_cmp-same _ _ (λ q.
    known-at q fs ∙ put q
    ∙ ap (λ b. cond b (Some v) (lookup (eq_by_cmp place_cmp q) es)) ((eq_by_cmp_equiv place_cmp_total).symm k q)
    ∙ ap (λ o. cond (eq_by_cmp place_cmp q k) (Some v) o) (sym (known-at q es))
    ∙ sym (get-insert place_cmp_total (known_of es) k v q))

both : (a b : Bool) → (a && b) ≡ true → (a ≡ true) × (b ≡ true)
both true true e = (refl, refl)
both true false e = cc
both false b e = cc

is-equal : (o : Ordering) → is_eq o ≡ true → o ≡ Equal
is-equal Less e = cc
is-equal Equal e = refl
is-equal Greater e = cc

same-number : (a b : ℕ) → (a == b) ≡ true → a ≡ b
same-number a b e = grind (arith, e)

is-same : (a b : ℕ) → a ≡ b → (a == b) ≡ true
is-same a b e = grind (arith, e)

in-piece : (id at k n : ℕ) → k < n → is_in id at n (id, at + k) ≡ true
in-piece id at k n short = grind (arith, short)

out-of-piece : (id at n : ℕ) (q : ℕ × ℕ) → is_in id at n q ≡ true → (at ≤ q.1) × (q.1 - at < n) × (q.0 ≡ id)
out-of-piece id at n q e = (grind (arith, e), grind (arith, e), grind (arith, e))

module _ (id at : ℕ) (bytes : List ℕ) where
  abbrev tested : (ℕ × ℕ) × ℕ → Bool → Bool
  tested e c = cond c (slice_index bytes (e.0.1 - at) == e.1) true

  fits-known : (q : ℕ × ℕ) (b : ℕ) (es : List ((ℕ × ℕ) × ℕ)) → list_all (fits_at id at bytes) es ≡ true → lookup (λ k. is_eq (place_cmp q k)) es ≡ Some b → fits_at id at bytes (q, b) ≡ true
  fits-known q b [] all e = cc
  fits-known q b (x ∷ xs) all e =
      by (is_eq (place_cmp q x.0)) refl e (fits-known q b xs (both (fits_at id at bytes x) (list_all (fits_at id at bytes) xs) all).1)
    where
      by : (c : Bool) → is_eq (place_cmp q x.0) ≡ c → cond c (Some x.1) (lookup (λ k. is_eq (place_cmp q k)) xs) ≡ Some b → (lookup (λ k. is_eq (place_cmp q k)) xs ≡ Some b → fits_at id at bytes (q, b) ≡ true) → fits_at id at bytes (q, b) ≡ true
      by true tie s later =
          let place : q ≡ x.0 = place_cmp-same q x.0 (is-equal (place_cmp q x.0) tie) in
          let byte : b ≡ x.1 = cc in
          let pair : (q, b) ≡ x = λ i. (place i, byte i) in
          ap (fits_at id at bytes) pair ∙ (both (fits_at id at bytes x) (list_all (fits_at id at bytes) xs) all).0
      by false tie s later = later s

  module _ (es : List ((ℕ × ℕ) × ℕ)) where
    fit-agrees : list_all (fits_at id at bytes) es ≡ true → AgreesWith (known_of es) id at bytes
    fit-agrees all k b short found =
        let fits : fits_at id at bytes ((id, at + k), b) ≡ true = fits-known (id, at + k) b es all (sym (known-at (id, at + k) es) ∙ found) in
        let same : (slice_index bytes (at + k - at) == b) ≡ true = sym (ap (tested ((id, at + k), b)) (in-piece id at k (length bytes) short)) ∙ fits in
        let there : k ≡ at + k - at = omega arith in
        ap (slice_index bytes) there ∙ same-number (slice_index bytes (at + k - at)) b same

    one-fits : AgreesWith (known_of es) id at bytes → (x : (ℕ × ℕ) × ℕ) → lookup (λ k. is_eq (place_cmp x.0 k)) es ≡ Some x.1 → fits_at id at bytes x ≡ true
    one-fits agrees x found = by (is_in id at (length bytes) x.0) refl
      where
        by : (c : Bool) → is_in id at (length bytes) x.0 ≡ c → fits_at id at bytes x ≡ true
        by false e = ap (tested x) e
        by true e =
            let parts : (at ≤ x.0.1) × (x.0.1 - at < length bytes) × (x.0.0 ≡ id) = out-of-piece id at (length bytes) x.0 e in
            let there : at + (x.0.1 - at) ≡ x.0.1 = omega (arith, parts.0) in
            let place : (id, at + (x.0.1 - at)) ≡ x.0 = λ i. (sym parts.2 i, there i) in
            ap (tested x) e ∙ is-same (slice_index bytes (x.0.1 - at)) x.1 (agrees (x.0.1 - at) x.1 parts.1 (ap (get (known_of es)) place ∙ known-at x.0 es ∙ found))

    all-fit : AgreesWith (known_of es) id at bytes → (xs : List ((ℕ × ℕ) × ℕ)) → AllByRecursion (λ x. lookup (λ k. is_eq (place_cmp x.0 k)) es ≡ Some x.1) xs → list_all (fits_at id at bytes) xs ≡ true
    all-fit agrees [] found = refl
    all-fit agrees (x ∷ xs) found = ap (λ c. c && list_all (fits_at id at bytes) xs) (one-fits agrees x found.0) ∙ all-fit agrees xs found.1

    -- each entry fits just where the bytes are those that are known
    pub known-fits : All (λ x. lookup (λ k. is_eq (place_cmp x.0 k)) es ≡ Some x.1) es → IsTrue (list_all (fits_at id at bytes) es) ↔ AgreesWith (known_of es) id at bytes
    known-fits found = (fit-agrees, λ agrees. all-fit agrees es (recursion_from_All (λ x. lookup (λ k. is_eq (place_cmp x.0 k)) es ≡ Some x.1) es found))
