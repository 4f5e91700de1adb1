-- The pairs of an index, one after the other.
use Rattle.std.proofs.Common.{◌≡◌, ◌<◌, ◌+◌, ◌⊎◌, inl, inr, ◌∙◌, ℕ, zero, suc, List, [], ◌∷◌, ◌++◌, length, take, get_or, Bool, true, false, cond, refl, sym, ap, subst, arith}
use Rattle.std.specs.Prelude.{◌↔◌}
use Rattle.std.specs.List.{AllByRecursion, Contains}
use Rattle.std.specs.List.Sorted.{IsStrictlySortedBy}
use Rattle.std.specs.Str.{bytes_eq}
use Rattle.std.specs.declared.cmp.Ordering.TheVariants.{Less}
use Rattle.std.proofs.lemmas.Slice.Eq.{bytes_eq-Decides}
use Rattle.bfs_base.specs.declared.kind.KeyKind.{KeyKind}
use Rattle.bfs_index.specs.declared.found.Pair as kept
use Rattle.bfs_index.proofs.PairLists.{contains_in, in_contains, in_cases}
use Rattle.bfs_index_check.specs.Compared.{pair_of, pairs_of}
use Rattle.bfs_index_check.proofs.Prefixes.{next}
use Rattle.bfs_tree.specs.Listings.{pair_cmp}
use Rattle.bfs_tree.proofs.Members.{In}
use Rattle.bfs_shift.specs.Lists.{Lists, with_pairs}
use Rattle.bfs_shift.proofs.Parts.{lists_at}
use Rattle.bfs_index_make.specs.Filled.{MayStand, IsNextPair}

abbrev Pair : Type 0
Pair = List ℕ × ℕ

abbrev keyed : List ℕ → ℕ → Pair
keyed key id = (key, id)

-- other pairs of an index in the place of others
pub pairs_again : (lists : Lists) (name : List ℕ) (a b : List Pair) → with_pairs (with_pairs lists name a) name b ≡ with_pairs lists name b
pairs_again lists name a b = λ i. record { rows = lists.rows; names = lists.names; kinds = lists.kinds; pairs = λ index. by_test (bytes_eq index name) (lists.pairs index) i }
  where
    by_test : (t : Bool) (x : List Pair) → cond t b (cond t a x) ≡ cond t b x
    by_test true x = refl
    by_test false x = refl

-- and the same ones
pub pairs_same : (lists : Lists) (name : List ℕ) (pairs : List Pair) → lists.pairs name ≡ pairs → lists ≡ with_pairs lists name pairs
pairs_same lists name pairs are = λ i. record { rows = lists.rows; names = lists.names; kinds = lists.kinds; pairs = λ index. by_test index (bytes_eq index name) refl i }
  where
    by_test : (index : List ℕ) (t : Bool) → bytes_eq index name ≡ t → lists.pairs index ≡ cond t pairs (lists.pairs index)
    by_test index true e = ap lists.pairs ((bytes_eq-Decides index name).0 e) ∙ are
    by_test index false e = refl

behind : (xs ys : List Pair) (p : Pair) → In p ys → In p (xs ++ ys)
behind [] ys p i = i
behind (x ∷ xs) ys p i = inr (behind xs ys p i)

before : (xs ys : List Pair) (p : Pair) → In p xs → In p (xs ++ ys)
before [] ys p i = absurd i
before (x ∷ xs) ys p (inl e) = inl e
before (x ∷ xs) ys p (inr i) = inr (before xs ys p i)

-- the pairs of an index with one more behind them
pub one_more : (lists : Lists) (name : List ℕ) (front : List Pair) (key : List ℕ) (id : ℕ) (asked : List ℕ) → asked ≡ key → (k : List ℕ) (n : ℕ) → Contains (front ++ ((key, id) ∷ [])) (k, n) ↔ (Contains ((with_pairs lists name front).pairs name) (k, n) ⊎ ((k ≡ asked) × (n ≡ id)))
one_more lists name front key id asked same k n = (
  λ c. by_part (in_cases front ((key, id) ∷ []) (k, n) (contains_in (front ++ ((key, id) ∷ [])) (k, n) c)),
  λ o. in_contains (front ++ ((key, id) ∷ [])) (k, n) (by_cause o),
)
  where
    here : (with_pairs lists name front).pairs name ≡ front
    here = (lists_at lists).pairs_here name front

    by_part : In (keyed k n) front ⊎ In (keyed k n) (keyed key id ∷ []) → Contains ((with_pairs lists name front).pairs name) (k, n) ⊎ ((k ≡ asked) × (n ≡ id))
    by_part (inl i) = inl (subst (λ (l : List Pair). Contains l (k, n)) (sym here) (in_contains front (k, n) i))
    by_part (inr (inl e)) = inr (ap (λ (p : Pair). p.0) e ∙ sym same, ap (λ (p : Pair). p.1) e)
    by_part (inr (inr bad)) = absurd bad

    by_cause : Contains ((with_pairs lists name front).pairs name) (k, n) ⊎ ((k ≡ asked) × (n ≡ id)) → In (keyed k n) (front ++ (keyed key id ∷ []))
    by_cause (inl c) = before front ((key, id) ∷ []) (k, n) (contains_in front (k, n) (subst (λ (l : List Pair). Contains l (k, n)) here c))
    by_cause (inr e) = behind front ((key, id) ∷ []) (k, n) (inl (let a = e.0 ∙ same in let b = e.1 in λ i. (a i, b i)))

-- the first of pairs that ascend ascend
all_take : {A : Type 0} (P : A → Type 0) (i : ℕ) (xs : List A) → AllByRecursion P xs → AllByRecursion P (take i xs)
all_take P zero xs all = tt
all_take P (suc i) [] all = tt
all_take P (suc i) (x ∷ xs) all = (all.0, all_take P i xs all.1)

take_sorted : (kind : KeyKind) (i : ℕ) (ps : List Pair) → IsStrictlySortedBy (pair_cmp kind) ps → IsStrictlySortedBy (pair_cmp kind) (take i ps)
unfolding IsStrictlySortedBy
take_sorted kind zero ps s = tt
take_sorted kind (suc i) [] s = tt
take_sorted kind (suc i) (p ∷ ps) s = (all_take (λ (q : Pair). pair_cmp kind p q ≡ Less) i ps s.0, take_sorted kind i ps s.1)

all_at : {A : Type 0} (P : A → Type 0) (xs : List A) (i : ℕ) (x : A) → AllByRecursion P xs → i < length xs → x ≡ get_or xs i x → P x
all_at P [] i x all inside item = absurd (omega (arith, inside))
all_at P (y ∷ ys) zero x all inside item = subst P (sym item) all.0
all_at P (y ∷ ys) (suc i) x all inside item = all_at P ys i x all.1 (omega (arith, inside)) item

shown_at : (ps : List kept.Pair) (i : ℕ) (p : kept.Pair) → p ≡ get_or ps i p → pair_of p ≡ get_or (pairs_of ps) i (pair_of p)
shown_at [] i p item = refl
shown_at (q ∷ qs) zero p item = ap pair_of item
shown_at (q ∷ qs) (suc i) p item = shown_at qs i p item

pub shown_long : (ps : List kept.Pair) → length (pairs_of ps) ≡ length ps
shown_long [] = refl
shown_long (p ∷ ps) = ap suc (shown_long ps)

module _ (kind : KeyKind) (blocks : ℕ) (ps : List kept.Pair) (i : ℕ) (p : kept.Pair) (inside : i < length ps) (item : p ≡ get_or ps i p) where
  low : i < length (pairs_of ps)
  low = let e = shown_long ps in omega (arith, e, inside)

  pub next_pairs : take (i + 1) (pairs_of ps) ≡ take i (pairs_of ps) ++ (pair_of p ∷ [])
  next_pairs = next (pairs_of ps) i (pair_of p) low (shown_at ps i p item)

  pub next_pair : IsStrictlySortedBy (pair_cmp kind) (pairs_of ps) → AllByRecursion (MayStand kind blocks) (pairs_of ps) → IsNextPair kind blocks (take i (pairs_of ps)) (pair_of p)
  next_pair sorted may = record {
    sorted = subst (IsStrictlySortedBy (pair_cmp kind)) next_pairs (take_sorted kind (i + 1) (pairs_of ps) sorted);
    may = all_at (MayStand kind blocks) (pairs_of ps) i (pair_of p) may low (shown_at ps i p item);
  }
