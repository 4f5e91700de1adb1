-- Of two lists that ascend and begin alike, the lower of the next two pairs stands in one list alone.
use Rattle.std.proofs.Common.{◌≡◌, ◌⊎◌, inl, inr, ◌∙◌, List, [], ◌∷◌, ◌++◌, true, false, refl, sym, ap, subst}
use Rattle.std.specs.List.{AllByRecursion}
use Rattle.std.specs.List.Sorted.{IsStrictlySortedBy}
use Rattle.std.specs.Cmp.{IsTotalOrder, tied_itself}
use Rattle.std.specs.Ordering.{is_lt}
use Rattle.std.specs.declared.cmp.Ordering.TheVariants.{Less}
use Rattle.bfs_base.specs.declared.kind.KeyKind.{KeyKind}
use Rattle.bfs_tree.specs.Listings.{pair_cmp}
use Rattle.bfs_tree.proofs.Sorting.{pair_cmp_total}
use Rattle.bfs_sound.specs.Owners.{In}
use Rattle.bfs_index_check.specs.Compared.{Pair, Ascends}

all_has : (P : Pair → Type 0) (xs : List Pair) (y : Pair) → AllByRecursion P xs → In y xs → P y
all_has P [] y all h = absurd h
all_has P (x ∷ xs) y all (inl e) = subst P (sym e) all.0
all_has P (x ∷ xs) y all (inr h) = all_has P xs y all.1 h

all_last : (P : Pair → Type 0) (xs : List Pair) (y : Pair) (ys : List Pair) → AllByRecursion P (xs ++ (y ∷ ys)) → P y
all_last P [] y ys all = all.0
all_last P (x ∷ xs) y ys all = all_last P xs y ys all.1

module _ (kind : KeyKind) where
  total : IsTotalOrder (pair_cmp kind)
  total = pair_cmp_total kind

  never : (x : Pair) → pair_cmp kind x x ≡ Less → ⊥
  never x e = let bad : false ≡ true = ap is_lt (sym (tied_itself total x) ∙ e) in absurd cc

  both_ways : (x y : Pair) → pair_cmp kind x y ≡ Less → pair_cmp kind y x ≡ Less → ⊥
  both_ways x y one two = never x (total.trans x y x one two)

  -- what stands in front is lower
  in_front : (front : List Pair) (x y : Pair) (back : List Pair) → Ascends kind (front ++ (x ∷ back)) → In y front → pair_cmp kind y x ≡ Less
  unfolding IsStrictlySortedBy
  in_front [] x y back up h = absurd h
  in_front (z ∷ zs) x y back up (inl e) = subst (λ (k : Pair). pair_cmp kind k x ≡ Less) (sym e) (all_last (λ k. pair_cmp kind z k ≡ Less) zs x back up.0)
  in_front (z ∷ zs) x y back up (inr h) = in_front zs x y back up.1 h

  -- what stands behind is higher
  behind : (front : List Pair) (x y : Pair) (back : List Pair) → Ascends kind (front ++ (x ∷ back)) → In y back → pair_cmp kind x y ≡ Less
  unfolding IsStrictlySortedBy
  behind [] x y back up h = all_has (λ k. pair_cmp kind x k ≡ Less) back y up.0 h
  behind (z ∷ zs) x y back up h = behind zs x y back up.1 h

  pub not_in_front : (front : List Pair) (x : Pair) (back : List Pair) → Ascends kind (front ++ (x ∷ back)) → In x front → ⊥
  not_in_front front x back up h = never x (in_front front x x back up h)

  parts : (front : List Pair) (x y : Pair) (back : List Pair) → In y (front ++ (x ∷ back)) → In y front ⊎ (y ≡ x) ⊎ In y back
  parts [] x y back (inl e) = inr (inl e)
  parts [] x y back (inr h) = inr (inr h)
  parts (z ∷ zs) x y back (inl e) = inl (inl e)
  parts (z ∷ zs) x y back (inr h) = further (parts zs x y back h)
    where
      further : In y zs ⊎ (y ≡ x) ⊎ In y back → In y (z ∷ zs) ⊎ (y ≡ x) ⊎ In y back
      further (inl i) = inl (inr i)
      further (inr i) = inr i

  -- the next pair of the one list, below the next of the other, isn't in the other
  pub lower_is_missing : (met : List Pair) (x : Pair) (xs : List Pair) (p : Pair) (ps : List Pair) → pair_cmp kind x p ≡ Less → Ascends kind (met ++ (x ∷ xs)) → Ascends kind (met ++ (p ∷ ps)) → In x (met ++ (p ∷ ps)) → ⊥
  lower_is_missing met x xs p ps less up other h = by_part (parts met p x ps h)
    where
      by_part : In x met ⊎ (x ≡ p) ⊎ In x ps → ⊥
      by_part (inl i) = not_in_front met x xs up i
      by_part (inr (inl e)) = never x (subst (λ (k : Pair). pair_cmp kind x k ≡ Less) (sym e) less)
      by_part (inr (inr i)) = both_ways x p less (behind met p x ps other i)

  -- the next pair of the other list, which isn't the next of the one and not above it, isn't in the one
  pub other_is_extra : (met : List Pair) (x : Pair) (xs : List Pair) (p : Pair) (ps : List Pair) → (x ≡ p → ⊥) → (pair_cmp kind x p ≡ Less → ⊥) → Ascends kind (met ++ (x ∷ xs)) → Ascends kind (met ++ (p ∷ ps))
      → In p (met ++ (x ∷ xs)) → ⊥
  other_is_extra met x xs p ps differs above up other h = by_part (parts met x p xs h)
    where
      by_part : In p met ⊎ (p ≡ x) ⊎ In p xs → ⊥
      by_part (inl i) = not_in_front met p ps other i
      by_part (inr (inl e)) = differs (sym e)
      by_part (inr (inr i)) = above (behind met x p xs up i)

pub there : (met : List Pair) (x : Pair) (xs : List Pair) → In x (met ++ (x ∷ xs))
there [] x xs = inl refl
there (m ∷ ms) x xs = inr (there ms x xs)
