-- Inodes that are gone over one after the other.
use Rattle.std.proofs.Common.{◌≡◌, ◌≤◌, ◌<◌, ◌+◌, ◌∙◌, inl, inr, ℕ, List, [], ◌∷◌, ◌++◌, length, take, drop, get_or, refl, sym, ap, subst, arith, append-nil}
use Rattle.std.proofs.lemmas.List.{take_more, drop_more, take-append-drop, take_all}
use Rattle.std.proofs.lemmas.Grind.{flat_map-append}
use Rattle.std.specs.List.{AllByRecursion}
use Rattle.bfs_base.specs.Lists.{times}
use Rattle.bfs_claims.proofs.Claiming.{times_append}
use Rattle.bfs_sound.specs.Volumes.{Volume}
use Rattle.bfs_sound.specs.Owners.{In}
use Rattle.bfs_owner.specs.Owned.{blocks_at, blocks_of_places}
use Rattle.bfs_owner.specs.declared.place.Place.{Place}

module _ (places : List Place) (i : ℕ) (d : Place) (inside : i < length places) where
  abbrev p : Place
  p = get_or places i d

  parts : places ≡ take i places ++ (p ∷ drop (i + 1) places)
  parts = sym (take-append-drop i places) ∙ ap (λ (l : List Place). take i places ++ l) (drop_more places i d inside)

  next : take (i + 1) places ≡ take i places ++ (p ∷ [])
  next = take_more places i d inside

  pub in_places : In p places
  in_places = subst (In p) (sym parts) (behind (take i places))
    where
      behind : (front : List Place) → In p (front ++ (p ∷ drop (i + 1) places))
      behind [] = inl refl
      behind (q ∷ qs) = inr (behind qs)

  pub of_all : (P : Place → Type 0) → AllByRecursion P places → P p
  of_all P all = at (take i places) (subst (AllByRecursion P) parts all)
    where
      at : (front : List Place) → AllByRecursion P (front ++ (p ∷ drop (i + 1) places)) → P p
      at [] a = a.0
      at (q ∷ qs) a = at qs a.1

  module _ (v : Volume) where
    blocks_next : blocks_of_places v (take (i + 1) places) ≡ blocks_of_places v (take i places) ++ blocks_at v p
    blocks_next =
        ap (blocks_of_places v) next
        ∙ flat_map-append (blocks_at v) (take i places) (p ∷ [])
        ∙ ap (λ (l : List ℕ). blocks_of_places v (take i places) ++ l) (append-nil (blocks_at v p))

    pub none_next : (block : ℕ) → times block (blocks_of_places v (take i places)) ≡ 0 → times block (blocks_at v p) ≡ 0 → times block (blocks_of_places v (take (i + 1) places)) ≡ 0
    none_next block before here =
        let all : times block (blocks_of_places v (take i places) ++ blocks_at v p) ≡ times block (blocks_of_places v (take i places)) + times block (blocks_at v p) = times_append block (blocks_of_places v (take i places)) (blocks_at v p) in
        ap (times block) blocks_next ∙ (let sum : times block (blocks_of_places v (take i places) ++ blocks_at v p) ≡ 0 = omega (arith, all, before, here) in sum)

-- where all were gone over, none has the block
pub none_has : (v : Volume) (places : List Place) (i block : ℕ) → length places ≤ i → times block (blocks_of_places v (take i places)) ≡ 0 → times block (blocks_of_places v places) ≡ 0
none_has v places i block past none = subst (λ (l : List Place). times block (blocks_of_places v l) ≡ 0) (take_all i places past) none
