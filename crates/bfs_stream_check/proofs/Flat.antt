-- Lists one after the other, as far as a loop has come.
use Rattle.std.proofs.Common.{◌≡◌, ◌≤◌, ◌<◌, ◌+◌, ◌*◌, ℕ, zero, suc, List, [], ◌∷◌, ◌++◌, length, take, drop, get_or, refl, sym, ap, ◌∙◌, subst, arith, append_assoc, length-append, IsSome, Option, Some}
use Rattle.std.specs.Prelude.{All}
use Rattle.std.specs.List.{flat_map}
use Rattle.std.proofs.lemmas.Grind.{flat_map-append}
use Rattle.std.proofs.lemmas.List.{take_more, drop_more, take-append-drop, take_all}
use Rattle.bfs_base.specs.Lists.{counted_from, Has, times}
use Rattle.bfs_bytes.specs.declared.Run.{Run}
use Rattle.bfs_stream.specs.Sizes.{Sizes, IsInVolume, first_block}
use Rattle.bfs_stream.specs.Places.{run_blocks}
use Rattle.bfs_stream.proofs.Levels.{length-counted, counted_get}
use Rattle.std.proofs.lemmas.Option.{get_or_from_slice_get}

pub append_nil : {X : Type 0} (xs : List X) → xs ++ [] ≡ xs
append_nil [] = refl
append_nil {X} (x ∷ xs) = ap (λ (l : List X). x ∷ l) (append_nil xs)

module _ {A : Type 0} (f : A → List Run) (xs : List A) (i : ℕ) (x : A) (inside : i < length xs) (is : get_or xs i x ≡ x) where
  pub flat_next : flat_map f (take (i + 1) xs) ≡ flat_map f (take i xs) ++ f x
  flat_next =
      ap (flat_map f) (take_more xs i x inside ∙ ap (λ (y : A). take i xs ++ y ∷ []) is)
      ∙ flat_map-append f (take i xs) (x ∷ [])
      ∙ ap (λ (l : List Run). flat_map f (take i xs) ++ l) (append_nil (f x))

  pub flat_split : flat_map f xs ≡ flat_map f (take i xs) ++ (f x ++ flat_map f (drop (i + 1) xs))
  flat_split =
      ap (flat_map f) (sym (take-append-drop i xs))
      ∙ flat_map-append f (take i xs) (drop i xs)
      ∙ ap (λ (l : List A). flat_map f (take i xs) ++ flat_map f l) (drop_more xs i x inside ∙ ap (λ (y : A). y ∷ drop (i + 1) xs) is)

pub flat_all : {A : Type 0} (f : A → List Run) (xs : List A) (i : ℕ) → length xs ≤ i → flat_map f (take i xs) ≡ flat_map f xs
flat_all f xs i past = ap (flat_map f) (take_all i xs past)

-- the block at a place of a run
pub block_at : (first n i : ℕ) → i < n → get_or (counted_from first n) i (first + i) ≡ first + i
block_at first n i inside = get_or_from_slice_get (counted_from first n) i (first + i) (first + i) (counted_get first n i inside)

-- what stands at a place inside a list doesn't depend on what is given for places outside
pub same_get : {X : Type 0} (xs : List X) (i : ℕ) (d e : X) → i < length xs → get_or xs i d ≡ get_or xs i e
same_get [] i d e h = absurd (omega (arith, h))
same_get (x ∷ xs) zero d e h = refl
same_get (x ∷ xs) (suc i) d e h = same_get xs i d e (omega (arith, h))
