-- Lists of which one more is taken up, and what holds of all of both.
use Rattle.std.proofs.Common.{◌≡◌, ◌<◌, ℕ, zero, suc, List, [], ◌∷◌, ◌++◌, get_or, length, sym, ap, ◌∙◌, arith, append_assoc}
use Rattle.std.specs.List.{AllByRecursion, flat_map}
use Rattle.std.proofs.lemmas.List.Concat.{flat_map-append}

-- what stands for one goes over to what is done
pub moved : {X A : Type 0} (f g : X → List A) (done more : List X) (x : X) (rest : List X) → flat_map f more ≡ g x → flat_map f done ++ flat_map g (x ∷ rest) ≡ flat_map f (done ++ more) ++ flat_map g rest
moved {X} {A} f g done more x rest e =
    ap (λ (l : List A). flat_map f done ++ (l ++ flat_map g rest)) (sym e)
    ∙ sym (append_assoc (flat_map f done) (flat_map f more) (flat_map g rest))
    ∙ ap (λ (l : List A). l ++ flat_map g rest) (sym (flat_map-append f done more))

pub all_join : {X : Type 0} (P : X → Type 0) (xs ys : List X) → AllByRecursion P xs → AllByRecursion P ys → AllByRecursion P (xs ++ ys)
all_join P [] ys a b = b
all_join P (x ∷ xs) ys a b = (a.0, all_join P xs ys a.1 b)

pub all_before : {X : Type 0} (P : X → Type 0) (xs ys : List X) → AllByRecursion P (xs ++ ys) → AllByRecursion P xs
all_before P [] ys a = tt
all_before P (x ∷ xs) ys a = (a.0, all_before P xs ys a.1)

pub all_behind : {X : Type 0} (P : X → Type 0) (xs ys : List X) → AllByRecursion P (xs ++ ys) → AllByRecursion P ys
all_behind P [] ys a = a
all_behind P (x ∷ xs) ys a = all_behind P xs ys a.1

-- one of a list of which all have it
pub all_at : {X : Type 0} (P : X → Type 0) (xs : List X) (i : ℕ) (d : X) → i < length xs → AllByRecursion P xs → P (get_or xs i d)
all_at P [] i d h a = absurd (omega (arith, h))
all_at P (x ∷ xs) zero d h a = a.0
all_at P (x ∷ xs) (suc i) d h a = all_at P xs i d (omega (arith, h)) a.1
