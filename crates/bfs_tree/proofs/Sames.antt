-- Lists that are the same at each place.
use Rattle.std.proofs.Common.{◌≡◌, ℕ, zero, suc, ◌<◌, List, [], ◌∷◌, length, refl, arith}
use Rattle.std.specs.Prelude.{slice_index_or}

pub same-by-places : {A : Type 0} (xs ys : List A) → length xs ≡ length ys → ((k : ℕ) (d : A) → k < length xs → slice_index_or xs k d ≡ slice_index_or ys k d) → xs ≡ ys
same-by-places [] [] long same = refl
same-by-places [] (y ∷ ys) long same = absurd (omega (arith, long))
same-by-places (x ∷ xs) [] long same = absurd (omega (arith, long))
same-by-places (x ∷ xs) (y ∷ ys) long same =
    let head : x ≡ y = same zero x (omega arith) in
    let rest : xs ≡ ys = same-by-places xs ys (omega (arith, long)) (λ k d h. same (suc k) d (omega (arith, h))) in
    λ t. head t ∷ rest t
