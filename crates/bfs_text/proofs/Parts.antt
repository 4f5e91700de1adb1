-- The parts of a path, one by one.
use Rattle.std.proofs.Common.{◌≡◌, ℕ, List, [], ◌∷◌, ◌++◌, ap, refl, sym, ◌∙◌, append_assoc, Option, Some, None}
use Rattle.bfs_text.specs.Words.{name_of, parts_of, part_before, before}

before_part : (xs : List (List ℕ)) (name : List ℕ) (more : Option (List (List ℕ))) → before xs (part_before (Some name) more) ≡ before (xs ++ name ∷ []) more
before_part xs name None = refl
before_part xs name (Some ys) = ap Some (sym (append_assoc xs (name ∷ []) ys))

-- one part more
pub part_more : (whole : Option (List (List ℕ))) (old new pieces left : List (List ℕ)) (piece name : List ℕ)
    → whole ≡ before old (parts_of pieces) → pieces ≡ piece ∷ left → name_of piece ≡ Some name → new ≡ old ++ name ∷ [] → whole ≡ before new (parts_of left)
part_more whole old new pieces left piece name so_far is named items =
    so_far ∙ ap (λ (ps : List (List ℕ)). before old (parts_of ps)) is ∙ ap (λ (n : Option (List ℕ)). before old (part_before n (parts_of left))) named
    ∙ before_part old name (parts_of left) ∙ ap (λ (xs : List (List ℕ)). before xs (parts_of left)) (sym items)
