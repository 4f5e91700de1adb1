-- The pages of a chain.
use Rattle.std.proofs.Common.{◌≡◌, ◌≢◌, ℕ, List, [], ◌∷◌, ◌++◌, inl, inr, refl, ap, sym, ◌∙◌, append_assoc}
use Rattle.bfs_pages.specs.Answers.{IsChild, IsLink}
use Rattle.bfs_pages.specs.Trees.{page_in}
use Rattle.bfs_values.specs.Values.{page_numbers, numbers_of_pages}

pub numbers-append : (b xs ys : List ℕ) → numbers_of_pages b (xs ++ ys) ≡ numbers_of_pages b xs ++ numbers_of_pages b ys
numbers-append b [] ys = refl
numbers-append b (x ∷ xs) ys = ap (λ z. page_numbers (page_in b x) ++ z) (numbers-append b xs ys) ∙ sym (append_assoc (page_numbers (page_in b x)) (numbers_of_pages b xs) (numbers_of_pages b ys))

pub link-child : (size x : ℕ) → IsLink size x → x ≢ 0 → IsChild size x
link-child size x (inl z) n = absurd (n z)
link-child size x (inr p) n = p
